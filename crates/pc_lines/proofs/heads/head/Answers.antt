use Rattle.std.proofs.Common.{◌∙◌, sym}
use Rattle.pc_text.specs.Words.{words}
use Rattle.pc_lines.proofs.Counted.{head_is}
use Rattle.pc_lines.proofs.heads.head.Goals as goal

pub returns-then-count-most-clause-value : goal.returns-then-count-most-clause-value
returns-then-count-most-clause-value c =
    head_is c.args.name.now (words c.args.line.now) c.args.number c.args.running c.args.most c.in-Some.first c.in-Some.count (sym c.in-Some.is ∙ c.two_counts.ensures) c.requires.running c.requires.most c.if-first-running.true c.if-count-most.true
