use Rattle.std.proofs.Common.{◌∙◌, sym}
use Rattle.pc_text.specs.Words.{words}
use Rattle.pc_lines.proofs.Counted.{sizes_past, sizes_are}
use Rattle.pc_lines.proofs.heads.sizes.Goals as goal

pub returns-then-are_within-clause-value : goal.returns-then-are_within-clause-value
returns-then-are_within-clause-value c =
    sym (sizes_are c.args.most c.requires (words c.args.line.now) c.args.number c.in-Some.points c.in-Some.edges c.in-Some.variables (sym c.in-Some.is ∙ c.three_counts.ensures) (sym c.are_within.ensures ∙ c.if-are_within.true))

pub returns-else-are_within-clause-value : goal.returns-else-are_within-clause-value
returns-else-are_within-clause-value c =
    sym (sizes_past c.args.most c.requires (words c.args.line.now) c.args.number c.in-Some.points c.in-Some.edges c.in-Some.variables (sym c.in-Some.is ∙ c.three_counts.ensures) (sym c.are_within.ensures ∙ c.if-are_within.false))
