use Rattle.std.proofs.Common.{sym, ◌∙◌}
use Rattle.pc_elim.proofs.Settlement.{free_comes}
use Rattle.pc_elim.proofs.settle.taken_over.Goals as goal

pub returns-then-not-has_variable : goal.returns-then-not-has_variable
returns-then-not-has_variable c = free_comes c.args.k c.args.start.now c.args.p (sym c.has_variable.ensures ∙ c.if-not-has_variable.true)
