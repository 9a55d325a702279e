use Rattle.std.proofs.Common.{sym, ◌∙◌, ap}
use Rattle.pc_elim.specs.Places.{has_variable}
use Rattle.pc_elim.proofs.Settlement.{free_next}
use Rattle.pc_elim.proofs.settle.next.Goals as goal

pub returns-then-not-has_variable-clause-value : goal.returns-then-not-has_variable-clause-value
returns-then-not-has_variable-clause-value c = free_next c.args.j c.args.rows (ap (has_variable c.args.j) (sym c.as_slice.ensures) ∙ sym c.has_variable.ensures ∙ c.if-not-has_variable.true) c.requires.most
