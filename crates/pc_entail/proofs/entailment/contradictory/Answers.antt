use Rattle.pc_rows.specs.Substitution.{never_row}
use Rattle.pc_entail.proofs.Finding.{contradictory_is, contradictory_states}
use Rattle.pc_entail.proofs.Settling.{tells_alone}
use Rattle.pc_entail.proofs.entailment.contradictory.Goals as goal

pub returns-clause-exact : goal.returns-clause-exact
returns-clause-exact c = tells_alone c.args.a.now never_row c.show-3.result (rw (c.new.ensures, c.of_constant.ensures) at c.show-3.ensures.exact)

pub returns-clause-evidence : goal.returns-clause-evidence
returns-clause-evidence c = contradictory_is c.args.a.now c.show-3.result (rw (c.new.ensures, c.of_constant.ensures) at c.show-3.ensures.evidence)

pub returns-clause-states : goal.returns-clause-states
returns-clause-states c = contradictory_states c.args.a.now c.show-3.result (contradictory_is c.args.a.now c.show-3.result (rw (c.new.ensures, c.of_constant.ensures) at c.show-3.ensures.evidence))
