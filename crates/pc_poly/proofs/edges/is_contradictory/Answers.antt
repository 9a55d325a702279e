use Rattle.std.proofs.Common.{ap, subst, Bool, Ok}
use Rattle.pc_entail.specs.Showing.{ContradictoryIs}
use Rattle.pc_poly.proofs.edges.is_contradictory.Goals as goal

pub returns-in-Ok-clause-states : goal.returns-in-Ok-clause-states
returns-in-Ok-clause-states c e s m = (rw c.in-Ok.is at c.contradictory.ensures.states) (ap (λ (b : Bool). Ok b) e) s m

pub returns-in-Ok-clause-evidence : goal.returns-in-Ok-clause-evidence
returns-in-Ok-clause-evidence c e = subst (λ (b : Bool). ContradictoryIs c.args.rows.now (Ok b)) e (rw c.in-Ok.is at c.contradictory.ensures.evidence)
