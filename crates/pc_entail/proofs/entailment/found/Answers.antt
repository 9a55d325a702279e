use Rattle.std.proofs.Common.{subst, Ok}
use Rattle.pc_elim.specs.declared.decision.Answer.{Answer}
use Rattle.pc_entail.specs.Settled.{SettledIs}
use Rattle.pc_entail.proofs.Settling.{point_found}
use Rattle.pc_entail.proofs.entailment.found.Goals as goal

pub returns-in-Point-clause-exact : goal.returns-in-Point-clause-exact
returns-in-Point-clause-exact c = point_found c.args.system.now c.in-Point.field-0 (subst (λ (a : Answer). SettledIs c.args.system.now (Ok a)) c.in-Point.is c.in_ok-proof.ensures.exact)
