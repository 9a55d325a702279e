use Rattle.std.proofs.Common.{subst}
use Rattle.pc_rows.specs.Linear.{Linear, IsInRange, negation}
use Rattle.pc_elim.proofs.Deciding.{answer_decides, past_goal_not_modest}
use Rattle.pc_elim.proofs.decision.decide.Goals as goal

pub returns-clause-evidence : goal.returns-clause-evidence
returns-clause-evidence c = answer_decides c.args.s.now c.refute.result c.refute.ensures.system c.refute.ensures.exact

pub returns-in-Err-clause-evidence : goal.returns-in-Err-clause-evidence
returns-in-Err-clause-evidence c = past_goal_not_modest c.args.s.now (subst (λ (r : Linear). IsInRange (negation r) → ⊥) c.goal.ensures c.in-Err.ensures)
