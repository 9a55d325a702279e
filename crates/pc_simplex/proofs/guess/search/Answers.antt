use Rattle.std.proofs.Common.{length, subst}
use Rattle.pc_rows.specs.Linear.{Linear, IsInRange, negation}
use Rattle.pc_simplex.proofs.Answering.{out_of_range, point_answers, proof_answers, point_is_evidence, proof_is_evidence}
use Rattle.pc_simplex.specs.Found.{point_of, proof_of}
use Rattle.pc_simplex.proofs.guess.search.Goals as goal

pub returns-in-Err-clause-exact : goal.returns-in-Err-clause-exact
returns-in-Err-clause-exact c = out_of_range c.args.s.now (subst (λ (r : Linear). IsInRange (negation r) → ⊥) c.goal.ensures c.in-Err.ensures)

pub returns-in-Met-clause-exact : goal.returns-in-Met-clause-exact
returns-in-Met-clause-exact c = point_answers c.args.s.now c.in_ok-table.table c.run.new.t c.checked_point.result (subst (λ (r : Linear). IsInRange (negation r)) c.goal.ensures c.in-Ok.ensures.0) c.in_ok-table.ensures c.in-Met.ensures c.checked_point.ensures

pub returns-in-Stuck-clause-exact : goal.returns-in-Stuck-clause-exact
returns-in-Stuck-clause-exact c = proof_answers c.args.s.now c.in_ok-table.table c.run.new.t c.in-Stuck.r c.checked_proof.result (subst (λ (r : Linear). IsInRange (negation r)) c.goal.ensures c.in-Ok.ensures.0) c.in_ok-table.ensures c.in-Stuck.ensures c.checked_proof.ensures

pub returns-in-Met-clause-evidence : goal.returns-in-Met-clause-evidence
returns-in-Met-clause-evidence c = point_is_evidence c.args.s.now (point_of c.run.new.t) c.checked_point.result c.checked_point.ensures

pub returns-in-Stuck-clause-evidence : goal.returns-in-Stuck-clause-evidence
returns-in-Stuck-clause-evidence c = proof_is_evidence c.args.s.now (proof_of (length c.args.s.now.premises) c.run.new.t c.in-Stuck.r) c.checked_proof.result c.checked_proof.ensures
