use Rattle.pc_condition.proofs.Growing.{HoldsTerms}
use Rattle.pc_condition.proofs.row.push_terms.Given as goal

abbrev pub invariant-loop-v : goal.invariant-loop-v
invariant-loop-v l = HoldsTerms l.names.names l.r.coefficients l.v l.is_first l.fn.text l.text
