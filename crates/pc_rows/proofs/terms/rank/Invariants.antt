use Rattle.std.proofs.Common.{ℕ, ◌<◌, get_or}
use Rattle.pc_rows.specs.declared.terms.Term.{Term}
use Rattle.pc_rows.proofs.terms.rank.Given as goal

abbrev pub invariant-loop-i : goal.invariant-loop-i
invariant-loop-i l = (k : ℕ) (d : Term) → k < l.i → (get_or l.terms k d).variable < l.v
