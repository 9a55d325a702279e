use Rattle.std.proofs.Common.{ℕ, drop}
use Rattle.std.specs.Prelude.{unsigned_abs}
use Rattle.pc_entail.specs.Composition.{IsDivisor}
use Rattle.pc_entail.proofs.composition.common_divisor.Given as goal

abbrev pub invariant-loop-i : goal.invariant-loop-i
invariant-loop-i l = (d : ℕ) → IsDivisor l.divisor (drop l.i l.premises) d → IsDivisor (unsigned_abs l.fn.goal) l.premises d
