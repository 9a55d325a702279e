use Rattle.std.proofs.Common.{ℕ}
use Rattle.std.specs.Int.{IsGcd}
use Rattle.pc_entail.proofs.composition.divisor_of.Given as goal

abbrev pub invariant-division : goal.invariant-division
invariant-division l = (g : ℕ) → IsGcd l.greater l.lesser g → IsGcd l.a l.b g

abbrev pub decreases-division : goal.decreases-division
decreases-division l = l.lesser
