use Rattle.std.proofs.Common.{◌≡◌, drop}
use Rattle.pc_entail.specs.Composition.{multiplier_at}
use Rattle.pc_entail.proofs.composition.multiplier_at.Given as goal

abbrev pub invariant-loop-i : goal.invariant-loop-i
invariant-loop-i l = multiplier_at (drop l.i l.parts) l.place ≡ multiplier_at l.parts l.place
