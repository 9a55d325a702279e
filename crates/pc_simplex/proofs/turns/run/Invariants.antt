use Rattle.std.proofs.Common.{◌≡◌, ◌-◌, ℕ}
use Rattle.pc_simplex.specs.declared.turns.TheConstants.{PIVOTS}
use Rattle.pc_simplex.specs.Turns.{turns}
use Rattle.pc_simplex.proofs.turns.run.Given as goal

abbrev pub invariant-loop-made : goal.invariant-loop-made
invariant-loop-made l = (premises : ℕ) → turns premises (PIVOTS - l.made) l.t ≡ turns premises PIVOTS l.initial.t
