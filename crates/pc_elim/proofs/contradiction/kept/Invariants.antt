use Rattle.std.proofs.Common.{◌≡◌, drop}
use Rattle.pc_elim.specs.Elimination.{flat, kept_of}
use Rattle.pc_elim.specs.Settling.{contradiction_of}
use Rattle.pc_elim.proofs.contradiction.kept.Given as goal

abbrev pub invariant-loop-r : goal.invariant-loop-r
invariant-loop-r l = contradiction_of (flat (kept_of l.k) (drop l.r-index l.rows)) ≡ contradiction_of (flat (kept_of l.k) l.rows)
