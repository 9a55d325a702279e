use Rattle.std.proofs.Common.{◌≡◌, ◌++◌, drop}
use Rattle.pc_graph.specs.Lowering.{points_from}
use Rattle.pc_graph.proofs.assembly.points.Given as goal

-- the points so far and those of the places that are left are all points
abbrev pub invariant-loop-i : goal.invariant-loop-i
invariant-loop-i l = l.points ++ points_from l.loops l.i (drop l.i l.places) ≡ points_from l.loops 0 l.places
