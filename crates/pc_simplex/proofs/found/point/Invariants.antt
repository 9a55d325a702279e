use Rattle.std.proofs.Common.{◌≡◌, ◌-◌, drop, length}
use Rattle.pc_simplex.specs.Found.{point_at}
use Rattle.pc_simplex.proofs.found.point.Given as goal

abbrev pub invariant-loop-behind : goal.invariant-loop-behind
invariant-loop-behind l = l.point ≡ point_at l.t.denominator (drop (length l.t.lines - l.behind) l.t.lines)
