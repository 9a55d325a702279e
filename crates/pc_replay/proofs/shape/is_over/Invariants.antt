use Rattle.std.proofs.Common.{◌≡◌, drop}
use Rattle.pc_replay.specs.Shape.{is_over}
use Rattle.std.specs.List.{list_all}
use Rattle.pc_rows.specs.Linear.{is_zero}
use Rattle.pc_replay.proofs.shape.is_over.Given as goal

abbrev pub invariant-loop-v : goal.invariant-loop-v
invariant-loop-v l = list_all is_zero (drop l.v l.r.coefficients) ≡ is_over l.n l.r
