use Rattle.std.proofs.Common.{◌≡◌, drop, not}
use Rattle.std.specs.List.{position_from}
use Rattle.pc_replay.specs.Shape.{is_over, first_beyond}
use Rattle.pc_replay.proofs.shape.first_beyond.Given as goal

abbrev pub invariant-loop-i : goal.invariant-loop-i
invariant-loop-i l = position_from (λ r. not (is_over l.n r)) l.i (drop l.i l.rows) ≡ first_beyond l.n l.rows
