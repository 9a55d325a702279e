use Rattle.std.proofs.Common.{◌≡◌, drop}
use Rattle.pc_replay.specs.Rule.{in_order, alternative_ruling}
use Rattle.pc_replay.proofs.replay.ruling.Given as goal

abbrev pub invariant-loop-i : goal.invariant-loop-i
invariant-loop-i l = in_order (alternative_ruling l.g) l.i (drop l.i l.alternatives) ≡ in_order (alternative_ruling l.g) 0 l.alternatives
