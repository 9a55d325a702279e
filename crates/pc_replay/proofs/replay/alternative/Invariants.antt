use Rattle.std.proofs.Common.{◌≡◌, drop}
use Rattle.std.specs.List.{zip}
use Rattle.pc_replay.specs.Rule.{in_order, edge_ruling}
use Rattle.pc_replay.proofs.replay.alternative.Given as goal

abbrev pub invariant-loop-i : goal.invariant-loop-i
invariant-loop-i l =
    in_order (edge_ruling l.n l.a) l.i (drop l.i (zip l.g.edges l.a.proofs)) ≡ in_order (edge_ruling l.n l.a) 0 (zip l.g.edges l.a.proofs)
