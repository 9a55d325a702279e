use Rattle.std.proofs.Common.{◌≡◌, drop, pos}
use Rattle.std.specs.Prelude.{int_le}
use Rattle.std.specs.List.{list_all}
use Rattle.pc_replay.proofs.proof.is_signed.Given as goal

abbrev pub invariant-loop-i : goal.invariant-loop-i
invariant-loop-i l = list_all (λ q. int_le (pos 0) q.multiplier) (drop l.i l.parts) ≡ list_all (λ q. int_le (pos 0) q.multiplier) l.parts
