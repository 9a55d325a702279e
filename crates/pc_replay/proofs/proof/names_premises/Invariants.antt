use Rattle.std.proofs.Common.{◌≡◌, drop}
use Rattle.std.specs.Prelude.{nat_lt}
use Rattle.std.specs.List.{list_all}
use Rattle.pc_replay.proofs.proof.names_premises.Given as goal

abbrev pub invariant-loop-i : goal.invariant-loop-i
invariant-loop-i l = list_all (λ q. nat_lt q.index l.count) (drop l.i l.parts) ≡ list_all (λ q. nat_lt q.index l.count) l.parts
