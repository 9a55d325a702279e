use Rattle.std.proofs.Common.{◌≤◌, ◌-◌, ◌≡◌, length}
use Rattle.pc_ports.proofs.host_reads.read_front.Given as goal

abbrev pub invariant-loop-piece : goal.invariant-loop-piece
invariant-loop-piece g l = record {
  few : length l.bytes.items ≤ l.most;
  whole : length l.piece ≡ 4096;
}

abbrev pub decreases-loop-piece : goal.decreases-loop-piece
decreases-loop-piece g l = l.most - length l.bytes.items
