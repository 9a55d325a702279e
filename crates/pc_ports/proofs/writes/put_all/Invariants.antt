use Rattle.std.proofs.Common.{length, take, ◌-◌, ◌≡◌, ◌≤◌}
use Rattle.pc_ports.specs.Outside.{Appended}
use Rattle.pc_ports.proofs.writes.put_all.Given as goal

abbrev pub invariant-loop-done : goal.invariant-loop-done
invariant-loop-done g l = record {
  within : l.done ≤ length l.b;
  counted : g.K.Sink.faults l.fn.out ≤ g.K.Sink.faults l.out;
  so_far : Appended (g.K.Sink.written l.fn.out) (g.K.Sink.written l.out) (take l.done l.b);
  untouched : l.done ≡ 0 → l.out ≡ l.fn.out;
}

abbrev pub decreases-loop-done : goal.decreases-loop-done
decreases-loop-done g l = length l.b - l.done
