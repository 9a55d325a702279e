use Rattle.std.proofs.Common.{◌≡◌, ◌++◌, drop, length}
use Rattle.pc_flow.specs.Carry.{back_all}
use Rattle.pc_lower.specs.Operations.{carries}
use Rattle.pc_lower.proofs.Answering.{Left}
use Rattle.pc_lower.proofs.carry.carried.Given as goal

abbrev pub invariant-loop-i : goal.invariant-loop-i
invariant-loop-i l = record {
  whole : l.all ++ back_all l.e.what (drop l.i l.rows) ≡ back_all l.e.what l.rows;
  long : length l.all ≡ l.i;
  left : Left (carries l.e.what (drop l.i l.rows)) (carries l.e.what l.rows);
}
