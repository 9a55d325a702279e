use Rattle.std.proofs.Common.{◌≡◌, drop}
use Rattle.pc_rows.specs.Shows.{with_parts, PartsFit}
use Rattle.pc_flow.specs.Carry.{premises}
use Rattle.pc_replay.proofs.proof.with_parts.Given as goal

abbrev pub invariant-loop-i : goal.invariant-loop-i
invariant-loop-i l = record {
  rest : with_parts (premises l.e.what l.rows) l.sum (drop l.i l.parts) ≡ with_parts (premises l.e.what l.rows) l.fn.start l.parts;
  fits : PartsFit (premises l.e.what l.rows) l.fn.start l.parts → PartsFit (premises l.e.what l.rows) l.sum (drop l.i l.parts);
  back : PartsFit (premises l.e.what l.rows) l.sum (drop l.i l.parts) → PartsFit (premises l.e.what l.rows) l.fn.start l.parts;
}
