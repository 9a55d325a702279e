use Rattle.std.proofs.Common.{◌≡◌, drop}
use Rattle.pc_rows.specs.Shows.{with_parts, PartsFit}
use Rattle.pc_rows.proofs.system.with_parts.Given as goal

abbrev pub invariant-loop-i : goal.invariant-loop-i
invariant-loop-i l = record {
  rest : with_parts l.s.premises l.sum (drop l.i l.parts) ≡ with_parts l.s.premises l.fn.start l.parts;
  fits : PartsFit l.s.premises l.fn.start l.parts → PartsFit l.s.premises l.sum (drop l.i l.parts);
  back : PartsFit l.s.premises l.sum (drop l.i l.parts) → PartsFit l.s.premises l.fn.start l.parts;
}
