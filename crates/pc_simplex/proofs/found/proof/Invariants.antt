use Rattle.std.proofs.Common.{◌≡◌, ◌++◌, ◌-◌}
use Rattle.pc_rows.specs.Evidence.{IsAbove}
use Rattle.pc_simplex.specs.Found.{parts_from}
use Rattle.pc_simplex.proofs.found.proof.Given as goal

abbrev pub invariant-loop-i : goal.invariant-loop-i
invariant-loop-i l = record {
  above : IsAbove l.i l.parts;
  rest : l.parts ++ parts_from l.t l.line (l.premises - l.i) l.i ≡ parts_from l.t l.line l.premises 0;
}
