use Rattle.std.proofs.Common.{◌≡◌, ◌++◌, take, drop, length, map}
use Rattle.pc_rows.specs.declared.system.TheConstants.{PREMISES}
use Rattle.pc_entail.specs.Composition.{over}
use Rattle.pc_entail.proofs.composition.all_over.Given as goal

abbrev pub invariant-loop-i : goal.invariant-loop-i
invariant-loop-i l = record {
  long : length l.small ≡ PREMISES;
  rest : take l.i l.small ++ map (over l.divisor) (drop l.i l.premises) ≡ map (over l.divisor) l.premises;
}
