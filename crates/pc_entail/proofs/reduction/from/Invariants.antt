use Rattle.std.proofs.Common.{◌≡◌, ◌+◌, ◌++◌, drop, length}
use Rattle.pc_entail.proofs.reduction.from.Given as goal

abbrev pub invariant-loop-i : goal.invariant-loop-i
invariant-loop-i l = record {
  count : length l.rows + l.start ≡ l.i;
  rest : l.rows ++ drop l.i l.a ≡ drop l.start l.a;
}
