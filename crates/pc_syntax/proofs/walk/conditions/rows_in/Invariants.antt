use Rattle.std.proofs.Common.{◌≡◌, ◌+◌, ◌*◌, ◌≤◌, drop}
use Rattle.pc_syntax.specs.Context.{rows_in}
use Rattle.pc_syntax.proofs.walk.conditions.rows_in.Given as goal

abbrev pub invariant-loop-c : goal.invariant-loop-c
invariant-loop-c l = (l.rows ≤ 2 * l.c-index) × (l.rows + rows_in (drop l.c-index l.cs) ≡ rows_in l.cs)
