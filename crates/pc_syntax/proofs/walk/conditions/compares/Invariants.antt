use Rattle.std.proofs.Common.{◌≡◌, drop}
use Rattle.pc_syntax.specs.Context.{checked_each}
use Rattle.pc_syntax.specs.Walks.{behind}
use Rattle.pc_syntax.proofs.walk.conditions.compares.Given as goal

abbrev pub invariant-loop-c : goal.invariant-loop-c
invariant-loop-c l =
    behind l.all (checked_each l.src l.names.names l.alone (drop l.c-index l.cs)) ≡ checked_each l.src l.names.names l.alone l.cs
