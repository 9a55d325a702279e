use Rattle.std.proofs.Common.{take}
use Rattle.std.specs.List.{AllByRecursion}
use Rattle.pc_certify.specs.Selecting.{IsNotNeedless}
use Rattle.pc_certify.proofs.selection.is_needless_beside.Given as goal

abbrev pub invariant-loop-i : goal.invariant-loop-i
invariant-loop-i l = AllByRecursion (IsNotNeedless l.a) (take l.i l.kept)
