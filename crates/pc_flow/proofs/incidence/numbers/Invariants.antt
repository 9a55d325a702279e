use Rattle.std.proofs.Common.{take}
use Rattle.pc_flow.specs.Incidence.{AreNumbers}
use Rattle.pc_flow.proofs.incidence.numbers.Given as goal

abbrev pub invariant-loop-i : goal.invariant-loop-i
invariant-loop-i l = AreNumbers l.end l.points (take l.i l.edges) l.all.items
