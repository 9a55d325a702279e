use Rattle.std.proofs.Common.{◌≡◌, take}
use Rattle.pc_elim.specs.declared.made.TheConstants.{PARTS}
use Rattle.pc_elim.specs.Elimination.{started_from}
use Rattle.pc_elim.proofs.decision.started.Given as goal

abbrev pub invariant-loop-i : goal.invariant-loop-i
invariant-loop-i l = l.rows ≡ started_from PARTS 0 (take l.i l.s.premises)
