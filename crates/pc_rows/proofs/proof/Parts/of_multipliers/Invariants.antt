use Rattle.std.proofs.Common.{◌≡◌, take}
use Rattle.pc_rows.specs.Parts.{parts_from}
use Rattle.pc_rows.proofs.proof.Parts.of_multipliers.Given as goal

abbrev pub invariant-loop-i : goal.invariant-loop-i
invariant-loop-i l = l.parts ≡ parts_from 0 (take l.i l.multipliers)
