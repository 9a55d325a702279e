use Rattle.std.proofs.Common.{◌≡◌, take}
use Rattle.pc_certify.proofs.annotation.copy.Given as goal

abbrev pub invariant-loop-rows : goal.invariant-loop-rows
invariant-loop-rows l = l.all ≡ take l.rows-index l.rows-items
