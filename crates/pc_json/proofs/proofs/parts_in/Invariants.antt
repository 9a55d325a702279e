use Rattle.std.proofs.Common.{length}
use Rattle.pc_json.proofs.Parts.{HaveRead}
use Rattle.pc_json.proofs.proofs.parts_in.Given as goal

abbrev pub invariant-parts : goal.invariant-parts
invariant-parts l = HaveRead l.list l.parts l.least l.rest

abbrev pub decreases-parts : goal.decreases-parts
decreases-parts l = length l.rest
