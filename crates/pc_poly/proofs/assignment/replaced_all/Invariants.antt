use Rattle.std.proofs.Common.{[]}
use Rattle.pc_poly.specs.Assigning.{AddsAfter}
use Rattle.pc_poly.proofs.assignment.replaced_all.Given as goal

abbrev pub invariant-loop-i : goal.invariant-loop-i
invariant-loop-i l = AddsAfter l.a l.rows [] l.out
