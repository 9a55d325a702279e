use Rattle.std.proofs.Common.{length}
use Rattle.pc_json.specs.Values.{of_alternative}
use Rattle.pc_json.specs.Kept.{IsAlternative}
use Rattle.pc_json.proofs.Lefts.{HasTaken}
use Rattle.pc_json.proofs.reading.alternatives_in.Given as goal

abbrev pub invariant-alternatives : goal.invariant-alternatives
invariant-alternatives l = HasTaken (IsAlternative l.sizes.points l.sizes.edges l.sizes.variables) (of_alternative l.sizes.variables) l.fn.list.items l.list.items l.all

abbrev pub decreases-alternatives : goal.decreases-alternatives
decreases-alternatives l = length l.list.items
