use Rattle.pc_json.specs.Kept.{AreProofs}
use Rattle.pc_json.specs.Values.{of_proofs}
use Rattle.pc_json.proofs.Arrays.{HasRead}
use Rattle.pc_json.proofs.proofs.edges_in.Given as goal

abbrev pub invariant-loop-item : goal.invariant-loop-item
invariant-loop-item l = HasRead AreProofs of_proofs l.list l.item-index l.all
