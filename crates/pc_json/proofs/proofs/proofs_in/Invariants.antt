use Rattle.pc_rows.specs.Evidence.{IsProof}
use Rattle.pc_json.specs.Values.{of_proof}
use Rattle.pc_json.proofs.Arrays.{HasRead}
use Rattle.pc_json.proofs.proofs.proofs_in.Given as goal

abbrev pub invariant-loop-item : goal.invariant-loop-item
invariant-loop-item l = HasRead IsProof of_proof l.list l.item-index l.proofs
