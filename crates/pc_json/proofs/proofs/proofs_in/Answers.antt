use Rattle.std.proofs.Common.{arith}
use Rattle.std.proofs.lemmas.Result.{err_from_is_err_and}
use Rattle.pc_rows.specs.declared.system.TheConstants.{PREMISES}
use Rattle.pc_rows.specs.Evidence.{IsProof}
use Rattle.pc_json.specs.Values.{of_proof}
use Rattle.pc_json.specs.Kept.{AtMost}
use Rattle.pc_json.proofs.Arrays.{array_err, refused}
use Rattle.pc_json.proofs.proofs.proofs_in.Goals as goal

pub returns-then-list-gt-PREMISES : goal.returns-then-list-gt-PREMISES
returns-then-list-gt-PREMISES c = refused IsProof of_proof (AtMost PREMISES) c.args.list.now (λ le. absurd (omega (arith, le, c.if-list-gt-PREMISES.true)))

pub returns-in_err-proof : goal.returns-in_err-proof
returns-in_err-proof c =
    let p = err_from_is_err_and c.from_residual.result c.from_residual.ensures.1 in
    rw (p.1, p.2) (array_err IsProof of_proof (AtMost PREMISES) c.args.list.now c.loop-item.item-index c.item-item.result c.in_err-proof.field-0.0 c.loop-item-test.true c.item-item.is c.in_err-proof.ensures)
