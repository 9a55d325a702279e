use Rattle.std.proofs.Common.{ap, ℤ, replicate}
use Rattle.pc_rows.specs.declared.system.TheConstants.{PREMISES}
use Rattle.pc_entail.proofs.Composing.{composed_is}
use Rattle.pc_entail.proofs.composition.composed.Goals as goal

pub returns-in_ok-proof_of-in-Ok : goal.returns-in_ok-proof_of-in-Ok
returns-in_ok-proof_of-in-Ok c = composed_is (replicate PREMISES c.new-premises.result) c.args.old.now c.args.gone.now c.args.place c.in-Ok.goal c.compose.new.premises c.in_ok-proof_of-in-Ok.field-0 (ap (λ (n : ℤ). replicate PREMISES n) c.new-premises.ensures) c.in-Ok.ensures c.in_ok-proof_of-in-Ok.ensures
