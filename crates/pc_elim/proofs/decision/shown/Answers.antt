use Rattle.std.proofs.Common.{◌∙◌, ap, sym, subst, length, ℕ}
use Rattle.pc_rows.specs.Evidence.{Proof, IsAbove}
use Rattle.pc_elim.specs.Settling.{proof_of}
use Rattle.pc_rows.proofs.PartLists.{parts_within}
use Rattle.pc_elim.proofs.decision.shown.Goals as goal

pub total-requires : goal.total-requires
total-requires c =
    let n = length c.args.s.now.premises in
    let e = c.in_ok-proof.ensures ∙ ap (λ (i : ℕ). proof_of i c.args.multipliers.now) c.len.ensures.value in
    subst (λ (p : Proof). IsAbove n p.parts) (sym e) (parts_within n c.args.multipliers.now)
