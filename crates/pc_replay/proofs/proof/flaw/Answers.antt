use Rattle.std.proofs.Common.{sym, ap, ◌∙◌}
use Rattle.pc_flow.specs.Carry.{premises}
use Rattle.pc_replay.specs.Flaws.{names_premises}
use Rattle.pc_replay.proofs.Flawless.{names_if, flaw_past, flaw_found}
use Rattle.pc_replay.proofs.proof.flaw.Goals as goal

pub total-requires : goal.total-requires
total-requires c =
    let all = premises c.args.e.now.what c.args.rows.now in
    names_if _ c.args.p.now (ap (λ n. names_premises n c.args.p.now) (sym c.premises.ensures.value) ∙ sym c.if-not-names_premises.ensures)

pub returns-in-Ok : goal.returns-in-Ok
returns-in-Ok c =
    let all = premises c.args.e.now.what c.args.rows.now in
    flaw_found all c.args.goal.now c.args.p.now (sym c.if-not-is_signed.ensures) (ap (λ n. names_premises n c.args.p.now) (sym c.premises.ensures.value) ∙ sym c.if-not-names_premises.ensures)
    c.in-Ok.total c.of_total.result c.in-Ok.ensures c.of_total.ensures

pub returns-in-Err : goal.returns-in-Err
returns-in-Err c =
    let all = premises c.args.e.now.what c.args.rows.now in
    flaw_past all c.args.goal.now c.args.p.now (sym c.if-not-is_signed.ensures) (ap (λ n. names_premises n c.args.p.now) (sym c.premises.ensures.value) ∙ sym c.if-not-names_premises.ensures)
    c.in-Err.ensures
