use Rattle.std.proofs.Common.{◌≡◌, sym, subst}
use Rattle.std.proofs.lemmas.Result.{IfOk-weaker}
use Rattle.pc_box.specs.Forward.{widened}
use Rattle.pc_box.proofs.Widening.{KeepsStates, LosesParts, widened_keeps, widened_loses}
use Rattle.pc_box.proofs.member.Box16Forward.widen.Goals as goal

pub returns-clause-states : goal.returns-clause-states
returns-clause-states c =
    let old = c.args.self.now in
    let newer = c.args.newer.now in
    IfOk-weaker c.widened.result (λ o. o ≡ widened old newer c.args.round) (KeepsStates old newer)
    (λ o is. subst (KeepsStates old newer) (sym is) (widened_keeps old newer c.args.round)) c.widened.ensures

pub returns-clause-fewer : goal.returns-clause-fewer
returns-clause-fewer c =
    let old = c.args.self.now in
    let newer = c.args.newer.now in
    IfOk-weaker c.widened.result (λ o. o ≡ widened old newer c.args.round) (LosesParts old c.args.round)
    (λ o is. subst (LosesParts old c.args.round) (sym is) (widened_loses old newer c.args.round c.width-old.ensures c.width-new.ensures)) c.widened.ensures
