use Rattle.std.proofs.Common.{◌≡◌, sym, subst}
use Rattle.std.proofs.lemmas.Result.{IfOk-weaker}
use Rattle.pc_box.specs.Backward.{narrower}
use Rattle.pc_box.proofs.Intersecting.{NarrowKeeps, narrower_keeps}
use Rattle.pc_box.proofs.backward.Box16Backward.narrow.Goals as goal

pub returns-clause-states : goal.returns-clause-states
returns-clause-states c =
    let old = c.args.self.now in
    let newer = c.args.newer.now in
    IfOk-weaker c.narrower.result (λ o. o ≡ narrower old newer c.args.round) (NarrowKeeps old newer)
    (λ o is. subst (NarrowKeeps old newer) (sym is) (narrower_keeps old newer c.args.round)) c.narrower.ensures
