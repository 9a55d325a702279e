use Rattle.std.proofs.Common.{◌≡◌, ◌∙◌, ◌<◌, List, Some, slice_get, get_or, length, arith, subst, sym, ap}
use Rattle.std.proofs.lemmas.Option.{slice_get-get_or}
use Rattle.pc_fixpoint.proofs.Turning.{widens_to}
use Rattle.pc_fixpoint.proofs.heads.widened_at.Goals as goal

pub returns : goal.returns
returns g c =
    let values = c.args.values.now in
    let p = c.args.p in
    let u = c.index-as_slice-p.result in
    let lt : p < length values = (let long = c.requires.marks.filled.long in let point = c.requires.point in omega arith) in
    let read : u ≡ get_or values p u = subst (λ (z : List _). u ≡ get_or z p u) c.as_slice.ensures c.index-as_slice-p.is in
    let at : slice_get values p ≡ Some u = slice_get-get_or values p u lt ∙ ap Some (sym read) in
    widens_to g.D.Forward c.args.g.now c.args.round values p u c.in_ok-newer.newer c.widen.result (c.is_due.ensures.head c.if-not-is_due.false) at c.in_ok-newer.ensures
    c.widen.ensures.states c.widen.ensures.fewer
