use Rattle.std.proofs.Common.{◌∷◌, []}
use Rattle.pc_poly.proofs.Eliminating.{met_at, eliminates_next}
use Rattle.pc_poly.proofs.elimination.rows_without.Goals as goal

pub loop-i-preserved : goal.loop-i-preserved
loop-i-preserved c =
    let rows = c.args.rows.now in
    let r = c.at.result.now in
    eliminates_next c.args.x rows (r ∷ []) c.loop-i.out c.add_without.new.out c.loop-i.i r c.at.ensures (λ s m. (met_at rows c.loop-i.i r s c.at.ensures m, tt)) c.loop-i.invariant
    c.in_ok-add_without.ensures
