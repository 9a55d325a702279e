use Rattle.std.proofs.Common.{◌∷◌, []}
use Rattle.pc_poly.proofs.Eliminating.{met_at, adds_more}
use Rattle.pc_poly.proofs.elimination.add_pairs.Goals as goal

pub loop-i-preserved : goal.loop-i-preserved
loop-i-preserved c =
    let rows = c.args.rows.now in
    let p = c.args.p.now in
    let n = c.at.result.now in
    adds_more c.args.x (p ∷ rows) c.args.out.now (p ∷ n ∷ []) c.loop-i.out c.add_pair.new.out (λ s m. (m.0, (met_at rows c.loop-i.i n s c.at.ensures m.1, tt))) c.loop-i.invariant
    c.in_ok-add_pair.ensures
