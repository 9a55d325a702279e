use Rattle.std.proofs.Common.{◌∷◌, [], rules}
use Rattle.std.proofs.lemmas.Result.{on_ok_weaker}
use Rattle.pc_poly.proofs.Eliminating.{adds_row, without_met}
use Rattle.pc_poly.proofs.elimination.add_without.Goals as goal

pub returns : goal.returns
returns c =
    let r = c.args.r.now in
    on_ok_weaker c.add.result
    (λ is. adds_row c.args.x (r ∷ []) c.args.out.now c.add.new.rows r (rw c.copy.ensures.value at is) (λ s n m. without_met r s c.args.x n (search rules) m.0))
    c.add.ensures
