use Rattle.std.proofs.Common.{◌∷◌, [], rules}
use Rattle.std.proofs.lemmas.Result.{on_ok_weaker}
use Rattle.pc_poly.proofs.Eliminating.{adds_fitting, weighed_fitting}
use Rattle.pc_poly.proofs.elimination.add_pair.Goals as goal

pub returns : goal.returns
returns c =
    on_ok_weaker c.add_fitting.result
    (λ is. adds_fitting c.args.x (c.args.p.now ∷ c.args.n.now ∷ []) c.args.out.now c.add_fitting.new.rows c.weighed.result is
    (weighed_fitting c.args.x c.args.p.now c.args.n.now c.weighed.result c.requires.positive (search rules) c.weighed.ensures))
    c.add_fitting.ensures
