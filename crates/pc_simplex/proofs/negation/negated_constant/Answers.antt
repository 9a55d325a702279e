use Rattle.std.proofs.Common.{◌≡◌, ◌∙◌, ap, arith, neg_ℤ}
use Rattle.std.proofs.lemmas.Int.{ints}
use Rattle.pc_simplex.proofs.Negating.{constant_is}
use Rattle.pc_simplex.proofs.negation.negated_constant.Goals as goal

pub returns : goal.returns
returns c =
    let same : c.new.result ≡ c.args.r.now.constant = omega (arith, ints, c.new.ensures, c.constant.ensures.value, c.constant.ensures.range) in
    constant_is c.minus.result c.args.r.now c.negated.result c.new-2.result c.constant.ensures.row (c.negated.ensures.value ∙ ap neg_ℤ same) c.new-2.ensures c.minus.ensures
