use Rattle.std.proofs.Common.{sym, subst}
use Rattle.pc_rows.specs.Linear.{InRange}
use Rattle.pc_rows.proofs.Lists.{zero_is}
use Rattle.pc_rows.proofs.Summing.{sum_stays, product_of_zero}
use Rattle.pc_rows.proofs.totals.plus_product.Goals as goal

pub returns-then-is_zero : goal.returns-then-is_zero
returns-then-is_zero c =
    let zero = zero_is c.args.c (sym c.if-is_zero.ensures) in
    let stays = sum_stays c.args.sum c.args.k c.args.c zero in
    ((product_of_zero c.args.k c.args.c zero, subst InRange (sym stays) c.get-in_range.ensures.range), sym stays)
