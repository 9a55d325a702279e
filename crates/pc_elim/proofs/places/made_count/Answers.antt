use Rattle.std.proofs.Common.{arith}
use Rattle.pc_elim.proofs.Pairing.{count_is, count_small}
use Rattle.pc_elim.proofs.places.made_count.Goals as goal

pub overflow_mul-count : goal.overflow_mul-count
overflow_mul-count c =
    let small = count_small c.args.k c.args.rows.now c.free_count.result c.above_count.result c.args.below c.requires.most c.free_count.ensures c.above_count.ensures c.requires.places in
    omega arith

pub overflow_add-count : goal.overflow_add-count
overflow_add-count c =
    let small = count_small c.args.k c.args.rows.now c.free_count.result c.above_count.result c.args.below c.requires.most c.free_count.ensures c.above_count.ensures c.requires.places in
    omega arith

pub returns-then-count-gt-LIMIT : goal.returns-then-count-gt-LIMIT
returns-then-count-gt-LIMIT c =
    let is = count_is c.args.k c.args.rows.now c.free_count.result c.above_count.result c.args.below c.requires.most c.free_count.ensures c.above_count.ensures c.requires.places in
    omega arith

pub returns : goal.returns
returns c = (
  count_is c.args.k c.args.rows.now c.free_count.result c.above_count.result c.args.below c.requires.most c.free_count.ensures c.above_count.ensures c.requires.places,
  omega arith,
)
