use Rattle.std.proofs.Common.{◌≡◌, ◌<◌, length, true, arith}
use Rattle.pc_syntax.specs.Trees.{fit_stmt}
use Rattle.pc_syntax.proofs.StepLemmas.{handed, weight, weights, item_smaller, item_fits, item_fails, item_done}
use Rattle.pc_syntax.proofs.walk.stmts.+walk.Goals as goal

pub stmts-stmt-requires : goal.stmts-stmt-requires
stmts-stmt-requires t c =
    let smaller : weight c.tree-item.result < weights c.args.trees.now = item_smaller c.args.trees.now c.loop-tree.tree-index c.tree-item.result c.loop-tree-test.true c.tree-item.is in
    let fits : fit_stmt (length c.args.src.now) c.tree-item.result ≡ true =
    item_fits _ c.args.trees.now c.loop-tree.tree-index c.tree-item.result c.requires.fit c.loop-tree-test.true c.tree-item.is in
    (omega arith, (c.requires.few, (fits, c.loop-tree.invariant.0)))

-- lists

pub stmts-returns-in_err-x-clause-value : goal.stmts-returns-in_err-x-clause-value
stmts-returns-in_err-x-clause-value t c =
    handed _ _ _ c.from_residual.ensures.1
    (item_fails c.args.src.now c.args.names.now.names c.args.trees.now c.loop-tree.tree-index c.loop-tree.count c.tree-item.result _ c.loop-tree.done c.loop-tree-test.true c.tree-item.is
    c.loop-tree.invariant.1 _ c.in_err-x.ensures.value)

pub stmts-loop-tree-preserved : goal.stmts-loop-tree-preserved
stmts-loop-tree-preserved t c = (
  c.in_ok-x.ensures.within,
  item_done c.args.src.now c.args.names.now.names c.args.trees.now c.loop-tree.tree-index c.loop-tree.count c.tree-item.result c.in_ok-x.x _ c.loop-tree.done c.push.new.self
      c.loop-tree-test.true c.tree-item.is c.in_ok-x.ensures.value c.in_ok-push.ensures.ok c.loop-tree.invariant.1,
)
