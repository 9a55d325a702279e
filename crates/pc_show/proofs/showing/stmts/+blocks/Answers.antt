use Rattle.std.proofs.Common.{arith, ◌<◌}
use Rattle.std.proofs.lemmas.Result.{on_ok_weaker}
use Rattle.pc_show.proofs.StmtTexts.{item_named, assert_done, assume_done, if_done, while_done}
use Rattle.pc_program.proofs.Weights.{weight, weights, item_smaller}
use Rattle.pc_show.proofs.showing.stmts.+blocks.Goals as goal

pub push_stmts-push_stmt-requires : goal.push_stmts-push_stmt-requires
push_stmts-push_stmt-requires t c =
    let smaller : weight c.s-item.result < weights c.args.list.now = item_smaller c.args.list.now c.loop-s.s-index c.s-item.result c.loop-s-test.true c.s-item.is in
    (omega arith, (item_named _ c.args.list.now c.loop-s.s-index c.s-item.result c.requires.named c.loop-s-test.true c.s-item.is, c.requires.margin))

pub push_stmt-returns-in-Assert : goal.push_stmt-returns-in-Assert
push_stmt-returns-in-Assert t c =
    on_ok_weaker c.push_claim.result
    (λ h. assert_done c.args.names.now.names c.args.s.now c.in-Assert.place c.args.margin.now c.args.text.now _ c.requires.margin _ _ c.in-Assert.is c.as_slice-in-Assert.ensures h) c.push_claim.ensures

pub push_stmt-returns-in-Assume : goal.push_stmt-returns-in-Assume
push_stmt-returns-in-Assume t c =
    on_ok_weaker c.push_claim-in-Assume.result
    (λ h. assume_done c.args.names.now.names c.args.s.now c.in-Assume.place c.args.margin.now c.args.text.now _ c.requires.margin _ _ c.in-Assume.is c.as_slice-in-Assume.ensures h)
    c.push_claim-in-Assume.ensures

pub push_stmt-returns-in_ok-push_else-in-If : goal.push_stmt-returns-in_ok-push_else-in-If
push_stmt-returns-in_ok-push_else-in-If t c =
    on_ok_weaker c.push_all.result
    (λ h. if_done c.args.names.now.names c.args.s.now c.in-If.place c.args.margin.now c.args.text.now _ c.requires.margin _ _ _ c.in-If.test _ _ c.as_slice.ensures _ _ c.in-If.is
    c.as_slice-in-If.ensures c.in_ok-push_tested-in-If.ensures c.in_ok-push_block-in-If.ensures c.in_ok-push_else-in-If.ensures h) c.push_all.ensures.added

pub push_stmt-returns-in_ok-push_block-in-While : goal.push_stmt-returns-in_ok-push_block-in-While
push_stmt-returns-in_ok-push_block-in-While t c =
    on_ok_weaker c.push_all-in-While.result
    (λ h. while_done c.args.names.now.names c.args.s.now c.in-While.place c.args.margin.now c.args.text.now _ c.requires.margin _ _ _ c.in-While.test _ _ c.as_slice-in-While-2.ensures _ _
    c.in-While.is c.as_slice-in-While.ensures c.in_ok-push_tested-in-While.ensures c.in_ok-push_tried-in-While.ensures c.in_ok-push_block-in-While.ensures h) c.push_all-in-While.ensures.added
