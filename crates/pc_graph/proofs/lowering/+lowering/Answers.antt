use Rattle.std.proofs.Common.{◌≡◌, ◌<◌, ◌^◌, sym, subst, arith}
use Rattle.std.proofs.lemmas.Result.{on_ok_weaker}
use Rattle.pc_program.specs.Forms.{rows_all}
use Rattle.pc_program.proofs.Weights.{weight, weights, item_smaller}
use Rattle.pc_graph.specs.Drawn.{Drawn}
use Rattle.pc_graph.specs.Lowering.{rules}
use Rattle.pc_graph.proofs.Drawing.{if_done, while_done, if_rooms, then_room, while_room, doing_here, doing_next}
use Rattle.pc_graph.proofs.Ready.{sane_slice, ready_few, assert_ready, assume_ready, if_ready, while_ready}
use Rattle.pc_graph.proofs.Weights.{then_smaller}
use Rattle.pc_graph.proofs.lowering.+lowering.Goals as goal

pub lower_stmt-rows_of-requires-clause-sane : goal.lower_stmt-rows_of-requires-clause-sane
lower_stmt-rows_of-requires-clause-sane t c =
    sane_slice c.in-Assert.all _ c.as_slice.ensures (assert_ready c.args.n c.args.s.now c.in-Assert.place c.in-Assert.all c.in-Assert.is c.requires.sane)

pub lower_stmt-link-requires-in-Assert-clause-fit : goal.lower_stmt-link-requires-in-Assert-clause-fit
lower_stmt-link-requires-in-Assert-clause-fit t c =
    let ready = assert_ready c.args.n c.args.s.now c.in-Assert.place c.in-Assert.all c.in-Assert.is c.requires.sane in
    ready_few c.in-Assert.all c.in_ok-rows-in-Assert.rows (subst (λ cs. c.in_ok-rows-in-Assert.rows ≡ rows_all cs) c.as_slice.ensures c.in_ok-rows-in-Assert.ensures) ready

pub lower_stmt-rows_of-requires-in-Assume-clause-sane : goal.lower_stmt-rows_of-requires-in-Assume-clause-sane
lower_stmt-rows_of-requires-in-Assume-clause-sane t c =
    sane_slice c.in-Assume.all _ c.as_slice-in-Assume.ensures (assume_ready c.args.n c.args.s.now c.in-Assume.place c.in-Assume.all c.in-Assume.is c.requires.sane)

pub lower_stmt-link-requires-in-Assume-clause-fit : goal.lower_stmt-link-requires-in-Assume-clause-fit
lower_stmt-link-requires-in-Assume-clause-fit t c =
    let ready = assume_ready c.args.n c.args.s.now c.in-Assume.place c.in-Assume.all c.in-Assume.is c.requires.sane in
    ready_few c.in-Assume.all c.in_ok-rows-in-Assume.rows
    (subst (λ cs. c.in_ok-rows-in-Assume.rows ≡ rows_all cs) c.as_slice-in-Assume.ensures c.in_ok-rows-in-Assume.ensures) ready

pub lower_list-lower_stmt-requires : goal.lower_list-lower_stmt-requires
lower_list-lower_stmt-requires t c =
    let smaller : weight c.s-item.result < weights c.args.list.now = item_smaller c.args.list.now c.loop-s.s-index c.s-item.result c.loop-s-test.true c.s-item.is in
    let here = doing_here c.args.n c.args.list.now c.loop-s.s-index c.s-item.result c.args.draft.now c.loop-s.draft c.loop-s-test.true c.s-item.is c.loop-s.invariant in
    (omega arith, (c.requires.few, (here.0, here.1)))

pub lower_list-loop-s-preserved : goal.lower_list-loop-s-preserved
lower_list-loop-s-preserved t c =
    doing_next c.args.n c.args.list.now c.loop-s.s-index c.s-item.result c.args.draft.now c.loop-s.draft _ c.loop-s-test.true c.s-item.is c.loop-s.invariant c.in_ok-lower_stmt.ensures

pub lower_if-branch-draft-requires-clause-room : goal.lower_if-branch-draft-requires-clause-room
lower_if-branch-draft-requires-clause-room t c =
    let a = c.args in
    (if_rooms a.place a.test.now a.then_part.now a.else_part.now a.draft.now.at a.draft.now.next c.requires.room).0

pub lower_if-lower_list-requires : goal.lower_if-lower_list-requires
lower_if-lower_list-requires t c =
    let a = c.args in
    let xs = a.then_part.now in
    let ys = a.else_part.now in
    let smaller = then_smaller a.place a.test.now xs ys in
    let ready = if_ready a.n a.place a.test.now xs ys c.requires.sane in
    let room = then_room a.place a.test.now xs ys a.draft.now c.requires.room in
    (omega arith, (c.requires.few, (ready.1.0, subst (λ (d : Drawn). (rules xs d.at d.next).next < 2 ^ 32) (sym c.in_ok-branch.ensures) room)))

pub lower_if-branch-draft-requires-2-clause-room : goal.lower_if-branch-draft-requires-2-clause-room
lower_if-branch-draft-requires-2-clause-room t c =
    let a = c.args in
    let xs = a.then_part.now in
    let room = (if_rooms a.place a.test.now xs a.else_part.now a.draft.now.at a.draft.now.next c.requires.room).1 in
    subst (λ (d : Drawn). d.next < 4294967295) (sym c.in_ok-lower_list.ensures)
    (subst (λ (d : Drawn). (rules xs d.at d.next).next < 4294967295) (sym c.in_ok-branch.ensures) room)

pub lower_if-returns : goal.lower_if-returns
lower_if-returns t c =
    let a = c.args in
    on_ok_weaker c.join.result (λ h. if_done a.place a.test.now a.then_part.now a.else_part.now a.draft.now _ _ _ _ _ _ _
    c.at-p.ensures c.in_ok-branch.ensures c.in_ok-lower_list.ensures c.at-t.ensures c.in_ok-branch-2.ensures c.in_ok-lower_list-2.ensures h) c.join.ensures

pub lower_while-rows_of-requires-clause-sane : goal.lower_while-rows_of-requires-clause-sane
lower_while-rows_of-requires-clause-sane t c = let a = c.args in (while_ready a.n a.place a.test.now a.tried.now a.block.now c.requires.sane).1.0.1

pub lower_while-branch-draft-requires-clause-sane : goal.lower_while-branch-draft-requires-clause-sane
lower_while-branch-draft-requires-clause-sane t c = let a = c.args in (while_ready a.n a.place a.test.now a.tried.now a.block.now c.requires.sane).0

pub lower_while-branch-draft-requires-2-clause-sane : goal.lower_while-branch-draft-requires-2-clause-sane
lower_while-branch-draft-requires-2-clause-sane t c = let a = c.args in (while_ready a.n a.place a.test.now a.tried.now a.block.now c.requires.sane).0

pub lower_while-branch-draft-requires-clause-room : goal.lower_while-branch-draft-requires-clause-room
lower_while-branch-draft-requires-clause-room t c =
    let a = c.args in
    subst (λ (d : Drawn). d.next < 4294967295) (sym c.in_ok-head.ensures)
    (while_room a.place a.test.now a.tried.now a.block.now a.draft.now.at a.draft.now.next c.requires.room)

pub lower_while-returns : goal.lower_while-returns
lower_while-returns t c =
    let a = c.args in
    on_ok_weaker c.branch-draft-2.result (λ h. while_done a.place a.test.now a.tried.now a.block.now _ a.draft.now _ _ _ _ _ _
    c.at-p.ensures c.in_ok-rows.ensures c.in_ok-head.ensures c.in_ok-branch.ensures c.in_ok-lower_list.ensures c.in_ok-turn.ensures h) c.branch-draft-2.ensures
