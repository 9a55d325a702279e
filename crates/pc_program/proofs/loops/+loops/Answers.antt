use Rattle.pc_program.proofs.LoopLemmas.{found_first, found_second}
use Rattle.pc_program.proofs.loops.+loops.Goals as goal

pub first_of-returns-in-Some : goal.first_of-returns-in-Some
first_of-returns-in-Some t c =
    found_first c.args.s.now c.in-If.place c.in-If.test c.in-If.then_part c.in-If.else_part c.as_slice.result.now c.in-Some.place c.in-If.is c.as_slice.ensures c.in-Some.ensures

pub first_of-returns-in-None : goal.first_of-returns-in-None
first_of-returns-in-None t c =
    found_second c.args.s.now c.in-If.place c.in-If.test c.in-If.then_part c.in-If.else_part c.as_slice.result.now c.as_slice-in-None.result.now c.first_in-in-None.result c.in-If.is
    c.as_slice.ensures c.in-None.ensures c.as_slice-in-None.ensures c.first_in-in-None.ensures
