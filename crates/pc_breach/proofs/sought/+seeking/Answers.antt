use Rattle.pc_breach.proofs.Seeking.{found_first, found_second}
use Rattle.pc_breach.proofs.sought.+seeking.Goals as goal

pub first_of-returns-in-Some-first_in : goal.first_of-returns-in-Some-first_in
first_of-returns-in-Some-first_in t c =
    found_first c.args.sought c.args.s.now c.in-If.place c.in-If.test c.in-If.then_part c.in-If.else_part c.as_slice.result.now c.in-Some-first_in.found c.in-If.is c.in-None.ensures
    c.as_slice.ensures c.in-Some-first_in.ensures

pub first_of-returns-in-None-first_in : goal.first_of-returns-in-None-first_in
first_of-returns-in-None-first_in t c =
    found_second c.args.sought c.args.s.now c.in-If.place c.in-If.test c.in-If.then_part c.in-If.else_part c.as_slice.result.now c.as_slice-in-None-first_in.result.now
    c.first_in-in-None-first_in.result c.in-If.is c.in-None.ensures c.as_slice.ensures c.in-None-first_in.ensures c.as_slice-in-None-first_in.ensures c.first_in-in-None-first_in.ensures
