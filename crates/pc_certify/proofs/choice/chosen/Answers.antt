use Rattle.pc_certify.proofs.Choosing.{annotated_is, annotated_proved, chosen_is}
use Rattle.pc_certify.proofs.choice.chosen.Goals as goal

pub reduced-requires : goal.reduced-requires
reduced-requires c = annotated_proved c.args.g.now c.args.annotation c.in_ok-a.field-0 c.in-Some.a c.in-Some.is c.requires c.in_ok-a.ensures

pub returns-in_ok-reduced-in-Some : goal.returns-in_ok-reduced-in-Some
returns-in_ok-reduced-in-Some c =
    let g = c.args.g.now in
    let a = c.args.annotation in
    chosen_is g a c.in-Some.a c.in_ok-reduced-in-Some.field-0 (annotated_is g a c.in_ok-a.field-0 c.in-Some.a c.in-Some.is c.in_ok-a.ensures)
    c.in_ok-reduced-in-Some.ensures c.possible.result c.possible.ensures
