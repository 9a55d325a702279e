use Rattle.std.proofs.Common.{[], rules}
use Rattle.std.proofs.lemmas.Result.{on_ok_weaker}
use Rattle.pc_poly.proofs.Assigning.{adds_after_fitting, fitting_low}
use Rattle.pc_poly.proofs.assignment.add_low.Goals as goal

pub returns-in-Some : goal.returns-in-Some
returns-in-Some c =
    let a = c.args.a.now in
    on_ok_weaker c.add_fitting.result
    (λ is. adds_after_fitting a [] c.args.out.now c.add_fitting.new.rows c.minus-in-Some.result is
    (fitting_low _ a c.in-Some.lo c.minus-in-Some.result _ c.requires.variable c.requires.without c.minus-in-Some.ensures c.in-Some.is (search rules)))
    c.add_fitting.ensures
