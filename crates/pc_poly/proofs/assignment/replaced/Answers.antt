use Rattle.std.proofs.Common.{◌≡◌, ◌<◌, ◌∙◌, length, Some, sym, true, rules, arith}
use Rattle.pc_rows.specs.Linear.{is_zero}
use Rattle.pc_rows.proofs.Lists.{zero_is}
use Rattle.pc_poly.specs.Assigning.{factor, needed}
use Rattle.pc_poly.proofs.Assigning.{factor_zero, replaced_met, moved_met, still_met}
use Rattle.pc_poly.proofs.assignment.replaced.Goals as goal

pub returns-then-is_zero : goal.returns-then-is_zero
returns-then-is_zero c =
    let a = c.args.a.now in
    let r = c.args.r.now in
    let zero : is_zero (factor a r) ≡ true = search rules in
    still_met a r c.copy.result c.copy.ensures.value (factor_zero a r (zero_is (factor a r) zero))

pub returns-in-Some : goal.returns-in-Some
returns-in-Some c =
    let a = c.args.a.now in
    let r = c.args.r.now in
    let k = c.factor-k.result in
    let end = c.in-Some.end in
    let needs : needed a k ≡ Some end = sym c.needed.ensures ∙ c.in-Some.is in
    let in_row : a.x < length r.coefficients = omega (arith, c.factor-k.ensures.row.wide, c.requires.variable) in
    let in_form : a.x < length a.form.coefficients = omega (arith, c.factor-k.ensures.form.wide, c.requires.variable) in
    moved_met a r k end c.moved.result c.ok.result c.ok.ensures.value c.moved.ensures (replaced_met a r k end c.requires.once c.factor-k.ensures.value needs in_row in_form)
