use Rattle.std.proofs.Common.{◌≡◌, ◌<◌, ◌^◌, ◌++◌, ◌∙◌, ap, subst, arith, rules}
use Rattle.std.specs.Prelude.{OnOk, unsigned_abs, FitsSigned}
use Rattle.std.specs.Fmt.{signed_decimal}
use Rattle.std.proofs.Common.{to_z, of_z, to_z-of_z}
use Rattle.std.specs.Int.{w128}
use Rattle.std.proofs.lemmas.Int.{ints}
use Rattle.pc_text.specs.Numerals.{numeral}
use Rattle.pc_text.proofs.NumeralTexts.{signed_is}
use Rattle.pc_text.proofs.text.Text.push_number.Goals as goal

pub returns-clause-added : goal.returns-clause-added
returns-clause-added c =
    let fits : FitsSigned w128 c.args.number = search rules in
    let small : unsigned_abs c.args.number < 10 ^ 64 = omega (arith, ints, c.ranges.number.sfits) in
    let same : to_z w128 (of_z w128 c.args.number) ≡ c.args.number = to_z-of_z fits in
    let text : c.as_bytes.result.now ≡ numeral c.args.number = c.as_bytes.ensures.value ∙ c.format.ensures.text ∙ ap signed_decimal same ∙ signed_is c.args.number small in
    subst (λ t. OnOk c.push_all.result (c.push_all.new.self ≡ c.args.self.now ++ t)) text c.push_all.ensures.added
