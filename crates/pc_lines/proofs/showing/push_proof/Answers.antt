use Rattle.std.proofs.Common.{◌<◌, ◌++◌, ap, ◌∙◌, FitsSigned, length, arith, rules}
use Rattle.std.specs.Int.{w128}
use Rattle.std.proofs.lemmas.Int.{to_z-of_z}
use Rattle.std.proofs.lemmas.Option.{get_or_from_slice_get}
use Rattle.std.specs.Prelude.{codes}
use Rattle.pc_text.specs.Numerals.{numeral}
use Rattle.pc_lines.proofs.Shown.{proof_step}
use Rattle.pc_lines.proofs.showing.push_proof.Goals as goal

pub parts-preserved : goal.parts-preserved
parts-preserved c =
    let ps = c.parts-parts.result.now in
    let p = c.at-part.result in
    let within : c.parts.i < length ps = omega (arith, c.parts-test.true, c.len-i-end.ensures.value) in
    let fits : FitsSigned w128 c.get-in-parts.result = search rules in
    let multiplier = simp to_z-of_z at c.in_ok-push_further.ensures in
    proof_step c.args.p.now.goal ps c.parts.i p c.args.text.now c.parts.text c.push_count.new.text c.push_further.new.text within
    (get_or_from_slice_get ps c.parts.i p p c.at-part.ensures) c.parts.invariant c.in_ok-push_count.ensures (multiplier ∙ ap (λ m. c.push_count.new.text ++ (codes " " ++ numeral m)) c.get-in-parts.ensures.value)
