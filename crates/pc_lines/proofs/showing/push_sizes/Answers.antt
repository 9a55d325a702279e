use Rattle.std.proofs.Common.{◌≡◌, ◌++◌, ◌∷◌, [], pos}
use Rattle.pc_text.specs.Numerals.{numeral}
use Rattle.pc_lines.specs.Texts.{line_text, sizes_line}
use Rattle.pc_lines.proofs.Shown.{three_numbers, added_by}
use Rattle.pc_lines.proofs.showing.push_sizes.Goals as goal

pub returns : goal.returns
returns c =
    let z = c.args.sizes in
    added_by c.push.result (c.push.new.self ≡ c.push_count-3.new.text ++ 10 ∷ []) (c.push.new.self ≡ c.args.text.now ++ line_text (sizes_line z))
    (λ h. three_numbers c.args.text.now c.push_all.new.self c.push_count.new.text c.push_count-2.new.text c.push_count-3.new.text c.push.new.self
    (numeral (pos z.points)) (numeral (pos z.edges)) (numeral (pos z.variables)) c.in_ok-push_all.ensures.added
    c.in_ok-push_count.ensures c.in_ok-push_count-2.ensures c.in_ok-push_count-3.ensures h)
    c.push.ensures.added
