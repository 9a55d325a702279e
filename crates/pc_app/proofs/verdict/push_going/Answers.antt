use Rattle.std.proofs.Common.{codes, pos, rules, FitsSigned, to_z-of_z}
use Rattle.std.specs.Int.{w128}
use Rattle.pc_text.specs.Numerals.{numeral}
use Rattle.pc_app.proofs.TextLemmas.{three_pieces}
use Rattle.pc_app.proofs.verdict.push_going.Goals as goal

pub returns : goal.returns
returns c =
    let fits : FitsSigned w128 c.from.result = search rules in
    let added = c.in_ok-push_number.ensures.added in
    let number = simp to_z-of_z at added in
    three_pieces c.push_values.result c.args.text.now (codes "going after ") (numeral (pos c.args.choices)) _ c.push_all.new.self c.push_number.new.self c.push_values.new.text
    c.in_ok-push_all.ensures.added (rw c.from.ensures at number) c.push_values.ensures
