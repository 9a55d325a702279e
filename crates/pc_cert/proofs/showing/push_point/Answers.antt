use Rattle.std.proofs.Common.{◌<◌, ◌∷◌, [], length, arith}
use Rattle.std.specs.Prelude.{codes}
use Rattle.std.proofs.lemmas.Option.{get_or_from_slice_get}
use Rattle.pc_lines.specs.Texts.{counts, line_text, row_line}
use Rattle.pc_lines.proofs.Shown.{line_step}
use Rattle.pc_cert.proofs.showing.push_point.Goals as goal

pub rows-preserved : goal.rows-preserved
rows-preserved c =
    let rows = c.args.rows.now in
    let r = c.at.result.now in
    let within : c.rows.i < length rows = omega (arith, c.rows-test.true, c.len-i-end.ensures.value) in
    line_step (row_line c.args.variables) (line_text (counts (codes "point") (c.args.p ∷ length rows ∷ []))) rows c.rows.i r c.args.text.now c.rows.text c.push_row.new.text within
    (get_or_from_slice_get rows c.rows.i r r c.at.ensures) c.rows.invariant c.in_ok-push_row.ensures
