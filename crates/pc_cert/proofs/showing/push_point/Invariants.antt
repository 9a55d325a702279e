use Rattle.std.proofs.Common.{◌≡◌, ◌++◌, ◌∷◌, [], take, map, length}
use Rattle.std.specs.Prelude.{codes}
use Rattle.pc_lines.specs.Texts.{counts, line_text, lines_text, row_line}
use Rattle.pc_cert.proofs.showing.push_point.Given as goal

abbrev pub invariant-rows : goal.invariant-rows
invariant-rows l = l.text ≡ l.fn.text ++ (line_text (counts (codes "point") (l.p ∷ length l.rows ∷ [])) ++ lines_text (map (row_line l.variables) (take l.i l.rows)))
