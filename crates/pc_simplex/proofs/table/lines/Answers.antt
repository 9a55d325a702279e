use Rattle.std.proofs.Common.{◌∙◌, ◌++◌, [], ◌∷◌, ap, sym, arith, List}
use Rattle.std.proofs.lemmas.List.{take_all}
use Rattle.pc_rows.specs.Linear.{negation}
use Rattle.pc_simplex.specs.Values.{Line}
use Rattle.pc_simplex.specs.Turns.{lines_of}
use Rattle.pc_simplex.proofs.Counting.{lines_next, lines_of-end}
use Rattle.pc_simplex.proofs.Negating.{negation_line}
use Rattle.pc_simplex.proofs.table.lines.Goals as goal

pub loop-i-preserved : goal.loop-i-preserved
loop-i-preserved c = lines_next c.args.s.now.premises c.loop-i.i c.premise.result.now c.of_row.result c.loop-i.lines.items c.add.new.lines.items (omega (arith, c.len-premises.ensures.value)) c.premise.ensures c.of_row.ensures c.in_ok-add.ensures c.loop-i.invariant

pub returns : goal.returns
returns c =
    let ps = c.args.s.now.premises in
    let asked = c.args.s.now.goal in
    c.in_ok-add-2.ensures
    ∙ ap (λ (z : List Line). z ++ c.of_negation.result ∷ []) (c.loop-i.invariant ∙ ap (lines_of 0) (take_all c.loop-i.i ps (omega (arith, c.len-premises.ensures.value))))
    ∙ ap (λ (z : Line). lines_of 0 ps ++ z ∷ []) (c.of_negation.ensures ∙ negation_line c.len-premises.result asked c.goal.result.now c.args.negated c.requires c.goal.ensures)
    ∙ sym (lines_of-end 0 ps (negation asked) c.len-premises.result (omega (arith, c.len-premises.ensures.value)))
