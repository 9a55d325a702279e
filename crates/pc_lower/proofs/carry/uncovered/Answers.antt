use Rattle.std.proofs.Common.{◌≡◌, ◌∙◌, sym, ap, rules, List, ◌++◌, [], ◌∷◌, drop, ◌+◌}
use Rattle.std.specs.Prelude.{not}
use Rattle.pc_rows.specs.Linear.{Linear}
use Rattle.pc_rows.specs.Joins.{is_covered}
use Rattle.pc_lower.specs.Need.{uncovered}
use Rattle.pc_lower.proofs.Carried.{filter_kept, filter_left}
use Rattle.pc_lower.proofs.carry.uncovered.Goals as goal

pub loop-i-preserved-then-covered : goal.loop-i-preserved-then-covered
loop-i-preserved-then-covered c =
    filter_left (λ r. not (is_covered r c.args.others.now)) c.args.rows.now c.loop-i.i c.at-row.result.now c.loop-i.left c.at-row.ensures c.loop-i.invariant
    (ap not (sym c.covered.ensures.value ∙ c.if-covered.true))

pub loop-i-preserved : goal.loop-i-preserved
loop-i-preserved c =
    let pushed : c.push.new.self ≡ c.loop-i.left ++ c.at-row.result.now ∷ [] = search rules in
    let others = c.args.others.now in
    let rest = uncovered others (drop (c.loop-i.i + 1) c.args.rows.now) in
    ap (λ (z : List Linear). z ++ rest) pushed
    ∙ filter_kept (λ r. not (is_covered r others)) c.args.rows.now c.loop-i.i c.at-row.result.now c.loop-i.left c.at-row.ensures c.loop-i.invariant
    (ap not (sym c.covered.ensures.value ∙ c.if-covered.false))
