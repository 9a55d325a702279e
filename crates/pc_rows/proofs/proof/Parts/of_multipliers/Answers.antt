use Rattle.std.proofs.Common.{◌∙◌, ◌++◌, ap, arith, take}
use Rattle.pc_rows.specs.Parts.{part_of, parts_from}
use Rattle.pc_rows.proofs.PartLists.{parts_within, parts_next}
use Rattle.pc_rows.proofs.proof.Parts.of_multipliers.Goals as goal

pub add-requires-clause-rising : goal.add-requires-clause-rising
add-requires-clause-rising c = rw c.loop-i.invariant (parts_within c.loop-i.i c.args.multipliers.now)

pub loop-i-preserved : goal.loop-i-preserved
loop-i-preserved c =
    let ms = c.args.multipliers.now in
    let i = c.loop-i.i in
    c.in_ok-add.ensures.ok
    ∙ ap (λ z. z ++ part_of i c.index-multipliers-i.result) c.loop-i.invariant
    ∙ ap (λ m. parts_from 0 (take i ms) ++ part_of i m) c.index-multipliers-i.is
    ∙ parts_next ms i c.index-multipliers-i.result (omega arith)
