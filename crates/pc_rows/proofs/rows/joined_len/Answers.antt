use Rattle.std.proofs.Common.{◌∙◌, ap, cond, ◌+◌, List, length, take, arith}
use Rattle.std.proofs.lemmas.List.{take_all}
use Rattle.std.specs.List.{list_any}
use Rattle.std.specs.Prelude.{◌||◌}
use Rattle.pc_rows.specs.Linear.{Linear}
use Rattle.pc_rows.specs.Joins.{is_at_most, is_covered, joined}
use Rattle.pc_rows.proofs.Counting.{added_most, counted}
use Rattle.pc_rows.proofs.rows.joined_len.Goals as goal

pub loop-i-preserved : goal.loop-i-preserved
loop-i-preserved c =
    let a = c.args.a.now in
    let i = c.loop-i.i in
    let r = c.at.result.now in
    let count = c.loop-i.count in
    let rows_are = c.deref.ensures.value ∙ c.b.view_is in
    record {
      few = let one = added_most _ _ c.rows_added-count.ensures in omega (arith, one, c.loop-i.invariant.few);
      most = c.loop-i.invariant.most;
      so_far =
          ap (λ n. count + n) c.rows_added-count.ensures
          ∙ ap (λ (rows : List Linear). count + cond (is_covered r a || list_any (λ x. is_at_most x r) (take i rows)) 0 1) rows_are
          ∙ counted a c.args.b.now i count r c.at.ensures c.loop-i.invariant.so_far;
    }

pub returns : goal.returns
returns c = c.loop-i.invariant.so_far ∙ ap (λ rows. length (joined c.args.a.now rows)) (take_all c.loop-i.i c.args.b.now (omega (arith, c.len-i-end.ensures.value)))
