use Rattle.std.proofs.Common.{arith, length-append, ap, length, ◌∷◌, []}
use Rattle.pc_entail.proofs.Copying.{row_more}
use Rattle.pc_entail.proofs.reduction.from.Goals as goal

pub loop-i-preserved : goal.loop-i-preserved
loop-i-preserved c = record {
  count = let l = length-append c.loop-i.rows (c.at.result.now ∷ []) in omega (arith, ap length c.in_ok-push.ensures);
  rest = row_more c.args.a.now c.loop-i.rows c.push.new.rows _ c.loop-i.i c.at.result.now c.at.ensures c.loop-i.invariant.rest c.in_ok-push.ensures;
}
