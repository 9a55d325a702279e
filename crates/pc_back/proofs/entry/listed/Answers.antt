use Rattle.std.proofs.Common.{◌≡◌, ◌++◌, ◌∷◌, [], rules}
use Rattle.pc_entail.proofs.Copying.{row_more}
use Rattle.pc_back.proofs.entry.listed.Goals as goal

pub loop-i-preserved : goal.loop-i-preserved
loop-i-preserved c =
    let pushed : c.push.new.self ≡ c.loop-i.items ++ c.at.result.now ∷ [] = search rules in
    row_more c.args.rows.now c.loop-i.items c.push.new.self c.args.rows.now c.loop-i.i c.at.result.now c.at.ensures c.loop-i.invariant pushed
