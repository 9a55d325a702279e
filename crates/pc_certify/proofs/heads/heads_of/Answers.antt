use Rattle.std.proofs.Common.{◌≡◌, true, rules}
use Rattle.pc_replay.specs.Shape.{are_over}
use Rattle.pc_certify.proofs.Filling.{heads_more, over_all}
use Rattle.pc_certify.proofs.heads.heads_of.Goals as goal

pub loop-p-preserved : goal.loop-p-preserved
loop-p-preserved over c =
    let g = c.args.g.now in
    let within : are_over g.variables c.in_ok-rows.rows ≡ true = search rules in
    heads_more g c.loop-p.p c.loop-p.heads c.push.new.items c.in_ok-rows.rows c.in_ok-push.ensures (over_all g.variables c.in_ok-rows.rows within) c.loop-p.invariant
