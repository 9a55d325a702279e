use Rattle.std.proofs.Common.{◌≡◌, rules, ◌++◌, ◌∷◌, [], arith}
use Rattle.pc_lower.proofs.Annotations.{heads_next}
use Rattle.pc_lower.proofs.annotation.at_heads.Goals as goal

pub loop-p-preserved : goal.loop-p-preserved
loop-p-preserved c =
    let added : c.push.new.self ≡ c.loop-p.a ++ c.in_ok-rows.rows ∷ [] = search rules in
    heads_next c.args.g.now.points c.args.heads.now c.loop-p.a c.push.new.self c.loop-p.p c.in_ok-rows.rows (omega arith) c.requires c.in_ok-rows.ensures.rows c.in_ok-rows.ensures.few added c.loop-p.invariant
