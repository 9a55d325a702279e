use Rattle.std.proofs.Common.{◌≡◌, rules, ◌++◌, ◌∷◌, [], arith}
use Rattle.pc_lower.proofs.Annotations.{none_next}
use Rattle.pc_lower.proofs.annotation.no_rows.Goals as goal

pub loop-p-preserved : goal.loop-p-preserved
loop-p-preserved c =
    let added : c.push.new.self ≡ c.loop-p.a ++ c.new.result ∷ [] = search rules in
    none_next c.args.g.now.points c.loop-p.a c.push.new.self c.loop-p._p c.new.result (omega arith) c.new.ensures added c.loop-p.invariant
