use Rattle.std.proofs.Common.{◌≡◌, ◌++◌, ◌∷◌, [], rules}
use Rattle.pc_rows.specs.Linear.{first_of}
use Rattle.pc_back.proofs.Same.{map_next}
use Rattle.pc_back.proofs.entry.first.Goals as goal

pub loop-i-preserved : goal.loop-i-preserved
loop-i-preserved c =
    let pushed : c.push.new.self ≡ c.loop-i.new ++ first_of c.args.params c.at.result.now ∷ [] = search rules in
    map_next (first_of c.args.params) c.args.rows.now c.loop-i.i c.at.result.now c.loop-i.new c.push.new.self c.at.ensures pushed c.loop-i.invariant
