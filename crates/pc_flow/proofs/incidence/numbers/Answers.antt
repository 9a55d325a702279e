use Rattle.std.proofs.Common.{◌≡◌, ◌++◌, ◌∷◌, [], rules, refl, get_or}
use Rattle.pc_flow.specs.Arc.{Arc}
use Rattle.pc_flow.specs.Incidence.{point_at}
use Rattle.pc_flow.proofs.Numbers.{number_put}
use Rattle.pc_flow.proofs.incidence.numbers.Goals as goal

pub loop-i-preserved : goal.loop-i-preserved
loop-i-preserved c =
    let added : c.push.new.self ≡ c.index_mut.result.now ++ c.loop-i.i ∷ [] = search rules in
    let e : Arc = record { from = c.index-edges-i.result.from; to = c.index-edges-i.result.to; what = c.index-edges-i.result.what; body = c.index-edges-i.result.body } in
    let at : e ≡ get_or c.args.edges.now c.loop-i.i e = search rules in
    let at_point : c.point-p.result ≡ point_at c.args.end e = search rules in
    number_put c.args.end c.args.points c.args.edges.now c.loop-i.i e c.loop-i.all.items _ c.index_mut.result.now c.point-p.result at_point c.loop-i-test.true at
    c.requires.within c.index_mut.ensures.value (rw added refl) c.loop-i.invariant
