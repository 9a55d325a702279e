use Rattle.std.proofs.Common.{◌≡◌, ◌+◌, ◌++◌, ◌∷◌, [], arith, rules, subst, sym}
use Rattle.pc_fixpoint.specs.Flowing.{Filled}
use Rattle.pc_fixpoint.proofs.Filling.{filled_push}
use Rattle.pc_fixpoint.proofs.iteration.first.Goals as goal

pub loop-p-preserved : goal.loop-p-preserved
loop-p-preserved g c =
    let added : c.push-in-loop-p.new.self ≡ c.loop-p.values ++ c.in_ok-v.v ∷ [] = search rules in
    subst (Filled g.D.Forward c.args.g.now (c.loop-p.p + 1) (c.loop-p.p + 1)) (sym added)
    (filled_push g.D.Forward c.args.g.now c.variables.ensures.kept c.loop-p.p c.loop-p.values c.in_ok-v.v (omega arith) c.loop-p.invariant c.in_ok-v.ensures)
