use Rattle.std.proofs.Common.{◌∙◌, ◌+◌, ◌<◌, List, Bool, true, arith, subst, sym, length, ap, set}
use Rattle.pc_fixpoint.specs.Flowing.{heads}
use Rattle.pc_fixpoint.specs.Marks.{MarksTell}
use Rattle.pc_fixpoint.specs.Rounds.{weight}
use Rattle.pc_fixpoint.proofs.Marking.{tells_kept, tells_set}
use Rattle.pc_fixpoint.proofs.Turning.{weight_same}
use Rattle.pc_fixpoint.proofs.iteration.refill.Goals as goal
use Rattle.pc_fixpoint.proofs.iteration.refill.Goals.{then-is_stale+in_ok-v, else-is_stale}

pub loop-p-preserved : goal.loop-p-preserved
loop-p-preserved g c =
    let d = g.D.Forward in
    let flow = c.args.g.now in
    let graph = c.points-p-end.ensures.kept in
    let p = c.loop-p.p in
    let old = c.loop-p.values in
    let marks = c.loop-p.moved in
    let so_far = c.loop-p.invariant in
    let high : p < length flow.points = (let end = c.points-p-end.ensures.value in omega arith) in
    elim c.if-is_stale.branch [
      | then-is_stale+in_ok-v w ↦
          let none = c.is_stale.ensures.none w.if-is_stale.true in
          let is = w.values-is ∙ w.set.ensures in
          let marked = w.moved-is ∙ w.set-then-is_stale.ensures in
          record {
            told = subst (λ (z : List Bool). MarksTell d flow (p + 1) c.if-is_stale.values z) (sym marked)
                (subst (λ (z : List _). MarksTell d flow (p + 1) z (set marks p true)) (sym is)
                (tells_set d flow graph p old marks w.in_ok-v.v (omega arith) high none w.in_ok-v.ensures so_far.told));
            weight = ap (weight d.parts (heads flow)) is ∙ weight_same d.parts (heads flow) old p w.in_ok-v.v none ∙ so_far.weight;
          }
      | else-is_stale w ↦
          record {
            told = subst (λ (z : List Bool). MarksTell d flow (p + 1) c.if-is_stale.values z) (sym w.moved-is)
                (subst (λ (z : List _). MarksTell d flow (p + 1) z marks) (sym w.values-is)
                (tells_kept d flow graph p old marks (omega arith) high (c.is_stale.ensures.others w.if-is_stale.false) so_far.told));
            weight = ap (weight d.parts (heads flow)) w.values-is ∙ so_far.weight;
          }
    ]
