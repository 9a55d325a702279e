use Rattle.std.proofs.Common.{◌==◌, arith, subst, sym}
use Rattle.std.specs.List.{AllByRecursion as Each}
use Rattle.std.proofs.lemmas.List.{drop_all}
use Rattle.pc_rows.proofs.Adding.{drop_got}
use Rattle.pc_flow.specs.Arc.{Arc}
use Rattle.pc_flow.specs.Incidence.{entering}
use Rattle.pc_domain.proofs.Picking.{picked_within, picked_there, picked_done}
use Rattle.pc_fixpoint.specs.Marks.{IsMarked}
use Rattle.pc_fixpoint.proofs.marks.has_news.Goals as goal

pub edge-e-requires : goal.edge-e-requires
edge-e-requires c =
    picked_within (λ (e : Arc). e.to == c.args.p) c.args.g.now.edges c.loop-k.k c.entering-numbers.result.now c.entering-numbers.ensures.numbers c.loop-k-test.true

pub loop-k-preserved : goal.loop-k-preserved
loop-k-preserved c =
    let edges = c.args.g.now.edges in
    let e = c.edge-e.result.now in
    let there = picked_there (λ (e : Arc). e.to == c.args.p) edges c.loop-k.k c.entering-numbers.result.now c.entering-numbers.ensures.numbers e c.loop-k-test.true c.edge-e.ensures in
    λ rest. c.loop-k.invariant
    (subst (Each (λ (x : Arc). IsMarked c.args.moved.now x.from → ⊥)) (sym (drop_got (entering c.args.p edges) c.loop-k.k e there)) ((λ m. let is = c.is_from_marked.ensures m in let not = c.if-is_from_marked.false in cc), rest))

pub returns : goal.returns
returns c = λ _.
    let edges = c.args.g.now.edges in
    let done = picked_done (λ (e : Arc). e.to == c.args.p) edges c.loop-k.k c.entering-numbers.result.now c.entering-numbers.ensures.numbers (omega arith) in
    c.loop-k.invariant (subst (Each (λ (x : Arc). IsMarked c.args.moved.now x.from → ⊥)) (sym (drop_all c.loop-k.k (entering c.args.p edges) done)) tt)
