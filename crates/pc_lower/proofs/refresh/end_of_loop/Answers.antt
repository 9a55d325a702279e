use Rattle.std.proofs.Common.{arith, length}
use Rattle.pc_flow.specs.Incidence.{entering}
use Rattle.pc_flow.proofs.Entries.{edge_within}
use Rattle.pc_lower.proofs.Ends.{ends_next, ends_all, entering_within, entering_there, entering_done}
use Rattle.pc_lower.proofs.refresh.end_of_loop.Goals as goal

pub edge-requires : goal.edge-requires
edge-requires c = entering_within c.args.g.now.edges c.args.h c.loop-k.k c.entering-numbers.result.now c.entering-numbers.ensures.numbers c.loop-k-test.true

pub loop-k-preserved : goal.loop-k-preserved
loop-k-preserved c =
    let g = c.args.g.now in
    let e = c.edge.result.now in
    let points = length g.points in
    let there = entering_there g.edges c.args.h c.loop-k.k c.entering-numbers.result.now c.entering-numbers.ensures.numbers e c.loop-k-test.true c.edge.ensures in
    let within = (edge_within g _ e c.entering-numbers.ensures.kept c.edge.ensures).0 in
    let so_far = c.loop-k.invariant in
    ends_next points c.args.h (entering c.args.h g.edges) c.loop-k.k c.loop-k.end c.after_source-end.result e there c.after_source-end.ensures.more
    c.after_source-end.ensures.source (c.after_source-end.ensures.most points so_far.within within) so_far

pub returns-clause-none : goal.returns-clause-none
returns-clause-none c =
    let g = c.args.g.now in
    ends_all (length g.points) c.args.h g.edges c.loop-k.k c.loop-k.end
    (entering_done g.edges c.args.h c.loop-k.k c.entering-numbers.result.now c.entering-numbers.ensures.numbers (omega arith)) c.loop-k.invariant
