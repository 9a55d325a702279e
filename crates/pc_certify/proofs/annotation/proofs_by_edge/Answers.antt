use Rattle.std.proofs.Common.{◌+◌, List, take, sym, subst}
use Rattle.pc_rows.specs.Evidence.{Proof}
use Rattle.pc_certify.specs.Causes.{EdgeFails}
use Rattle.pc_certify.specs.Lists.{Pairwise}
use Rattle.pc_certify.specs.Proving.{EdgeDone}
use Rattle.pc_certify.proofs.Pairs.{any_got, in_got, pairs_more}
use Rattle.pc_certify.proofs.Edges.{edge_none, edge_some}
use Rattle.pc_certify.proofs.annotation.proofs_by_edge.Goals as goal

pub edge_proofs-requires-clause-covers : goal.edge_proofs-requires-clause-covers
edge_proofs-requires-clause-covers c = c.requires.covers c.edge.result.now (in_got c.args.g.now.edges c.loop-i.i c.edge.result.now c.edge.ensures)

pub returns-in-None : goal.returns-in-None
returns-in-None c =
    let points = c.args.g.now.points in
    let a = c.args.annotation.now in
    let e = c.edge.result.now in
    any_got (EdgeFails points a) c.args.g.now.edges c.loop-i.i e (edge_none points a e c.in_ok-found.field-0 c.in-None.is c.in_ok-found.ensures) c.edge.ensures

pub loop-i-preserved : goal.loop-i-preserved
loop-i-preserved c =
    let edges = c.args.g.now.edges in
    let a = c.args.annotation.now in
    let e = c.edge.result.now in
    let done = edge_some c.args.g.now.points a e c.in_ok-found.field-0 c.in-Some.found c.in-Some.is c.in_ok-found.ensures in
    subst (λ (pss : List (List Proof)). Pairwise (EdgeDone a) (take (c.loop-i.i + 1) edges) pss) (sym c.in_ok-push-in-Some.ensures)
    (pairs_more (EdgeDone a) edges c.loop-i.i e c.loop-i.proofs c.in-Some.found c.edge.ensures c.loop-i.invariant done)
