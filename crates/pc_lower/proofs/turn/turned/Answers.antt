use Rattle.std.proofs.lemmas.Result.{err_from_is_err_and}
use Rattle.pc_flow.specs.Annotation.{rows_at}
use Rattle.pc_flow.specs.Incidence.{leaving}
use Rattle.pc_lower.specs.Candidate.{with_edge_owed, turned_from}
use Rattle.pc_lower.specs.Course.{edges_carries, edge_owed_operations}
use Rattle.pc_lower.specs.Operations.{operations_of_all}
use Rattle.pc_lower.proofs.Answering.{left_all, refused, answer_after}
use Rattle.pc_lower.proofs.turn.turned.Goals as goal

pub returns-in_err-carry_all : goal.returns-in_err-carry_all
returns-in_err-carry_all c =
    let p = err_from_is_err_and c.from_residual.result c.from_residual.ensures.1 in
    let g = c.args.g.now in
    let h = c.args.h in
    let a = rows_at c.args.rows.now in
    let edges = leaving h g.edges in
    rw (p.1, p.2) (refused (edges_carries a edges) (operations_of_all (with_edge_owed g c.args.m a (a h)) (edge_owed_operations g c.args.m a (a h)) (a h) edges) _ (tt {0})
    (turned_from g c.args.m h a) c.in_err-carry_all.field-0.0 (left_all _) c.in_err-carry_all.ensures)

pub returns : goal.returns
returns c =
    let g = c.args.g.now in
    let h = c.args.h in
    let a = rows_at c.args.rows.now in
    let edges = leaving h g.edges in
    answer_after (edges_carries a edges) (operations_of_all (with_edge_owed g c.args.m a (a h)) (edge_owed_operations g c.args.m a (a h)) (a h) edges)
    (turned_from g c.args.m h a) c.with_edges_owed.result c.in_ok-carry_all.ensures.0 c.with_edges_owed.ensures
