use Rattle.std.proofs.Common.{◌≡◌, ◌∙◌, sym, Err}
use Rattle.std.proofs.lemmas.Result.{err_from_is_err_and}
use Rattle.pc_lines.specs.Readers.{repeated}
use Rattle.pc_cert.specs.Readers.{edge_reader}
use Rattle.pc_lines.proofs.Repeats.{turn, turn_fault}
use Rattle.pc_lines.proofs.Told.{reads_on}
use Rattle.pc_cert.proofs.reading.edges.Goals as goal

pub returns-in_err-edge : goal.returns-in_err-edge
returns-in_err-edge c =
    let p = err_from_is_err_and c.from_residual.result c.from_residual.ensures.1 in
    let f = c.in_err-edge.field-0.0 in
    reads_on c.from_residual.result (repeated edge_reader 0 c.args.count c.args.lines.now) c.edge.new.lines (edge_reader c.edges.e c.edges.lines ≡ Err f) p.0 f p.1 p.2
    (λ h. sym c.edges.invariant ∙ turn_fault edge_reader c.args.count c.edges.e c.edges.edges c.edges.lines c.edges-test.true f h) c.in_err-edge.ensures

pub edges-preserved : goal.edges-preserved
edges-preserved c =
    turn edge_reader c.args.count c.edges.e c.edges.edges c.edges.lines c.edges-test.true c.push.new.self c.in_ok-edge.field-0 c.edge.new.lines c.in_ok-edge.ensures c.in_ok-push.ensures.ok
    ∙ c.edges.invariant
