use Rattle.std.proofs.Common.{◌∙◌, ap, arith}
use Rattle.pc_replay.specs.Shape.{first_beyond}
use Rattle.pc_replay.proofs.Edges.{alternative_accepts, alternative_refuses, alternative_goes_on}
use Rattle.pc_replay.proofs.replay.alternative.Goals as goal

pub returns-in_default-edge : goal.returns-in_default-edge
returns-in_default-edge c =
    let g = c.args.g.now in
    let entry = c.in_default.ensures ∙ ap (λ n. first_beyond n c.rows_at.result.now) c.params-params.ensures.value ∙ ap (first_beyond g.params) c.rows_at.ensures in
    alternative_refuses g c.args.n c.args.a.now entry c.loop-i.i c.edge.result.now c.proofs_at.result.now c.edge.ensures c.proofs_at.ensures c.loop-i.invariant
    c.edge-in-loop-i.result c.edge-in-loop-i.ensures c.in_default-edge.not-Accepted

pub loop-i-preserved : goal.loop-i-preserved
loop-i-preserved c =
    let g = c.args.g.now in
    let entry = c.in_default.ensures ∙ ap (λ n. first_beyond n c.rows_at.result.now) c.params-params.ensures.value ∙ ap (first_beyond g.params) c.rows_at.ensures in
    alternative_goes_on g c.args.n c.args.a.now entry c.loop-i.i c.edge.result.now c.proofs_at.result.now c.edge.ensures c.proofs_at.ensures c.loop-i.invariant
    c.edge-in-loop-i.result c.edge-in-loop-i.ensures c.in-Accepted.is

pub returns : goal.returns
returns c =
    let g = c.args.g.now in
    let entry = c.in_default.ensures ∙ ap (λ n. first_beyond n c.rows_at.result.now) c.params-params.ensures.value ∙ ap (first_beyond g.params) c.rows_at.ensures in
    alternative_accepts g c.args.n c.args.a.now entry c.loop-i.i (omega (arith, c.edges-i-end.ensures.value)) c.loop-i.invariant
