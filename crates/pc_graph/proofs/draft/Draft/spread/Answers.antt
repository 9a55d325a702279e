use Rattle.std.proofs.Common.{◌∙◌}
use Rattle.pc_graph.proofs.Drawing.{row_fits_at, rows_fit_next, spread_next}
use Rattle.pc_graph.proofs.draft.Draft.spread.Goals as goal

pub negation-requires : goal.negation-requires
negation-requires c = row_fits_at c.args.rows.now c.loop-i.i c.at.result.now c.at.ensures c.loop-i.invariant.fit

pub loop-i-preserved : goal.loop-i-preserved
loop-i-preserved c =
    record {
      so_far = spread_next c.args.p c.args.to c.args.rows.now c.in_ok-alone.alone c.loop-i.i c.at.result.now c.negation.result c.args.body _ _
          c.at.ensures c.negation.ensures c.in_ok-alone.ensures c.in_ok-edge.ensures ∙ c.loop-i.invariant.so_far;
      fit = rows_fit_next c.args.rows.now c.loop-i.i c.at.result.now c.at.ensures c.loop-i.invariant.fit;
    }
