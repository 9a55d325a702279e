use Rattle.std.proofs.Common.{◌<◌, ◌≢◌, pos, get_or, sym, subst, arith, Option, IfSome}
use Rattle.pc_rows.specs.declared.row.TheConstants.{VARIABLES}
use Rattle.pc_simplex.specs.Values.{Pick}
use Rattle.pc_simplex.proofs.Picking.{entering_is_entry}
use Rattle.pc_simplex.proofs.Zeros.{entering_ends}
use Rattle.pc_simplex.proofs.choice.entering.Goals as goal

pub returns-clause-value : goal.returns-clause-value
returns-clause-value c = entering_ends c.args.columns.now c.numbers-numbers.result.now c.args.line.now.numbers c.width-width.result c.loop-k.k c.numbers-numbers.ensures (omega (arith, c.loop-k-test.false)) c.width-width.ensures.zero c.loop-k.best c.loop-k.invariant

pub returns-clause-entry : goal.returns-clause-entry
returns-clause-entry c =
    let xs = c.args.line.now.numbers in
    let best = entering_ends c.args.columns.now c.numbers-numbers.result.now xs c.width-width.result c.loop-k.k c.numbers-numbers.ensures (omega (arith, c.loop-k-test.false)) c.width-width.ensures.zero c.loop-k.best c.loop-k.invariant in
    subst (λ (o : Option Pick). IfSome o (λ q. (q.index < VARIABLES) × (get_or xs q.index (pos 0) ≢ pos 0))) (sym best) (entering_is_entry VARIABLES c.args.columns.now xs c.width-width.ensures.long)
