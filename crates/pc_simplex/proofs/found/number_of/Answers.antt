use Rattle.std.proofs.Common.{◌∙◌, sym, ap, arith, pos, length}
use Rattle.pc_simplex.proofs.Places.{passed}
use Rattle.pc_simplex.proofs.Zeros.{other_ends}
use Rattle.pc_simplex.proofs.found.number_of.Goals as goal

pub loop-k-preserved : goal.loop-k-preserved
loop-k-preserved c =
    let long = ap length c.numbers-numbers.ensures ∙ c.width-width.ensures.long in
    passed c.args.label c.args.columns.now c.numbers-numbers.result.now c.loop-k.k _ (pos 0) (omega (arith, c.told-columns, c.loop-k-test.true, c.width-width.ensures.most)) (omega (arith, long, c.loop-k-test.true, c.width-width.ensures.most)) (sym c.is.ensures ∙ c.if-is.false)
    ∙ c.loop-k.invariant

pub returns : goal.returns
returns c = c.new.ensures ∙ other_ends c.args.columns.now c.numbers-numbers.result.now c.args.line.now.numbers c.width-width.result c.loop-k.k c.numbers-numbers.ensures (omega (arith, c.loop-k-test.false)) c.width-width.ensures.zero c.args.label c.loop-k.invariant
