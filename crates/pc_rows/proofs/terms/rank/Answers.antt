use Rattle.std.proofs.Common.{arith, length}
use Rattle.pc_rows.proofs.Putting.{split_at, stops_here}
use Rattle.pc_rows.proofs.terms.rank.Goals as goal

pub returns-then-t-v-clause-low : goal.returns-then-t-v-clause-low
returns-then-t-v-clause-low c =
    (split_at c.args.terms.now c.loop-i.i c.args.v c.loop-i.auto.i-end c.loop-i.invariant (stops_here _ _ _ _ c.index-terms-i.is c.if-t-v.true)).0

pub returns-then-t-v-clause-high : goal.returns-then-t-v-clause-high
returns-then-t-v-clause-high c =
    (split_at c.args.terms.now c.loop-i.i c.args.v c.loop-i.auto.i-end c.loop-i.invariant (stops_here _ _ _ _ c.index-terms-i.is c.if-t-v.true)).1

pub returns-clause-low : goal.returns-clause-low
returns-clause-low c =
    (split_at c.args.terms.now (length c.args.terms.now) c.args.v (omega arith) (λ k d lt. c.loop-i.invariant k d (omega (arith, lt, c.loop-i-test.false))) (λ d lt. absurd (omega arith))).0

pub returns-clause-high : goal.returns-clause-high
returns-clause-high c =
    (split_at c.args.terms.now (length c.args.terms.now) c.args.v (omega arith) (λ k d lt. c.loop-i.invariant k d (omega (arith, lt, c.loop-i-test.false))) (λ d lt. absurd (omega arith))).1
