use Rattle.std.proofs.Common.{◌≡◌, ◌*ℤ◌, drop}
use Rattle.pc_rows.specs.Linear.{InRange, negation}
use Rattle.pc_rows.specs.Readers.{terms_of, sum_over, SumsOverFit}
use Rattle.pc_simplex.proofs.negation.negated_value.Given as goal

abbrev pub invariant-loop-k : goal.invariant-loop-k
invariant-loop-k l = record {
  range : InRange ((negation l.r).constant *ℤ l.p.denominator);
  rest : sum_over l.sum (drop l.k (terms_of (negation l.r))) l.p.numerators ≡ sum_over ((negation l.r).constant *ℤ l.p.denominator) (terms_of (negation l.r)) l.p.numerators;
  fits : SumsOverFit ((negation l.r).constant *ℤ l.p.denominator) (terms_of (negation l.r)) l.p.numerators → SumsOverFit l.sum (drop l.k (terms_of (negation l.r))) l.p.numerators;
  back : SumsOverFit l.sum (drop l.k (terms_of (negation l.r))) l.p.numerators → SumsOverFit ((negation l.r).constant *ℤ l.p.denominator) (terms_of (negation l.r)) l.p.numerators;
}
