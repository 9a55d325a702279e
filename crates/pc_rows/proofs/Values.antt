-- The values of rows at a state.
use Rattle.std.proofs.Common.{◌≡◌, pos, ◌+ℤ◌, neg_ℤ, ap, arith}
use Rattle.std.proofs.lemmas.Int.{ints, by_lt_z}
use Rattle.std.proofs.Math.IntN.{+ℤ_idr}
use Rattle.pc_rows.specs.declared.row.TheConstants.{VARIABLES}
use Rattle.pc_rows.specs.Linear.{Linear, State, value, dot, opposite_of, negate_list}
use Rattle.pc_rows.specs.Laws.{ValueOfConstant, ValueOfCoefficient, ValueAtZero, ValueOfSum, ValueOfDifference, ValueOfMultiple, ValueOfNegation, ValueOfAbove, AboveIsExact, ValueOfNumber, NegationIsExact}
use Rattle.pc_rows.proofs.Ring.{mul_add}
use Rattle.pc_rows.proofs.Lists.{dot-add_lists, dot-scale_list, dot-negate_list, dot-set, dot-idle, dot-zero, dot-replicate}

pub value-constant : ValueOfConstant
value-constant c s = rw (dot-replicate VARIABLES s, +ℤ_idr c)

pub value-coefficient : ValueOfCoefficient
value-coefficient r v c s h = let e = dot-set r.coefficients s v c h in omega (arith, ints)

pub value-idle : ValueAtZero
value-idle r v c s h = ap (λ d. r.constant +ℤ d) (dot-idle r.coefficients s v c h)

pub value-sum : ValueOfSum
value-sum a b s = rw (dot-add_lists a.coefficients b.coefficients s) (omega (arith, ints))

pub value-opposite : (r : Linear) (s : State) → value (opposite_of r) s ≡ neg_ℤ (value r s)
value-opposite r s = let e = dot-negate_list r.coefficients s in omega (arith, ints)

pub value-difference : ValueOfDifference
value-difference a b s =
    let e = value-sum a (opposite_of b) s in
    let f = value-opposite b s in
    omega (arith, ints)

pub value-scaled : ValueOfMultiple
value-scaled k r s = rw (dot-scale_list k r.coefficients s, mul_add k r.constant (dot r.coefficients s))

pub value-negation : ValueOfNegation
value-negation r s = let e = dot-negate_list r.coefficients s in omega (arith, ints)

pub value-above : ValueOfAbove
value-above a b s =
    let e = dot-add_lists a.coefficients (negate_list b.coefficients) s in
    let f = dot-negate_list b.coefficients s in
    omega (arith, ints)

pub above_is_exact : AboveIsExact
above_is_exact a b s = let e = value-above a b s in ((λ m. omega (arith, ints)), (λ lt. omega (arith, ints)))

pub value-number : ValueOfNumber
value-number r s h = rw (dot-zero r.coefficients s h, +ℤ_idr r.constant)

pub negation_is_exact : NegationIsExact
negation_is_exact r s =
    let e = value-negation r s in
    ((λ m h. omega (arith, ints)), (λ below. by_lt_z (value r s) (pos 0) (λ lt. omega (arith, ints)) (λ le. absurd (below le))))
