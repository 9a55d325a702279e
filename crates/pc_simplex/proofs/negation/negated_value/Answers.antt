use Rattle.std.proofs.Common.{◌≡◌, ◌∙◌, ◌*ℤ◌, neg_ℤ, ap, ap₂, subst, sym, get_or, pos, arith, ℤ, drop, refl}
use Rattle.std.proofs.lemmas.Int.{ints}
use Rattle.std.proofs.lemmas.Result.{err_from_is_err_and}
use Rattle.pc_rows.specs.Linear.{InRange, negation}
use Rattle.pc_simplex.proofs.Negating.{fits_here, goes_on, fits_on, fits_back, fits_walk, walked}
use Rattle.pc_simplex.proofs.negation.negated_value.Goals as goal

pub returns-in_err-sum : goal.returns-in_err-sum
returns-in_err-sum c =
    let p = err_from_is_err_and c.from_residual.result c.from_residual.ensures.1 in
    let d : c.new.result ≡ c.args.p.now.denominator = omega (arith, ints, c.new.ensures, c.denominator.ensures.value, c.denominator.ensures.point.denominator) in
    let start = ap₂ (λ (a b : ℤ). a *ℤ b) c.requires d in
    rw p.1 (λ h. c.in_err-sum.ensures (subst InRange (sym start) h.constant))

pub loop-k-init : goal.loop-k-init
loop-k-init c =
    let d : c.new.result ≡ c.args.p.now.denominator = omega (arith, ints, c.new.ensures, c.denominator.ensures.value, c.denominator.ensures.point.denominator) in
    let start = ap₂ (λ (a b : ℤ). a *ℤ b) c.requires d in
    let is = c.in_ok-sum.ensures.1 ∙ start in
    record {
      range = subst InRange start c.in_ok-sum.ensures.0;
      rest = rw is refl;
      fits = λ h. rw is h;
      back = λ h. rw (sym is) h;
    }

pub returns-in_err-sum-2 : goal.returns-in_err-sum-2
returns-in_err-sum-2 c =
    let p = err_from_is_err_and c.from_residual-in_err-sum-2.result c.from_residual-in_err-sum-2.ensures.1 in
    let t = c.term-v.result in
    let same : c.new-in-loop-k.result ≡ t.1 = omega (arith, ints, c.new-in-loop-k.ensures, c.term-v.ensures.range) in
    let opposite : c.negated.result ≡ neg_ℤ t.1 = c.negated.ensures.value ∙ ap neg_ℤ same in
    let read : c.new-in-loop-k-2.result ≡ get_or c.args.p.now.numerators t.0 (pos 0) = omega (arith, ints, c.new-in-loop-k-2.ensures, c.numerator.ensures.value, c.numerator.ensures.range) in
    rw p.1 (λ h. c.in_err-sum-2.ensures (fits_here c.args.r.now c.loop-k.k t.0 t.1 c.negated.result c.new-in-loop-k-2.result c.args.p.now.numerators c.loop-k.sum c.term-v.ensures.term opposite read
    (c.loop-k.invariant.fits (fits_walk c.args.r.now c.args.p.now c.constant-row.ensures.row c.denominator.ensures.point h))))

pub loop-k-preserved : goal.loop-k-preserved
loop-k-preserved c =
    let r = c.args.r.now in
    let k = c.loop-k.k in
    let t = c.term-v.result in
    let m = c.negated.result in
    let x = c.new-in-loop-k-2.result in
    let xs = c.args.p.now.numerators in
    let same : c.new-in-loop-k.result ≡ t.1 = omega (arith, ints, c.new-in-loop-k.ensures, c.term-v.ensures.range) in
    let opposite : m ≡ neg_ℤ t.1 = c.negated.ensures.value ∙ ap neg_ℤ same in
    let read : x ≡ get_or xs t.0 (pos 0) = omega (arith, ints, c.new-in-loop-k-2.ensures, c.numerator.ensures.value, c.numerator.ensures.range) in
    let n = c.in_ok-sum-2.ensures in
    record {
      range = c.loop-k.invariant.range;
      rest = goes_on r k t.0 t.1 m x xs c.loop-k.sum c.term-v.ensures.term opposite read c.in_ok-sum-2.sum n.1 _ c.loop-k.invariant.rest;
      fits = λ h. fits_on r k t.0 t.1 m x xs c.loop-k.sum c.term-v.ensures.term opposite read c.in_ok-sum-2.sum n.1 (c.loop-k.invariant.fits h);
      back = λ h. c.loop-k.invariant.back (fits_back r k t.0 t.1 m x xs c.loop-k.sum c.term-v.ensures.term opposite read c.in_ok-sum-2.sum n.1 n.0 h);
    }

pub returns : goal.returns
returns c = walked c.args.r.now c.args.p.now c.constant-row.ensures.row c.denominator.ensures.point c.loop-k.sum c.loop-k.k c.loop-k.invariant.range (omega (arith, c.terms-k-end.ensures.value, c.loop-k-test.false)) c.loop-k.invariant.rest c.loop-k.invariant.back
