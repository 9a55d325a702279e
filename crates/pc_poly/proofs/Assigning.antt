-- Rows after an assignment are met by the states after it.
use Rattle.std.proofs.Common.{◌≡◌, ◌∙◌, ℕ, zero, suc, ◌<◌, List, [], ◌∷◌, length, get_or, set, Some, Option, ℤ, pos, negsuc, ◌+ℤ◌, ◌-ℤ◌, ◌*ℤ◌, neg_ℤ, ◌≤ℤ◌, refl, sym, ap, subst, arith, inl, inr, Bool, true, false, cond}
use Rattle.std.specs.Prelude.{int_lt, IfOk, IfSome, OkIff, Result, Ok, Err}
use Rattle.std.specs.Result.{result_ok}
use Rattle.std.proofs.lemmas.Int.{ints}
use Rattle.std.proofs.lemmas.List.{length-replicate}
use Rattle.std.proofs.lemmas.Result.{IfOk-weaker}
use Rattle.std.proofs.Math.IntN.{zero-*ℤ}
use Rattle.pc_rows.specs.declared.number.Past.{Past}
use Rattle.pc_rows.specs.declared.row.TheConstants.{VARIABLES}
use Rattle.pc_rows.specs.Linear.{Linear, State, dot, value, Meets, MeetsAll, coefficient, of_constant, with_coefficient, difference_of, scaled_by}
use Rattle.pc_rows.specs.Substitution.{IsNotBelow, IsNotAbove}
use Rattle.pc_rows.proofs.Algebra.{get_or-zeros}
use Rattle.pc_rows.proofs.Ring.{mul_add, mul_comm, mul_le, mul_neg, mul_neg_left, le_refl_z}
use Rattle.pc_rows.proofs.Values.{value-constant, value-coefficient, value-sum, value-difference, value-scaled}
use Rattle.pc_poly.specs.declared.assignment.Assignment.{Assignment}
use Rattle.pc_poly.specs.Rows.{added, added_fitting, Eliminates}
use Rattle.pc_poly.specs.Assigning.{zeroing, IsOnce, successor, Assigns, AddsAfter, MetAfter, factor, needed, replaced, low_row, high_row}
use Rattle.pc_poly.proofs.Gathering.{added_each, fitting_each, ok_is}
use Rattle.pc_poly.proofs.Eliminating.{value_free, met_free}

-- a variable that takes another value
dot-taken : (cs s : List ℤ) (x : ℕ) (n : ℤ) → get_or (set s x n) x (pos 0) ≡ n → dot cs (set s x n) +ℤ get_or cs x (pos 0) *ℤ get_or s x (pos 0) ≡ dot cs s +ℤ get_or cs x (pos 0) *ℤ n
dot-taken [] s x n h = omega (arith, ints)
dot-taken (c ∷ cs) [] x n h = rw (← h) refl
dot-taken (c ∷ cs) (y ∷ s) zero n h = omega (arith, ints)
dot-taken (c ∷ cs) (y ∷ s) (suc x) n h = let e = dot-taken cs s x n h in omega (arith, ints)

module _ (a : Assignment) (s : State) (c : ℤ) (assigns : Assigns a s c) where
  abbrev pub after : State
  after = successor a s c

  abbrev pub new : ℤ
  new = value a.form s +ℤ c

  value_taken : (r : Linear) → value r after +ℤ coefficient r a.x *ℤ get_or s a.x (pos 0) ≡ value r s +ℤ coefficient r a.x *ℤ new
  value_taken r = let e = dot-taken r.coefficients s a.x new assigns.takes in omega (arith, ints)

  -- a coefficient is exchanged, at the state after it
  value_exchanged : (r : Linear) (k : ℤ) → a.x < length r.coefficients →
      value (with_coefficient r a.x k) after +ℤ coefficient r a.x *ℤ new ≡ value r after +ℤ k *ℤ new
  value_exchanged r k has = subst (λ (y : ℤ). value (with_coefficient r a.x k) after +ℤ coefficient r a.x *ℤ y ≡ value r after +ℤ k *ℤ y) assigns.takes (value-coefficient r a.x k after has)

  -- a multiple of the variable and a constant
  value_of_variable : (n k : ℤ) → a.x < VARIABLES → value (with_coefficient (of_constant n) a.x k) after ≡ n +ℤ k *ℤ new
  value_of_variable n k has =
      let e = value_exchanged (of_constant n) k (let long = length-replicate VARIABLES (pos 0) in omega arith) in
      let f = value-constant n after in
      let none : coefficient (of_constant n) a.x *ℤ new ≡ pos 0 = rw (get_or-zeros VARIABLES a.x) (zero-*ℤ new) in
      omega (arith, ints)

  pub low_met : (lo : ℤ) → a.x < VARIABLES → coefficient a.form a.x ≡ pos 0 → a.lo ≡ Some lo → Meets after (low_row a lo)
  low_met lo has without is =
      let low : lo ≤ℤ c = subst (λ (o : Option ℤ). IsNotBelow o c) is assigns.low in
      let e = value-difference (with_coefficient (of_constant (neg_ℤ lo)) a.x (pos 1)) a.form after in
      let f = value_of_variable (neg_ℤ lo) (pos 1) has in
      let same = value_free a.form s a.x new without in
      omega (arith, ints)

  pub high_met : (hi : ℤ) → a.x < VARIABLES → coefficient a.form a.x ≡ pos 0 → a.hi ≡ Some hi → Meets after (high_row a hi)
  high_met hi has without is =
      let high : c ≤ℤ hi = subst (λ (o : Option ℤ). IsNotAbove o c) is assigns.high in
      let e = value-sum (with_coefficient (of_constant hi) a.x (negsuc 0)) a.form after in
      let f = value_of_variable hi (negsuc 0) has in
      let same = value_free a.form s a.x new without in
      omega (arith, ints)

  -- the share of the choice is not greater than at the end that is needed
  share_le : (k end : ℤ) → needed a k ≡ Some end → (k *ℤ end) ≤ℤ (k *ℤ c)
  share_le (pos zero) end is = let e = zero-*ℤ end in let f = zero-*ℤ c in omega (arith, ints)
  share_le (pos (suc n)) end is =
      let above : int_lt (pos 0) (pos (suc n)) ≡ true = grind (arith, ints) in
      let low : a.lo ≡ Some end = sym (ap (λ b. cond b a.lo a.hi) above) ∙ is in
      mul_le (suc n) end c (subst (λ (o : Option ℤ). IsNotBelow o c) low assigns.low)
  share_le (negsuc n) end is =
      mul_neg_left n c end (subst (λ (o : Option ℤ). IsNotAbove o c) is assigns.high)

-- the factor times what the form has of the variable is what the row has of it
turned : (a : Assignment) (r : Linear) (y : ℤ) → IsOnce a → factor a r *ℤ (coefficient a.form a.x *ℤ y) ≡ coefficient r a.x *ℤ y
turned a r y (inl is) =
    let above : int_lt (coefficient a.form a.x) (pos 0) ≡ false = rw is (grind (arith, ints)) in
    let same : coefficient a.form a.x *ℤ y ≡ y = rw is (omega (arith, ints)) in
    rw (above, same) refl
turned a r y (inr is) =
    let below : int_lt (coefficient a.form a.x) (pos 0) ≡ true = rw is (grind (arith, ints)) in
    let other : coefficient a.form a.x *ℤ y ≡ neg_ℤ y = rw is (omega (arith, ints)) in
    let k = coefficient r a.x in
    rw (below, other) (let e = mul_neg (neg_ℤ k) y in let f = mul_comm (neg_ℤ k) y in let f2 = mul_neg y k in let f3 = mul_comm y k in omega (arith, ints))

module _ (a : Assignment) (r : Linear) (k end : ℤ) (once : IsOnce a) (is : k ≡ factor a r) (needs : needed a k ≡ Some end) (in_row : a.x < length r.coefficients) (in_form : a.x < length a.form.coefficients) where
  abbrev pub rest : Linear
  rest = with_coefficient a.form a.x (pos 0)

  pub replaced_met : MetAfter a r (replaced a r k end)
  replaced_met s c assigns met =
      let t = successor a s c in
      let new = value a.form s +ℤ c in
      let old = get_or s a.x (pos 0) in
      let of_row = value_taken a s c assigns r in
      let of_form = value_taken a s c assigns a.form in
      let with_new = value_exchanged a s c assigns r k in_row in
      let without = value_exchanged a s c assigns a.form (pos 0) in_form in
      let none = zero-*ℤ new in
      let back : value rest t ≡ value a.form s -ℤ coefficient a.form a.x *ℤ old = omega (arith, ints) in
      let first = value-difference (with_coefficient r a.x k) (scaled_by k rest) t in
      let last = value-difference (difference_of (with_coefficient r a.x k) (scaled_by k rest)) (scaled_by k (of_constant end)) t in
      let of_rest = value-scaled k rest t in
      let of_end = value-scaled k (of_constant end) t ∙ ap (λ (z : ℤ). k *ℤ z) (value-constant end t) in
      let product : k *ℤ value rest t ≡ k *ℤ value a.form s -ℤ coefficient r a.x *ℤ old = rw back (split (coefficient a.form a.x *ℤ old) (coefficient r a.x *ℤ old) (rw is (turned a r old once))) in
      let parts = mul_add k (value a.form s) c in
      let share = share_le a s c assigns k end needs in
      omega (arith, ints)
    where
      split : (m n : ℤ) → k *ℤ m ≡ n → k *ℤ (value a.form s -ℤ m) ≡ k *ℤ value a.form s -ℤ n
      split m n e = let f = mul_add k (value a.form s) (neg_ℤ m) in let g = mul_neg k m in let h : value a.form s -ℤ m ≡ value a.form s +ℤ neg_ℤ m = omega (arith, ints) in rw h (omega (arith, ints))

-- the factor is 0 only where the row is without the variable
pub factor_zero : (a : Assignment) (r : Linear) → factor a r ≡ pos 0 → coefficient r a.x ≡ pos 0
factor_zero a r h = by (int_lt (coefficient a.form a.x) (pos 0)) h
  where
    by : (b : Bool) → cond b (neg_ℤ (coefficient r a.x)) (coefficient r a.x) ≡ pos 0 → coefficient r a.x ≡ pos 0
    by true e = omega (arith, ints)
    by false e = e

-- a row without the variable stays as it is
pub still_met : (a : Assignment) (r new : Linear) → new ≡ r → coefficient r a.x ≡ pos 0 → MetAfter a r new
still_met a r new is none s c assigns m = subst (Meets (successor a s c)) (sym is) (met_free r s a.x (value a.form s +ℤ c) none m)

-- ---- what is added

-- whatever was chosen, the state after the assignment meets the row
abbrev pub IsMetAfter : Assignment → Linear → Type 0
IsMetAfter a y = (s : State) (c : ℤ) → Assigns a s c → MeetsAll s [] → Meets (successor a s c) y

module _ (P : Type 0) (a : Assignment) (n : ℤ) (r : Result Linear Past) (v : Linear) (has : a.x < VARIABLES) (without : coefficient a.form a.x ≡ pos 0) (exact : OkIff r P v) where
  pub fitting_low : a.lo ≡ Some n → v ≡ low_row a n → IfOk r (IsMetAfter a)
  fitting_low is row =
      IfOk-weaker r (λ y. y ≡ low_row a n) (IsMetAfter a) (λ y e s c assigns m. subst (Meets (successor a s c)) (sym e) (low_met a s c assigns n has without is)) (ok_is P r v (low_row a n) exact row)

  pub fitting_high : a.hi ≡ Some n → v ≡ high_row a n → IfOk r (IsMetAfter a)
  fitting_high is row =
      IfOk-weaker r (λ y. y ≡ high_row a n) (IsMetAfter a) (λ y e s c assigns m. subst (Meets (successor a s c)) (sym e) (high_met a s c assigns n has without is)) (ok_is P r v (high_row a n) exact row)

-- the row that was moved, where it fits
pub moved_met : (a : Assignment) (r : Linear) (k end : ℤ) (moved : Result Linear Past) (new : Option Linear) → new ≡ result_ok moved → IfOk moved (λ y. y ≡ replaced a r k end) →
    MetAfter a r (replaced a r k end) → IfSome new (MetAfter a r)
moved_met a r k end (Ok y) new is e h = subst (λ (o : Option Linear). IfSome o (MetAfter a r)) (sym is) (subst (MetAfter a r) (sym e) h)
moved_met a r k end (Err e) new is f h = subst (λ (o : Option Linear). IfSome o (MetAfter a r)) (sym is) tt

module _ (a : Assignment) (rows old : List Linear) where
  pub adds_after_row : (new : List Linear) (r : Linear) → new ≡ added old r → ((s : State) (c : ℤ) → Assigns a s c → MeetsAll s rows → Meets (successor a s c) r) → AddsAfter a rows old new
  adds_after_row new r is f = subst (AddsAfter a rows old) (sym is) (λ s c assigns m k. added_each (Meets (successor a s c)) old r k (f s c assigns m))

  pub adds_after_fitting : (new : List Linear) (r : Result Linear Past) → new ≡ added_fitting old r →
      IfOk r (λ y. (s : State) (c : ℤ) → Assigns a s c → MeetsAll s rows → Meets (successor a s c) y) → AddsAfter a rows old new
  adds_after_fitting new r is f =
      subst (AddsAfter a rows old) (sym is)
      (λ s c assigns m k. fitting_each (Meets (successor a s c)) old r k
      (IfOk-weaker r (λ y. (s : State) (c : ℤ) → Assigns a s c → MeetsAll s rows → Meets (successor a s c) y) (Meets (successor a s c)) (λ y g. g s c assigns m) f))

-- the ends of the new value are added to rows from which the variable is eliminated
pub bounded_after : (a : Assignment) (rows out with_low with_high : List Linear) → Eliminates a.x rows out → AddsAfter a [] out with_low → AddsAfter a [] with_low with_high →
    AddsAfter a rows [] with_high
bounded_after a rows out with_low with_high free low high s c assigns m k = high s c assigns tt (low s c assigns tt (free.met s (value a.form s +ℤ c) m tt))

-- ---- the assignment of 0

zero_there : (s : List ℤ) (x : ℕ) → get_or (set s x (pos 0)) x (pos 0) ≡ pos 0
zero_there [] x = refl
zero_there (y ∷ s) zero = refl
zero_there (y ∷ s) (suc x) = zero_there s x

pub zeroed_met : (x : ℕ) (rows out : List Linear) (s : State) → AddsAfter (zeroing x) rows [] out → MeetsAll s rows → MeetsAll (set s x (pos 0)) out
zeroed_met x rows out s h m =
    let new : value (of_constant (pos 0)) s +ℤ pos 0 ≡ pos 0 = (let e = value-constant (pos 0) s in omega (arith, ints)) in
    subst (λ (n : ℤ). MeetsAll (set s x n) out) new
    (h s (pos 0) (record { low = le_refl_z (pos 0); high = le_refl_z (pos 0); takes = subst (λ (n : ℤ). get_or (set s x n) x (pos 0) ≡ n) (sym new) (zero_there s x) }) m tt)

pub zeroed_all : {E : Type 0} (x : ℕ) (rows : List Linear) (a : Assignment) (r : Result (List Linear) E) → a ≡ zeroing x → IfOk r (λ out. AddsAfter a rows [] out) →
    IfOk r (λ out. (s : State) → MeetsAll s rows → MeetsAll (set s x (pos 0)) out)
zeroed_all x rows a r is h =
    IfOk-weaker r (λ out. AddsAfter a rows [] out) (λ out. (s : State) → MeetsAll s rows → MeetsAll (set s x (pos 0)) out)
    (λ out adds s m. zeroed_met x rows out s (subst (λ (z : Assignment). AddsAfter z rows [] out) is adds) m) h
