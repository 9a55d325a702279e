-- A point that meets what is made of rows is taken back to one that meets the rows.
use Rattle.std.proofs.Common.{◌≡◌, ℕ, zero, suc, ◌<◌, ℤ, pos, negsuc, ◌+ℤ◌, ◌*ℤ◌, neg_ℤ, refl, sym, subst, ◌∙◌, ap, arith, ◌≤ℤ◌, List, [], ◌∷◌, ◌++◌, Bool, true, false, cond, Option, Some, None, length, get_or}
use Rattle.std.specs.List.{AllByRecursion}
use Rattle.std.proofs.lemmas.Int.{ints}
use Rattle.std.proofs.Math.IntN.{zero-*ℤ, *ℤ-zero}
use Rattle.pc_rows.specs.Linear.{Linear, scale_list, dot, scaled_by, coefficient, is_zero}
use Rattle.pc_rows.specs.Evidence.{Point}
use Rattle.pc_rows.specs.Points.{numerator, over_multiple, with_numerator}
use Rattle.pc_rows.proofs.Ring.{mul_add, mul_neg, mul_comm, mul_assoc, product_not_negative}
use Rattle.pc_rows.proofs.Lists.{zero_is, dot-moved}
use Rattle.pc_rows.proofs.Algebra.{get_or-scale_list, length-scale_list}
use Rattle.pc_rows.proofs.Farkas.{numerator-sum, numerator-scaled}
use Rattle.pc_elim.specs.Elimination.{Made, Bound, is_positive, factor, combine, flat, with_each, kept_of, combined_of, eliminated}
use Rattle.pc_elim.specs.Placing.{bound_of, turned, greatest, placed_at, placed_by, placed}
use Rattle.pc_elim.proofs.Bounds.{Beats, Gives, Has, greatest_is, greatest_has, greatest_none}

abbrev pub IsMetAt : Point → Made → Type 0
IsMetAt p r = pos 0 ≤ℤ numerator r.row p

abbrev pub AllMeet : Point → List Made → Type 0
AllMeet p rs = AllByRecursion (IsMetAt p) rs

swap_two : (x y z : ℤ) → x *ℤ (y *ℤ z) ≡ y *ℤ (x *ℤ z)
swap_two x y z = sym (mul_assoc x y z) ∙ ap (λ (n : ℤ). n *ℤ z) (mul_comm x y) ∙ mul_assoc y x z

pub numerator-combine : (k : ℕ) (p n : Made) (q : Point) →
    numerator (combine k p n).row q ≡ neg_ℤ (factor n k) *ℤ numerator p.row q +ℤ factor p k *ℤ numerator n.row q
numerator-combine k p n q =
    numerator-sum (scaled_by (neg_ℤ (factor n k)) p.row) (scaled_by (factor p k) n.row) q
    ∙ rw (numerator-scaled (neg_ℤ (factor n k)) p.row q, numerator-scaled (factor p k) n.row q)

-- a row where variable k, which was 0, gets the value v over e
pub numerator-placed : (r : Linear) (e v : ℤ) (k : ℕ) (p : Point) → k < length p.numerators → get_or p.numerators k (pos 0) ≡ pos 0 →
    numerator r (with_numerator (over_multiple e p) k v) ≡ e *ℤ numerator r p +ℤ coefficient r k *ℤ v
numerator-placed r e v k p lt z =
    let m = dot-moved r.coefficients (scale_list e p.numerators) k v (rw length-scale_list lt) in
    let q = get_or-scale_list e p.numerators k in
    let w = ap (λ (n : ℤ). coefficient r k *ℤ n) (q ∙ ap (λ (n : ℤ). e *ℤ n) z ∙ *ℤ-zero e) ∙ *ℤ-zero (coefficient r k) in
    let y = dot-scaled_state r.coefficients e p.numerators in
    let u = swap_two r.constant e p.denominator in
    let v2 = mul_add e (r.constant *ℤ p.denominator) (dot r.coefficients p.numerators) in
    omega (arith, ints)
  where
    dot-scaled_state : (a : List ℤ) (e : ℤ) (s : List ℤ) → dot a (scale_list e s) ≡ e *ℤ dot a s
    dot-scaled_state [] e s = sym (*ℤ-zero e)
    dot-scaled_state (a ∷ as') e [] = sym (*ℤ-zero e)
    dot-scaled_state (a ∷ as') e (x ∷ s) = rw (dot-scaled_state as' e s, mul_add, swap_two a e x)

-- what is made holds of what it is made of
abbrev pub Zeros : ℕ → Point → Made → Type 0
Zeros k p r = is_zero (factor r k) ≡ true → IsMetAt p r

abbrev pub Pair : ℕ → Point → Made → Made → Type 0
Pair k p r n = is_positive (neg_ℤ (factor n k)) ≡ true → IsMetAt p (combine k r n)

abbrev pub Pairs : ℕ → Point → List Made → Made → Type 0
Pairs k p all r = is_positive (factor r k) ≡ true → AllByRecursion (Pair k p r) all

with_if : (k : ℕ) (p : Point) (r n : Made) (ns : List Made) (t : Bool) → is_positive (neg_ℤ (factor n k)) ≡ t → AllMeet p (cond t (combine k r n ∷ []) [] ++ with_each k r ns) → Pair k p r n × AllMeet p (with_each k r ns)
with_if k p r n ns true e h = (λ _. h.0, h.1)
with_if k p r n ns false e h = (λ g. cc, h)

with_meets : (k : ℕ) (p : Point) (r : Made) (ns : List Made) → AllMeet p (with_each k r ns) → AllByRecursion (Pair k p r) ns
with_meets k p r [] h = tt
with_meets k p r (n ∷ ns) h = let q = with_if k p r n ns (is_positive (neg_ℤ (factor n k))) refl h in (q.0, with_meets k p r ns q.1)

kept_if : (k : ℕ) (p : Point) (r : Made) (t : Bool) → is_zero (factor r k) ≡ t → AllMeet p (cond t (r ∷ []) []) → Zeros k p r
kept_if k p r true e h = λ _. h.0
kept_if k p r false e h = λ g. cc

combined_if : (k : ℕ) (p : Point) (all : List Made) (r : Made) (t : Bool) → is_positive (factor r k) ≡ t → AllMeet p (cond t (with_each k r all) []) → Pairs k p all r
combined_if k p all r true e h = λ _. with_meets k p r all h
combined_if k p all r false e h = λ g. cc

split : (p : Point) (as' bs : List Made) → AllMeet p (as' ++ bs) → AllMeet p as' × AllMeet p bs
split p [] bs h = (tt, h)
split p (a ∷ as') bs h = let q = split p as' bs h.1 in ((h.0, q.0), q.1)

parts_meet : (k : ℕ) (p : Point) (all rs : List Made) → AllMeet p (flat (kept_of k) rs) → AllMeet p (flat (combined_of k all) rs) → AllByRecursion (λ r. Zeros k p r × Pairs k p all r) rs
parts_meet k p all [] h g = tt
parts_meet k p all (r ∷ rs) h g =
    let a = split p (kept_of k r) (flat (kept_of k) rs) h in
    let b = split p (combined_of k all r) (flat (combined_of k all) rs) g in
    ((kept_if k p r (is_zero (factor r k)) refl a.0, combined_if k p all r (is_positive (factor r k)) refl b.0), parts_meet k p all rs a.1 b.1)

made_meets : (k : ℕ) (p : Point) (rs : List Made) → AllMeet p (eliminated k rs) → AllByRecursion (λ r. Zeros k p r × Pairs k p rs r) rs
made_meets k p rs h = let q = split p (flat (kept_of k) rs) (flat (combined_of k rs) rs) h in parts_meet k p rs rs q.0 q.1

neg_mul : (a b : ℤ) → neg_ℤ a *ℤ b ≡ neg_ℤ (a *ℤ b)
neg_mul a b = mul_comm (neg_ℤ a) b ∙ mul_neg b a ∙ ap neg_ℤ (mul_comm b a)

positive_suc : (n : ℕ) → is_positive (pos (suc n)) ≡ true
positive_suc n = grind (arith, ints)

signs : {P : Type 0} (c : ℤ) → (is_zero c ≡ true → P) → (is_positive c ≡ true → P) → (is_positive (neg_ℤ c) ≡ true → P) → P
signs (pos zero) a b c = a refl
signs (pos (suc n)) a b c = b (positive_suc n)
signs (negsuc n) a b c = c (positive_suc n)

abbrev pub Most : ℕ → Point → Bound → Made → Type 0
Most k p b n = is_positive (neg_ℤ (factor n k)) ≡ true → pos 0 ≤ℤ (b.weight *ℤ numerator n.row p +ℤ factor n k *ℤ b.number)

most_one : (k : ℕ) (p : Point) (r n : Made) → Pair k p r n → Most k p (bound_of false k p r) n
most_one k p r n h e =
    let v = subst (λ (z : ℤ). pos 0 ≤ℤ z) (numerator-combine k r n p) (h e) in
    let q = neg_mul (factor n k) (numerator r.row p) in
    let w = mul_neg (factor n k) (numerator r.row p) in
    omega (arith, ints)

most_all : (k : ℕ) (p : Point) (r : Made) (ns : List Made) → AllByRecursion (Pair k p r) ns → AllByRecursion (Most k p (bound_of false k p r)) ns
most_all k p r [] h = tt
most_all k p r (n ∷ ns) h = (most_one k p r n h.0, most_all k p r ns h.1)

most_given : (k : ℕ) (p : Point) (all rs : List Made) → AllByRecursion (λ r. Zeros k p r × Pairs k p all r) rs → AllByRecursion (Gives false k p (λ b. AllByRecursion (Most k p b) all)) rs
most_given k p all [] h = tt
most_given k p all (r ∷ rs) h = (λ e. most_all k p r all (h.0.1 e), most_given k p all rs h.1)

module _ (k : ℕ) (p : Point) (lt : k < length p.numerators) (free : get_or p.numerators k (pos 0) ≡ pos 0) where
  met : (t : Bool) (b : Bound) (r : Made) → pos 0 ≤ℤ (b.weight *ℤ numerator r.row p +ℤ factor r k *ℤ turned t b.number) → IsMetAt (placed_at t k p b) r
  met t b r h = subst (λ (z : ℤ). pos 0 ≤ℤ z) (sym (numerator-placed r.row b.weight (turned t b.number) k p lt free)) h

  zero_met : (w n c v : ℤ) → pos 1 ≤ℤ w → pos 0 ≤ℤ n → is_zero c ≡ true → pos 0 ≤ℤ (w *ℤ n +ℤ c *ℤ v)
  zero_met w n c v x y z =
      let a = product_not_negative w n (omega (arith, ints)) y in
      let e = ap (λ (u : ℤ). u *ℤ v) (zero_is c z) ∙ zero-*ℤ v in
      omega (arith, ints)

  one_lower : (b : Bound) (r : Made) → pos 1 ≤ℤ b.weight → Zeros k p r → Beats false k p b r → Most k p b r → IsMetAt (placed_at false k p b) r
  one_lower b r x zeros beats most = met false b r (signs (factor r k)
      (λ e. zero_met b.weight (numerator r.row p) (factor r k) b.number x (zeros e) e)
      (λ e. let h = beats e in
      let q = neg_mul (numerator r.row p) b.weight in omega (arith, ints))
      (λ e. most e))

  lower : (b : Bound) (all rs : List Made) → pos 1 ≤ℤ b.weight → AllByRecursion (λ r. Zeros k p r × Pairs k p all r) rs → AllByRecursion (Beats false k p b) rs → AllByRecursion (Most k p b) rs → AllMeet (placed_at false k p b) rs
  lower b all [] x f g h = tt
  lower b all (r ∷ rs) x f g h = (one_lower b r x f.0.0 g.0 h.0, lower b all rs x f.1 g.1 h.1)

  one_upper : (b : Bound) (r : Made) → pos 1 ≤ℤ b.weight → Zeros k p r → Beats true k p b r → is_positive (factor r k) ≡ false → IsMetAt (placed_at true k p b) r
  one_upper b r x zeros beats none = met true b r (signs (factor r k)
      (λ e. zero_met b.weight (numerator r.row p) (factor r k) (neg_ℤ b.number) x (zeros e) e)
      (λ e. cc)
      (λ e. let h = beats e in
      let q = neg_mul (numerator r.row p) b.weight in
      let q2 = mul_neg b.number (factor r k) in
      let q3 = mul_neg (factor r k) b.number in omega (arith, ints)))

  upper : (b : Bound) (all rs : List Made) → pos 1 ≤ℤ b.weight → AllByRecursion (λ r. Zeros k p r × Pairs k p all r) rs → AllByRecursion (Beats true k p b) rs → AllByRecursion (λ r. is_positive (factor r k) ≡ false) rs → AllMeet (placed_at true k p b) rs
  upper b all [] x f g h = tt
  upper b all (r ∷ rs) x f g h = (one_upper b r x f.0.0 g.0 h.0, upper b all rs x f.1 g.1 h.1)

  one_free : (r : Made) → Zeros k p r → is_positive (factor r k) ≡ false → is_positive (neg_ℤ (factor r k)) ≡ false → IsMetAt p r
  one_free r zeros a b = signs (factor r k) zeros (λ e. cc) (λ e. cc)

  free_all : (all rs : List Made) → AllByRecursion (λ r. Zeros k p r × Pairs k p all r) rs → AllByRecursion (λ r. is_positive (factor r k) ≡ false) rs → AllByRecursion (λ r. is_positive (neg_ℤ (factor r k)) ≡ false) rs → AllMeet p rs
  free_all all [] f g h = tt
  free_all all (r ∷ rs) f g h = (one_free r f.0.0 g.0 h.0, free_all all rs f.1 g.1 h.1)

  by_bounds : (rs : List Made) (o u : Option Bound) → greatest false k p None rs ≡ o → greatest true k p None rs ≡ u → AllByRecursion (λ r. Zeros k p r × Pairs k p rs r) rs → AllMeet (placed_by k p o u) rs
  by_bounds rs (Some b) u e g h =
      let q = greatest_is false k p None rs b tt e in
      let m = subst (Has (λ b. AllByRecursion (Most k p b) rs)) e (greatest_has false k p (λ b. AllByRecursion (Most k p b) rs) None rs tt (most_given k p rs rs h)) in
      lower b rs rs q.0 h q.2 m
  by_bounds rs None (Some b) e g h =
      let q = greatest_is true k p None rs b tt g in
      upper b rs rs q.0 h q.2 (greatest_none false k p rs e)
  by_bounds rs None None e g h = free_all rs rs h (greatest_none false k p rs e) (greatest_none true k p rs g)

  pub placed_meets : (rs : List Made) → AllMeet p (eliminated k rs) → AllMeet (placed k rs p) rs
  placed_meets rs h = by_bounds rs (greatest false k p None rs) (greatest true k p None rs) refl refl (made_meets k p rs h)
