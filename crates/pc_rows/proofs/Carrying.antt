-- A state meets a row carried back over an assignment exactly where all its successors meet the row.
use Rattle.std.proofs.Common.{◌≡◌, ℕ, zero, suc, ◌<◌, ℤ, pos, negsuc, ◌+ℤ◌, ◌-ℤ◌, ◌*ℤ◌, refl, sym, ap, subst, ◌∙◌, arith, ◌≤ℤ◌, List, [], ◌∷◌, length, get_or, set, Bool, true, false, cond, Option, Some, None}
use Rattle.std.specs.Prelude.{◌↔◌, ◌+◌, ◌≤◌, ◌<ℤ◌, int_lt, unsigned_abs, slice_set}
use Rattle.std.proofs.lemmas.Bool.{or_parts}
use Rattle.std.proofs.lemmas.Bool.Decides.{nat_tests}
use Rattle.std.proofs.lemmas.Int.{ints}
use Rattle.std.proofs.Math.IntN.{zero-*ℤ}
use Rattle.pc_rows.specs.Linear.{Linear, State, scale_list, dot, value, Meets, coefficient, is_zero}
use Rattle.pc_rows.specs.Substitution.{carried, substituted, never_row, lesser, least_product, needs_open_end, IsNotBelow, IsNotAbove, AreOrdered, AllSuccessorsMeet}
use Rattle.pc_rows.specs.Laws.{SubstitutionIsExact}
use Rattle.pc_rows.proofs.Values.{value-constant}
use Rattle.pc_rows.proofs.Ring.{mul_add, mul_le, mul_neg_left, le_refl_z}
use Rattle.pc_rows.proofs.Lists.{zero_is, dot-add_lists, dot-scale_list, dot-set, dot-moved}

-- the value of the row carried back, and of the row at a successor
pub carried_value : (r form : Linear) (x : ℕ) (lo hi : Option ℤ) (s : State) → x < length r.coefficients →
    value (carried r x form lo hi) s +ℤ coefficient r x *ℤ get_or s x (pos 0)
    ≡ value r s +ℤ coefficient r x *ℤ value form s +ℤ least_product (coefficient r x) lo hi
carried_value r form x lo hi s h =
    let c = coefficient r x in
    let e = dot-add_lists (scale_list c form.coefficients) (set r.coefficients x (pos 0)) s in
    let e2 = dot-scale_list c form.coefficients s in
    let e3 = dot-set r.coefficients s x (pos 0) h in
    let e4 = zero-*ℤ (get_or s x (pos 0)) in
    let e5 = mul_add c form.constant (dot form.coefficients s) in
    omega (arith, ints)

pub moved_value : (r form : Linear) (x : ℕ) (c : ℤ) (s : State) → x < length s →
    value r (set s x (value form s +ℤ c)) +ℤ coefficient r x *ℤ get_or s x (pos 0)
    ≡ value r s +ℤ coefficient r x *ℤ value form s +ℤ coefficient r x *ℤ c
moved_value r form x c s h =
    let e = dot-moved r.coefficients s x (value form s +ℤ c) h in
    let e5 = mul_add (coefficient r x) (value form s) c in
    omega (arith, ints)

-- tests of the ends

-- the lesser product is a least
lesser_le : (a lo hi c : ℤ) → lo ≤ℤ c → c ≤ℤ hi → lesser (a *ℤ lo) (a *ℤ hi) ≤ℤ (a *ℤ c)
lesser_le (pos n) lo hi c p q = let g = mul_le n lo c p in let g' = mul_le n c hi q in grind (arith, ints)
lesser_le (negsuc n) lo hi c p q = let g = mul_neg_left n lo c p in let g' = mul_neg_left n c hi q in grind (arith, ints)

not_low : (a : ℤ) → is_zero a ≡ false → int_lt (pos 0) a ≡ false → a <ℤ pos 0
not_low a z e = grind (arith, ints, nat_tests)

not_high : (a : ℤ) → is_zero a ≡ false → int_lt a (pos 0) ≡ false → pos 0 <ℤ a
not_high a z e = grind (arith, ints, nat_tests)

none_is_open : (a : ℤ) → is_zero a ≡ false → needs_open_end a None None ≡ false → ⊥
none_is_open a z e =
    let both = or_parts (int_lt (pos 0) a) (int_lt a (pos 0)) e in
    let h = not_low a z both.0 in
    let g = not_high a z both.1 in
    omega (arith, ints)

-- where the needed end is closed, the least product is a least
least_le : (a : ℤ) (lo hi : Option ℤ) (c : ℤ) → is_zero a ≡ false → needs_open_end a lo hi ≡ false →
    IsNotBelow lo c → IsNotAbove hi c → least_product a lo hi ≤ℤ (a *ℤ c)
least_le a (Some lo) (Some hi) c z e p q = lesser_le a lo hi c p q
least_le (pos n) (Some lo) None c z e p q = mul_le n lo c p
least_le (negsuc n) (Some lo) None c z e p q = absurd cc
least_le (pos n) None (Some hi) c z e p q = absurd (let h = not_low (pos n) z (or_parts (int_lt (pos 0) (pos n)) false e).0 in omega (arith, ints))
least_le (negsuc n) None (Some hi) c z e p q = mul_neg_left n c hi q
least_le a None None c z e p q = absurd (none_is_open a z e)

-- and it is the product with an integer of the choice
abbrev pub Choice : Option ℤ → Option ℤ → (ℤ → Type 0) → Type 0
Choice lo hi P = (c : ℤ) × IsNotBelow lo c × IsNotAbove hi c × P c

pub least_at : (a : ℤ) (lo hi : Option ℤ) → is_zero a ≡ false → needs_open_end a lo hi ≡ false → AreOrdered lo hi →
    Choice lo hi (λ c. least_product a lo hi ≡ a *ℤ c)
least_at a (Some lo) (Some hi) z e le = by (int_lt (a *ℤ hi) (a *ℤ lo))
  where
    by : (b : Bool) → Choice (Some lo) (Some hi) (λ c. cond b (a *ℤ hi) (a *ℤ lo) ≡ a *ℤ c)
    by true = (hi, le, le_refl_z hi, refl)
    by false = (lo, le_refl_z lo, le, refl)
least_at a (Some lo) None z e le = (lo, le_refl_z lo, tt, refl)
least_at a None (Some hi) z e le = (hi, tt, le_refl_z hi, refl)
least_at a None None z e le = absurd (none_is_open a z e)

-- where it is open, the products go down without end
below_product : (n m : ℕ) (k : ℤ) → unsigned_abs k ≤ m → (k +ℤ pos (suc n) *ℤ negsuc m) ≤ℤ negsuc 0
below_product n m k h = omega (arith, ints)

below_product' : (n m : ℕ) (k : ℤ) → unsigned_abs k ≤ m → (k +ℤ negsuc n *ℤ pos (suc m)) ≤ℤ negsuc 0
below_product' n m k h = omega (arith, ints)

breaking : (a k : ℤ) (lo hi : Option ℤ) → is_zero a ≡ false → needs_open_end a lo hi ≡ true → Choice lo hi (λ c. (k +ℤ a *ℤ c) ≤ℤ negsuc 0)
breaking (pos zero) k lo hi z e = absurd (grind (arith, nat_tests))
breaking (pos (suc n)) k None None z e = (negsuc (unsigned_abs k), tt, tt, below_product n (unsigned_abs k) k (omega arith))
breaking (pos (suc n)) k None (Some hi) z e =
    let m = unsigned_abs k + unsigned_abs hi in (negsuc m, tt, omega (arith, ints), below_product n m k (omega arith))
breaking (pos (suc n)) k (Some lo) None z e = absurd (grind (arith, ints, nat_tests))
breaking (pos (suc n)) k (Some lo) (Some hi) z e = absurd (grind (arith, ints, nat_tests))
breaking (negsuc n) k None None z e = (pos (suc (unsigned_abs k)), tt, tt, below_product' n (unsigned_abs k) k (omega arith))
breaking (negsuc n) k (Some lo) None z e =
    let m = unsigned_abs k + unsigned_abs lo in (pos (suc m), omega (arith, ints), tt, below_product' n m k (omega arith))
breaking (negsuc n) k None (Some hi) z e = absurd (grind (arith, ints, nat_tests))
breaking (negsuc n) k (Some lo) (Some hi) z e = absurd (grind (arith, ints, nat_tests))

-- there is a choice
some_choice : (lo hi : Option ℤ) → AreOrdered lo hi → Choice lo hi (λ c. Unit {0})
some_choice (Some lo) hi le = (lo, le_refl_z lo, le, tt)
some_choice None (Some hi) le = (hi, tt, le_refl_z hi, tt)
some_choice None None le = (pos 0, tt, tt, tt)

-- a row without the variable does not change
kept_value : (r form : Linear) (x : ℕ) (c : ℤ) (s : State) → x < length s → coefficient r x ≡ pos 0 → value r (set s x (value form s +ℤ c)) ≡ value r s
kept_value r form x c s h z =
    let b = moved_value r form x c s h in
    let e = ap (λ (a : ℤ). a *ℤ get_or s x (pos 0)) z ∙ zero-*ℤ (get_or s x (pos 0)) in
    let e2 = ap (λ (a : ℤ). a *ℤ value form s) z ∙ zero-*ℤ (value form s) in
    let e3 = ap (λ (a : ℤ). a *ℤ c) z ∙ zero-*ℤ c in
    omega (arith, ints)

-- a row has a place for each variable whose coefficient is not 0
pub has_place : (cs : List ℤ) (x : ℕ) → is_zero (get_or cs x (pos 0)) ≡ false → x < length cs
has_place [] x e = cc
has_place (c ∷ cs) zero e = omega arith
has_place (c ∷ cs) (suc x) e = let h = has_place cs x e in omega arith

module _ (r form : Linear) (x : ℕ) (lo hi : Option ℤ) (s : State) (h : x < length s) (ordered : AreOrdered lo hi) where
  carried_is_exact : x < length r.coefficients → is_zero (coefficient r x) ≡ false → needs_open_end (coefficient r x) lo hi ≡ false →
      Meets s (carried r x form lo hi) ↔ AllSuccessorsMeet s x form lo hi r
  carried_is_exact k z e = (
    (λ m c p q.
        let a = carried_value r form x lo hi s k in
        let b = moved_value r form x c s h in
        let l = least_le (coefficient r x) lo hi c z e p q in
        omega (arith, ints)),
    (λ all.
        let c = least_at (coefficient r x) lo hi z e ordered in
        let a = carried_value r form x lo hi s k in
        let b = moved_value r form x c.0 s h in
        let m = all c.0 c.1 c.2 in
        let same = c.3 in
        omega (arith, ints)),
  )

  -- the row that no state meets, where some successor breaks the row
  never_is_exact : is_zero (coefficient r x) ≡ false → needs_open_end (coefficient r x) lo hi ≡ true →
      Meets s never_row ↔ AllSuccessorsMeet s x form lo hi r
  never_is_exact z e = (
    (λ m. absurd (let v = value-constant (negsuc 0) s in omega (arith, ints))),
    (λ all. absurd (
        let k = value r s +ℤ coefficient r x *ℤ value form s -ℤ coefficient r x *ℤ get_or s x (pos 0) in
        let c = breaking (coefficient r x) k lo hi z e in
        let b = moved_value r form x c.0 s h in
        let m = all c.0 c.1 c.2 in
        let low = c.3 in
        omega (arith, ints))),
  )

  kept_is_exact : coefficient r x ≡ pos 0 → Meets s r ↔ AllSuccessorsMeet s x form lo hi r
  kept_is_exact z = (
    (λ m c p q. subst (λ v. pos 0 ≤ℤ v) (sym (kept_value r form x c s h z)) m),
    (λ all.
        let c = some_choice lo hi ordered in
        subst (λ v. pos 0 ≤ℤ v) (kept_value r form x c.0 s h z) (all c.0 c.1 c.2)),
  )

  by_case : (none is_open : Bool) → is_zero (coefficient r x) ≡ none → needs_open_end (coefficient r x) lo hi ≡ is_open →
      Meets s (cond none r (cond is_open never_row (carried r x form lo hi))) ↔ AllSuccessorsMeet s x form lo hi r
  by_case true is_open z e = kept_is_exact (zero_is (coefficient r x) z)
  by_case false true z e = never_is_exact z e
  by_case false false z e = carried_is_exact (has_place r.coefficients x z) z e

pub substitution_is_exact : SubstitutionIsExact
substitution_is_exact r form x lo hi s h ordered =
    by_case r form x lo hi s h ordered (is_zero (coefficient r x)) (needs_open_end (coefficient r x) lo hi) refl refl

-- where the row carried back is broken, some integer of the choice leads to a state that breaks the row
module _ (r form : Linear) (x : ℕ) (lo hi : Option ℤ) (s : State) (h : x < length s) (ordered : AreOrdered lo hi) where
  abbrev BreaksAt : ℤ → Type 0
  BreaksAt c = Meets (slice_set s x (value form s +ℤ c)) r → ⊥

  carried_breaks : x < length r.coefficients → is_zero (coefficient r x) ≡ false → needs_open_end (coefficient r x) lo hi ≡ false →
      (Meets s (carried r x form lo hi) → ⊥) → Choice lo hi BreaksAt
  carried_breaks k z e bad =
      let c = least_at (coefficient r x) lo hi z e ordered in
      let a = carried_value r form x lo hi s k in
      let b = moved_value r form x c.0 s h in
      let same = c.3 in
      (c.0, c.1, c.2, (λ m. bad (omega (arith, ints))))

  never_breaks : is_zero (coefficient r x) ≡ false → needs_open_end (coefficient r x) lo hi ≡ true → Choice lo hi BreaksAt
  never_breaks z e =
      let k = value r s +ℤ coefficient r x *ℤ value form s -ℤ coefficient r x *ℤ get_or s x (pos 0) in
      let c = breaking (coefficient r x) k lo hi z e in
      let b = moved_value r form x c.0 s h in
      let low = c.3 in
      (c.0, c.1, c.2, (λ m. omega (arith, ints)))

  kept_breaks : coefficient r x ≡ pos 0 → (Meets s r → ⊥) → Choice lo hi BreaksAt
  kept_breaks z bad =
      let c = some_choice lo hi ordered in
      (c.0, c.1, c.2, (λ m. bad (subst (λ v. pos 0 ≤ℤ v) (kept_value r form x c.0 s h z) m)))

  breaks_by : (none is_open : Bool) → is_zero (coefficient r x) ≡ none → needs_open_end (coefficient r x) lo hi ≡ is_open →
      (Meets s (cond none r (cond is_open never_row (carried r x form lo hi))) → ⊥) → Choice lo hi BreaksAt
  breaks_by true is_open z e bad = kept_breaks (zero_is (coefficient r x) z) bad
  breaks_by false true z e bad = never_breaks z e
  breaks_by false false z e bad = carried_breaks (has_place r.coefficients x z) z e bad

pub broken_choice : (r form : Linear) (x : ℕ) (lo hi : Option ℤ) (s : State) → x < length s → AreOrdered lo hi →
    (Meets s (substituted r x form lo hi) → ⊥) → Choice lo hi (λ c. Meets (slice_set s x (value form s +ℤ c)) r → ⊥)
broken_choice r form x lo hi s h ordered bad =
    breaks_by r form x lo hi s h ordered (is_zero (coefficient r x)) (needs_open_end (coefficient r x) lo hi) refl refl bad
