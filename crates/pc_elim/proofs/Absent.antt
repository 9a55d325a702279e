-- A variable that no row has: its elimination and the way back over it change nothing.
use Rattle.std.proofs.Common.{◌≡◌, ℕ, zero, suc, ℤ, pos, negsuc, ◌+ℤ◌, ◌*ℤ◌, neg_ℤ, refl, sym, subst, ◌∙◌, ap, arith, List, [], ◌∷◌, ◌++◌, Bool, true, false, cond, Option, None, ◌≤◌, length}
use Rattle.std.specs.Prelude.{not, ◌||◌}
use Rattle.std.specs.List.{AllByRecursion}
use Rattle.std.proofs.lemmas.Int.{ints}
use Rattle.std.proofs.lemmas.Bool.Decides.{nat_tests}
use Rattle.std.proofs.lemmas.List.{append-nil}
use Rattle.std.proofs.Math.IntN.{*ℤ-zero}
use Rattle.pc_rows.specs.Linear.{is_zero}
use Rattle.pc_rows.specs.Evidence.{Point}
use Rattle.pc_rows.proofs.Lists.{zero_is}
use Rattle.pc_elim.specs.declared.made.TheConstants.{LIMIT}
use Rattle.pc_elim.specs.Elimination.{Made, Bound, is_positive, factor, combine, flat, with_each, kept_of, combined_of, eliminated, level}
use Rattle.pc_elim.specs.Places.{has_variable}
use Rattle.pc_elim.specs.Placing.{bound_of, turned, next_bound, greater, greatest, placed_by, placed}
use Rattle.pc_elim.specs.Fits.{AllPairsFit, EliminationFits, GreatestFits, TakenFits, ByFits, PlacedFits}
use Rattle.pc_elim.proofs.Making.{made_all}
use Rattle.pc_elim.proofs.Soundness.{factor-combine}

abbrev pub AllFree : ℕ → List Made → Type 0
AllFree k rs = AllByRecursion (λ r. is_zero (factor r k) ≡ true) rs

free_if : (t has : Bool) → (not t || has) ≡ false → (t ≡ true) × (has ≡ false)
free_if true has h = (refl, h)
free_if false has h = cc

pub all_free : (k : ℕ) (rs : List Made) → has_variable k rs ≡ false → AllFree k rs
all_free k [] h = tt
all_free k (r ∷ rs) h = let q = free_if (is_zero (factor r k)) (has_variable k rs) h in (q.0, all_free k rs q.1)

free_signs : (c : ℤ) → is_zero c ≡ true → (is_positive c ≡ false) × (is_positive (neg_ℤ c) ≡ false)
free_signs (pos zero) h = (refl, refl)
free_signs (pos (suc n)) h = absurd (no_suc n h)
  where
    no_suc : (n : ℕ) → is_zero (pos (suc n)) ≡ true → ⊥
    no_suc n h = grind (arith, nat_tests)
free_signs (negsuc n) h = cc

free_kept : (k : ℕ) (rs : List Made) → AllFree k rs → flat (kept_of k) rs ≡ rs
free_kept k [] h = refl
free_kept k (r ∷ rs) h =
    ap (λ (t : Bool). cond t (r ∷ []) [] ++ flat (kept_of k) rs) h.0
    ∙ ap (λ (z : List Made). r ∷ z) (free_kept k rs h.1)

free_combined : (k : ℕ) (all rs : List Made) → AllFree k rs → flat (combined_of k all) rs ≡ []
free_combined k all [] h = refl
free_combined k all (r ∷ rs) h =
    ap (λ (t : Bool). cond t (with_each k r all) [] ++ flat (combined_of k all) rs) (free_signs (factor r k) h.0).0
    ∙ free_combined k all rs h.1

pub free_made : (k : ℕ) (rs : List Made) → AllFree k rs → eliminated k rs ≡ rs
free_made k rs h =
    ap (λ (z : List Made). z ++ flat (combined_of k rs) rs) (free_kept k rs h)
    ∙ ap (λ (z : List Made). rs ++ z) (free_combined k rs rs h)
    ∙ append-nil rs

pub free_pairs : (k : ℕ) (all rs : List Made) → AllFree k rs → AllByRecursion (AllPairsFit k all) rs
free_pairs k all [] h = tt
free_pairs k all (r ∷ rs) h = (λ e. absurd (both_ways (is_positive (factor r k)) e (free_signs (factor r k) h.0).0), free_pairs k all rs h.1)
  where
    both_ways : (t : Bool) → t ≡ true → t ≡ false → ⊥
    both_ways t e f = cc

free_turned : (t : Bool) (c : ℤ) → is_zero c ≡ true → is_positive (turned t c) ≡ false
free_turned true c h = (free_signs c h).1
free_turned false c h = (free_signs c h).0

free_greatest : (t : Bool) (k : ℕ) (p : Point) (rs : List Made) → AllFree k rs → GreatestFits t k p None rs × (greatest t k p None rs ≡ None)
free_greatest t k p [] h = (tt, refl)
free_greatest t k p (r ∷ rs) h =
    let n = free_turned t (factor r k) h.0 in
    let e : next_bound t k p None r ≡ None = ap (λ (u : Bool). cond u (greater None (bound_of t k p r)) None) n in
    let q = free_greatest t k p rs h.1 in
    ((λ g. cc, subst (λ (o : Option Bound). GreatestFits t k p o rs) (sym e) q.0), ap (λ (o : Option Bound). greatest t k p o rs) e ∙ q.1)

pub free_placed : (k : ℕ) (rs : List Made) (p : Point) → AllFree k rs → PlacedFits k rs p × (placed k rs p ≡ p)
free_placed k rs p h =
    let a = free_greatest false k p rs h in
    let b = free_greatest true k p rs h in (
      (a.0, subst (ByFits k rs p) (sym a.1) (b.0, subst (TakenFits p) (sym b.1) tt)),
      ap (λ (o : Option Bound). placed_by k p o (greatest true k p None rs)) a.1 ∙ ap (placed_by k p None) b.1,
    )

pub eliminated_free : (k v : ℕ) (rs : List Made) → AllFree v rs → AllFree v (eliminated k rs)
eliminated_free k v rs h = made_all k (λ r. is_zero (factor r v) ≡ true) (λ r. is_zero (factor r v) ≡ true) (λ r g _. g)
    (λ p n a b _ _. zero_combined k v p n a b) rs h
  where
    sums_to_zero : (a b : ℤ) → a *ℤ pos 0 +ℤ b *ℤ pos 0 ≡ pos 0
    sums_to_zero a b = let u = *ℤ-zero a in let v = *ℤ-zero b in omega (arith, ints)

    zero_combined : (k v : ℕ) (p n : Made) → is_zero (factor p v) ≡ true → is_zero (factor n v) ≡ true → is_zero (factor (combine k p n) v) ≡ true
    zero_combined k v p n a b =
        let e = factor-combine k v p n in
        let z1 = zero_is (factor p v) a in
        let z2 = zero_is (factor n v) b in
        let f : neg_ℤ (factor n k) *ℤ factor p v +ℤ factor p k *ℤ factor n v ≡ pos 0 = rw (z1, z2) (sums_to_zero (neg_ℤ (factor n k)) (factor p k)) in
        ap is_zero (e ∙ f)

pub free_level : (k v : ℕ) (start : List Made) → AllFree v start → AllFree v (level k start)
free_level zero v start h = h
free_level (suc k) v start h = eliminated_free k v (level k start) (free_level k v start h)

pub free_fits : (k : ℕ) (rs : List Made) → AllFree k rs → length rs ≤ LIMIT → EliminationFits k rs
free_fits k rs h most = (free_pairs k rs rs h, let l = ap (length {A = Made}) (free_made k rs h) in omega arith)
