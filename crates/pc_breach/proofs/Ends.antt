-- The end of an interval at which a row is least: where the row carried back is not met, the row is not met there.
use Rattle.std.proofs.Common.{◌≡◌, ◌∙◌, ℕ, zero, suc, ◌<◌, ℤ, pos, negsuc, ◌+ℤ◌, ◌*ℤ◌, ◌≤ℤ◌, length, get_or, Bool, true, false, cond, refl, sym, ap, subst, arith, Option, Some, None}
use Rattle.std.specs.Prelude.{slice_set, int_lt, is_none}
use Rattle.std.proofs.lemmas.Bool.Decides.{nat_tests}
use Rattle.std.proofs.lemmas.Int.{ints}
use Rattle.std.proofs.Math.IntN.{zero-*ℤ}
use Rattle.pc_rows.specs.Linear.{Linear, State, value, Meets, coefficient, is_zero}
use Rattle.pc_rows.specs.Substitution.{lesser, substituted, carried, needs_open_end, never_row, AreOrdered, IsNotBelow, IsNotAbove}
use Rattle.pc_rows.proofs.Carrying.{carried_value, moved_value, has_place}
use Rattle.pc_rows.proofs.Lists.{zero_is}
use Rattle.pc_rows.proofs.Ring.{mul_le, mul_neg_left}
use Rattle.pc_program.specs.Machine.{clamped}
use Rattle.pc_breach.specs.Following.{end_for}

-- an end of an interval stays where it is
clamped_low : (lo hi : ℤ) → lo ≤ℤ hi → clamped (Some lo) (Some hi) lo ≡ lo
clamped_low lo hi le = grind (arith, ints)

clamped_high : (lo hi : ℤ) → lo ≤ℤ hi → clamped (Some lo) (Some hi) hi ≡ hi
clamped_high lo hi le = grind (arith, ints)

-- c times what is chosen is no more than c times either end
least_chosen : (c lo hi : ℤ) → is_zero c ≡ false → lo ≤ℤ hi → (c *ℤ clamped (Some lo) (Some hi) (end_for c (Some lo) (Some hi))) ≤ℤ lesser (c *ℤ lo) (c *ℤ hi)
least_chosen (pos zero) lo hi other le = absurd (grind (arith, nat_tests))
least_chosen (pos (suc n)) lo hi other le =
    let least = mul_le (suc n) lo hi le in
    let chosen = clamped_low lo hi le in
    let up : int_lt (pos 0) (pos (suc n)) ≡ true = grind (arith, ints) in
    subst (λ (t : Bool). (pos (suc n) *ℤ clamped (Some lo) (Some hi) (cond t lo (cond (int_lt (pos (suc n)) (pos 0)) hi (pos 0)))) ≤ℤ lesser (pos (suc n) *ℤ lo) (pos (suc n) *ℤ hi)) (sym up)
    (subst (λ (k : ℤ). (pos (suc n) *ℤ k) ≤ℤ lesser (pos (suc n) *ℤ lo) (pos (suc n) *ℤ hi)) (sym chosen) (below_lesser (pos (suc n) *ℤ lo) (pos (suc n) *ℤ lo) (pos (suc n) *ℤ hi) (omega (arith, ints)) least))
  where
    below_lesser : (z a b : ℤ) → z ≤ℤ a → z ≤ℤ b → z ≤ℤ lesser a b
    below_lesser z a b h k = grind (arith, ints)
least_chosen (negsuc n) lo hi other le =
    let least = mul_neg_left n lo hi le in
    let chosen = clamped_high lo hi le in
    subst (λ (k : ℤ). (negsuc n *ℤ k) ≤ℤ lesser (negsuc n *ℤ lo) (negsuc n *ℤ hi)) (sym chosen) (below_lesser (negsuc n *ℤ hi) (negsuc n *ℤ lo) (negsuc n *ℤ hi) least (omega (arith, ints)))
  where
    below_lesser : (z a b : ℤ) → z ≤ℤ a → z ≤ℤ b → z ≤ℤ lesser a b
    below_lesser z a b h k = grind (arith, ints)

module _ (r form : Linear) (x : ℕ) (lo hi : ℤ) (s : State) (there : x < length s) (le : lo ≤ℤ hi) where
  abbrev chosen : ℤ
  chosen = clamped (Some lo) (Some hi) (end_for (coefficient r x) (Some lo) (Some hi))

  abbrev reached : State
  reached = slice_set s x (value form s +ℤ chosen)

  kept_breaks : coefficient r x ≡ pos 0 → (Meets s r → ⊥) → Meets reached r → ⊥
  kept_breaks z bad m =
      let b = moved_value r form x chosen s there in
      let e1 = ap (λ (a : ℤ). a *ℤ get_or s x (pos 0)) z ∙ zero-*ℤ (get_or s x (pos 0)) in
      let e2 = ap (λ (a : ℤ). a *ℤ value form s) z ∙ zero-*ℤ (value form s) in
      let e3 = ap (λ (a : ℤ). a *ℤ chosen) z ∙ zero-*ℤ chosen in
      bad (omega (arith, ints))

  carried_breaks : is_zero (coefficient r x) ≡ false → (Meets s (carried r x form (Some lo) (Some hi)) → ⊥) → Meets reached r → ⊥
  carried_breaks other bad m =
      let a = carried_value r form x (Some lo) (Some hi) s (has_place r.coefficients x other) in
      let b = moved_value r form x chosen s there in
      let least = least_chosen (coefficient r x) lo hi other le in
      bad (omega (arith, ints))

  by_case : (t : Bool) → is_zero (coefficient r x) ≡ t → (Meets s (cond t r (cond (needs_open_end (coefficient r x) (Some lo) (Some hi)) never_row (carried r x form (Some lo) (Some hi)))) → ⊥) → Meets reached r → ⊥
  by_case true z bad = kept_breaks (zero_is (coefficient r x) z) bad
  by_case false z bad = carried_breaks z bad

  closed_breaks : (Meets s (substituted r x form (Some lo) (Some hi)) → ⊥) → Meets reached r → ⊥
  closed_breaks bad = by_case (is_zero (coefficient r x)) refl bad

-- the state after an assignment whose ends are closed
pub end_breaks : (r form : Linear) (x : ℕ) (lo hi : Option ℤ) (s : State) → x < length s → AreOrdered lo hi → is_none lo ≡ false → is_none hi ≡ false →
    (Meets s (substituted r x form lo hi) → ⊥) → Meets (slice_set s x (value form s +ℤ clamped lo hi (end_for (coefficient r x) lo hi))) r → ⊥
end_breaks r form x None hi s there ordered low high bad = absurd (cc)
end_breaks r form x (Some lo) None s there ordered low high bad = absurd (cc)
end_breaks r form x (Some lo) (Some hi) s there ordered low high bad = closed_breaks r form x lo hi s there ordered bad

-- what is chosen lies between the ends
pub chosen_within : (lo hi : Option ℤ) (c : ℤ) → AreOrdered lo hi → is_none lo ≡ false → is_none hi ≡ false → IsNotBelow lo (clamped lo hi c) × IsNotAbove hi (clamped lo hi c)
chosen_within None hi c ordered low high = absurd (cc)
chosen_within (Some lo) None c ordered low high = absurd (cc)
chosen_within (Some lo) (Some hi) c ordered low high = (not_below lo hi c ordered, not_above lo hi c ordered)
  where
    not_below : (lo hi c : ℤ) → lo ≤ℤ hi → lo ≤ℤ clamped (Some lo) (Some hi) c
    not_below lo hi c le = grind (arith, ints)

    not_above : (lo hi c : ℤ) → lo ≤ℤ hi → clamped (Some lo) (Some hi) c ≤ℤ hi
    not_above lo hi c le = grind (arith, ints)
