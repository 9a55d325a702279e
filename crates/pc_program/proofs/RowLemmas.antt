-- The rows of comparisons say where these hold.
use Rattle.std.proofs.Common.{◌≡◌, ℤ, pos, ◌-ℤ◌, ◌≤ℤ◌, List, [], ◌∷◌, ◌++◌, Bool, true, false, refl, sym, ap, ◌∙◌, arith, inl, inr, int_le, int_lt}
use Rattle.std.specs.Prelude.{◌⊎◌, ◌↔◌, not, map}
use Rattle.std.specs.List.{list_all}
use Rattle.std.specs.Ordering.{int_eq}
use Rattle.std.proofs.lemmas.Int.{ints}
use Rattle.std.proofs.lemmas.Bool.Decides.{Decides-int_eq}
use Rattle.pc_rows.specs.Linear.{Linear, value, Meets, MeetsAll, difference_of, above_of, negation}
use Rattle.pc_rows.proofs.Values.{value-difference}
use Rattle.pc_rows.proofs.Meeting.{meets_left, meets_right, meets_join, met_or_not, not_both}
use Rattle.pc_language.specs.declared.operator.Op.{Op}
use Rattle.pc_language.specs.declared.operator.Op.TheVariants as op
use Rattle.pc_program.specs.declared.tree.Compare.{Compare}
use Rattle.pc_program.specs.Values.{value_of, compared, holds, all_hold}
use Rattle.pc_rows.specs.Linear.{State}
use Rattle.pc_program.specs.Forms.{form, is_affine, is_unequal, has_rows, is_plain, rows_by, rows_of, rows_all}
use Rattle.pc_program.specs.Laws.{SomeMet, ComparisonsAreRows, ConjunctionsAreRows, UnequalsAreRows}
use Rattle.pc_program.proofs.Results.{and_is, and_of, not_true}
use Rattle.pc_program.proofs.FormLemmas.{value-above, forms_are_right}

-- ---- single rows

lt_met : (a b z : ℤ) → z ≡ b -ℤ a -ℤ pos 1 → (int_lt a b ≡ true → pos 0 ≤ℤ z) × (pos 0 ≤ℤ z → int_lt a b ≡ true)
lt_met a b z e = (λ h. grind (arith, ints), λ h. grind (arith, ints))

le_met : (a b z : ℤ) → z ≡ b -ℤ a → (int_le a b ≡ true → pos 0 ≤ℤ z) × (pos 0 ≤ℤ z → int_le a b ≡ true)
le_met a b z e = (λ h. grind (arith, ints), λ h. grind (arith, ints))

alone : {A : Type 0} (s : State) (r : Linear) → (A → Meets s r) × (Meets s r → A) → A ↔ MeetsAll s (r ∷ [])
alone s r h = (λ a. (h.0 a, tt), λ m. h.1 m.0)

-- two values are equal exactly where both differences are not negative
equal_met : (l r : Linear) (s : State) → (value l s ≡ value r s) ↔ MeetsAll s (difference_of l r ∷ difference_of r l ∷ [])
equal_met l r s =
    let d = value-difference l r s in
    let d' = value-difference r l s in
    (λ e. (omega (arith, ints), (omega (arith, ints), tt)), λ m. let a = m.0 in let b = m.1.0 in omega (arith, ints))

-- ---- the rows of two forms

plain_met : (o : Op) (l r : Linear) (s : State) → is_unequal o ≡ false → (compared o (value l s) (value r s) ≡ true) ↔ MeetsAll s (rows_by o l r)
plain_met op.Less l r s u = alone s (above_of r l) (lt_met (value l s) (value r s) (value (above_of r l) s) (value-above r l s))
plain_met op.AtMost l r s u = alone s (difference_of r l) (le_met (value l s) (value r s) (value (difference_of r l) s) (value-difference r l s))
plain_met op.Greater l r s u = alone s (above_of l r) (lt_met (value r s) (value l s) (value (above_of l r) s) (value-above l r s))
plain_met op.AtLeast l r s u = alone s (difference_of l r) (le_met (value r s) (value l s) (value (difference_of l r) s) (value-difference l r s))
plain_met op.Equal l r s u =
    let d = Decides-int_eq (value l s) (value r s) in
    let e = equal_met l r s in
    (λ h. e.0 (d.0 h), λ m. d.1 (e.1 m))
plain_met op.Unequal l r s u = absurd (cc)

unequal_met : (o : Op) (l r : Linear) (s : State) → is_unequal o ≡ true →
    (compared o (value l s) (value r s) ≡ true → ⊥) ↔ MeetsAll s (rows_by o l r)
unequal_met op.Unequal l r s u =
    let d = Decides-int_eq (value l s) (value r s) in
    let e = equal_met l r s in
    (λ h. e.0 (d.0 (by (int_eq (value l s) (value r s)) h)), λ m h. let k = d.1 (e.1 m) in absurd (cc))
  where
    by : (b : Bool) → (not b ≡ true → ⊥) → b ≡ true
    by true h = refl
    by false h = absurd (h refl)
unequal_met op.Less l r s u = absurd (cc)
unequal_met op.AtMost l r s u = absurd (cc)
unequal_met op.Greater l r s u = absurd (cc)
unequal_met op.AtLeast l r s u = absurd (cc)
unequal_met op.Equal l r s u = absurd (cc)

-- ---- comparisons

-- a comparison is one of the values of its forms
holds_is : (c : Compare) (s : State) → has_rows c ≡ true → holds c s ≡ compared c.op (value (form c.left) s) (value (form c.right) s)
holds_is c s h =
    let b = and_is (is_affine c.left) (is_affine c.right) h in
    let l = (forms_are_right c.left b.0).form in
    let r = (forms_are_right c.right b.1).form in
    ap (λ z. compared c.op z (value_of s c.right)) (sym (l.worth s)) ∙ ap (λ z. compared c.op (value (form c.left) s) z) (sym (r.worth s))

pub comparisons_are_rows : ComparisonsAreRows
comparisons_are_rows c s h =
    let b = and_is (not (is_unequal c.op)) (has_rows c) h in
    let e = holds_is c s b.1 in
    let m = plain_met c.op (form c.left) (form c.right) s (not_true (is_unequal c.op) b.0) in
    (λ k. m.0 (sym e ∙ k), λ k. e ∙ m.1 k)

-- ---- conjunctions

pub conjunctions_are_rows : ConjunctionsAreRows
conjunctions_are_rows [] s h = (λ k. tt, λ k. refl)
conjunctions_are_rows (c ∷ cs) s h =
    let b = and_is (is_plain c) (list_all is_plain cs) h in
    let one = comparisons_are_rows c s b.0 in
    let more = conjunctions_are_rows cs s b.1 in (
      λ k. let p = and_is (holds c s) (all_hold cs s) k in meets_join s (rows_of c) (rows_all cs) (one.0 p.0) (more.0 p.1),
      λ m. and_of (holds c s) (all_hold cs s) (one.1 (meets_left s (rows_of c) (rows_all cs) m)) (more.1 (meets_right s (rows_of c) (rows_all cs) m)),
    )

-- ---- `!=`

-- all rows are met, or the negation of one
all_or_some : (rs : List Linear) (s : State) → MeetsAll s rs ⊎ SomeMet s (map negation rs)
all_or_some [] s = inl tt
all_or_some (r ∷ rs) s = by (met_or_not r s) (all_or_some rs s)
  where
    by : Meets s r ⊎ Meets s (negation r) → MeetsAll s rs ⊎ SomeMet s (map negation rs) → MeetsAll s (r ∷ rs) ⊎ SomeMet s (map negation (r ∷ rs))
    by (inl h) (inl k) = inl (h, k)
    by (inl h) (inr k) = inr (inr k)
    by (inr h) k = inr (inl h)

not_all_and_some : (rs : List Linear) (s : State) → MeetsAll s rs → SomeMet s (map negation rs) → ⊥
not_all_and_some [] s h k = k
not_all_and_some (r ∷ rs) s h (inl k) = not_both r s h.0 k
not_all_and_some (r ∷ rs) s h (inr k) = not_all_and_some rs s h.1 k

pub unequals_are_rows : UnequalsAreRows
unequals_are_rows c s h u = record {
  holds_where = (λ k. to k (all_or_some (rows_of c) s), λ k. from (holds c s) (λ n. not_all_and_some (rows_of c) s (fails.0 n) k));
  fails_where = fails;
}
  where
    fails : (holds c s ≡ true → ⊥) ↔ MeetsAll s (rows_of c)
    fails =
        let e = holds_is c s h in
        let m = unequal_met c.op (form c.left) (form c.right) s u in
        (λ n. m.0 (λ k. n (e ∙ k)), λ a k. m.1 a (sym e ∙ k))

    to : holds c s ≡ true → MeetsAll s (rows_of c) ⊎ SomeMet s (map negation (rows_of c)) → SomeMet s (map negation (rows_of c))
    to k (inl m) = absurd (fails.1 m k)
    to k (inr m) = m

    from : (b : Bool) → ((b ≡ true → ⊥) → ⊥) → b ≡ true
    from true n = refl
    from false n = absurd (n (λ e. cc))
