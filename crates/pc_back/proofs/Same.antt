-- Lists and rows that are the same.
use Rattle.std.proofs.Common.{◌≡◌, ◌∙◌, ℕ, ◌+◌, List, [], ◌∷◌, ◌++◌, length, drop, map, sym, refl, ap, subst, true, Some, slice_get, arith, append_assoc, ℤ}
use Rattle.std.specs.Prelude.{◌↔◌, int_le}
use Rattle.std.specs.Ordering.{int_eq}
use Rattle.std.specs.Int.Signed.{≤ℤ_refl}
use Rattle.std.specs.Cmp.Lexicographic.{pointwise}
use Rattle.std.specs.Cmp.Rules.{signed_items}
use Rattle.std.proofs.lemmas.Int.{ints}
use Rattle.pc_rows.specs.Linear.{Linear}
use Rattle.pc_rows.specs.Joins.{is_at_most}
use Rattle.pc_rows.proofs.Adding.{drop_got}
use Rattle.pc_rows.proofs.Joining.{and_both, at_most_is, is_le}

-- a list whose items are made of those of another, one more
pub map_next : {A B : Type 0} (f : A → B) (xs : List A) (i : ℕ) (x : A) (done new : List B) → slice_get xs i ≡ Some x → new ≡ done ++ f x ∷ [] →
    done ++ map f (drop i xs) ≡ map f xs → new ++ map f (drop (i + 1) xs) ≡ map f xs
map_next f xs i x done new at is so_far =
    ap (λ (z : List _). z ++ map f (drop (i + 1) xs)) is
    ∙ append_assoc done (f x ∷ []) (map f (drop (i + 1) xs))
    ∙ ap (λ (z : List _). done ++ map f z) (sym (drop_got xs i x at))
    ∙ so_far

-- a list of one row
pub only_row : (rows : List Linear) (r never : Linear) → length rows ≡ 1 → slice_get rows 0 ≡ Some r → (rows ≡ never ∷ []) ↔ (r ≡ never)
only_row [] r never long at = absurd (omega arith)
only_row (x ∷ []) r never long at = let same : x ≡ r = cc in ((λ e. cc), (λ e. cc))
only_row (x ∷ y ∷ more) r never long at = absurd (omega arith)

-- rows that are at most each other

abbrev row : ℤ → List ℤ → Linear
row c cs = record { constant = c; coefficients = cs }

pub at_most_both : (a b : Linear) → is_at_most a b ≡ true → is_at_most b a ≡ true → a ≡ b
at_most_both a b h g =
    let least = at_most_is a b h in
    let most = at_most_is b a g in
    let low = least.1 in
    let high = most.1 in
    let constants : a.constant ≡ b.constant = omega (arith, ints) in
    ap (λ (c : ℤ). row c a.coefficients) constants ∙ ap (row b.constant) least.0

pub at_most_itself : (a b : Linear) → a ≡ b → is_at_most a b ≡ true
at_most_itself a b same =
    subst (λ (z : Linear). is_at_most a z ≡ true) same
    (and_both (pointwise int_eq a.coefficients a.coefficients) (int_le a.constant a.constant) ((signed_items a.coefficients a.coefficients).1 refl)
    (is_le a.constant a.constant (≤ℤ_refl a.constant)))
