-- Places of lists that grow by an item, or of which one changes.
use Rattle.std.proofs.Common.{◌≡◌, ◌≢◌, ℕ, zero, suc, ◌<◌, List, [], ◌∷◌, ◌++◌, length, refl, ap, Some, slice_get, arith, set}

pub got_before : {A : Type 0} (xs : List A) (y : A) (i : ℕ) → i < length xs → slice_get (xs ++ y ∷ []) i ≡ slice_get xs i
got_before [] y i h = absurd (omega arith)
got_before (x ∷ xs) y zero h = refl
got_before (x ∷ xs) y (suc i) h = got_before xs y i (omega arith)

pub got_last : {A : Type 0} (xs : List A) (y : A) → slice_get (xs ++ y ∷ []) (length xs) ≡ Some y
got_last [] y = refl
got_last (x ∷ xs) y = got_last xs y

pub got_set : {A : Type 0} (xs : List A) (i : ℕ) (y : A) → i < length xs → slice_get (set xs i y) i ≡ Some y
got_set [] i y h = absurd (omega arith)
got_set (x ∷ xs) zero y h = refl
got_set (x ∷ xs) (suc i) y h = got_set xs i y (omega arith)

pub got_set_other : {A : Type 0} (xs : List A) (i j : ℕ) (y : A) → j ≢ i → slice_get (set xs i y) j ≡ slice_get xs j
got_set_other [] i j y h = refl
got_set_other (x ∷ xs) zero zero y h = absurd (h refl)
got_set_other (x ∷ xs) zero (suc j) y h = refl
got_set_other (x ∷ xs) (suc i) zero y h = refl
got_set_other (x ∷ xs) (suc i) (suc j) y h = got_set_other xs i j y (λ e. h (ap suc e))

-- lists with the same items are the same
pub same_items : {A : Type 0} (xs ys : List A) → length xs ≡ length ys → ((p : ℕ) → p < length ys → slice_get xs p ≡ slice_get ys p) → xs ≡ ys
same_items [] [] long h = refl
same_items [] (y ∷ ys) long h = absurd (omega arith)
same_items (x ∷ xs) [] long h = absurd (omega arith)
same_items (x ∷ xs) (y ∷ ys) long h =
    let first : Some x ≡ Some y = h 0 (omega arith) in
    let rest = same_items xs ys (omega arith) (λ p lt. h (suc p) (omega arith)) in
    cc
