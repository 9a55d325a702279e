-- What holds of each item of a list, as a test and as a fact.
use Rattle.std.proofs.Common.{◌≡◌, ℕ, ◌+◌, ℤ, pos, List, [], ◌∷◌, Bool, true, false, cond, refl, Option, Some, None}
use Rattle.std.specs.Prelude.{◌||◌}
use Rattle.std.specs.Bool.{MatchBool}
use Rattle.std.specs.List.{AllByRecursion, list_all, position_from}
use Rattle.std.proofs.lemmas.Bool.{and_from, and_parts}
use Rattle.pc_rows.specs.Linear.{is_zero}

pub each_if : {A : Type 0} (p : A → Bool) (P : A → Type 0) → ((x : A) → p x ≡ true → P x) → (xs : List A) → list_all p xs ≡ true → AllByRecursion P xs
each_if p P f [] h = tt
each_if p P f (x ∷ xs) h = let g = and_parts (p x) (list_all p xs) h in (f x g.0, each_if p P f xs g.1)

pub if_each : {A : Type 0} (p : A → Bool) (P : A → Type 0) → ((x : A) → P x → p x ≡ true) → (xs : List A) → AllByRecursion P xs → list_all p xs ≡ true
if_each p P f [] h = refl
if_each p P f (x ∷ xs) h = and_from (p x) (list_all p xs) (f x h.0) (if_each p P f xs h.1)

-- a fact that is needed only where the first test fails
pub matched_if : (b c : Bool) (P : Type 0) → (c ≡ true → P) → (b || c) ≡ true → MatchBool b (Unit {0}) P
matched_if true c P f h = tt
matched_if false c P f h = f h

pub if_matched : (b c : Bool) (P : Type 0) → (P → c ≡ true) → MatchBool b (Unit {0}) P → (b || c) ≡ true
if_matched true c P f h = refl
if_matched false c P f h = f h

fails : (b : Bool) (n : ℕ) (rest : Option ℕ) → cond b (Some n) rest ≡ None → (b ≡ false) × (rest ≡ None)
fails true n rest h = absurd (cc)
fails false n rest h = (refl, h)

-- no item passes the test
pub none_passes : {A : Type 0} (t : A → Bool) (n : ℕ) (xs : List A) → position_from t n xs ≡ None → AllByRecursion (λ x. t x ≡ false) xs
none_passes t n [] h = tt
none_passes t n (x ∷ xs) h =
    let g = fails (t x) n (position_from t (n + 1) xs) h in
    (g.0, none_passes t (n + 1) xs g.1)

pub passes_none : {A : Type 0} (t : A → Bool) (n : ℕ) (xs : List A) → AllByRecursion (λ x. t x ≡ false) xs → position_from t n xs ≡ None
passes_none t n [] h = refl
passes_none t n (x ∷ xs) h = rw (h.0) (passes_none t (n + 1) xs h.1)

pub zero_test : (c : ℤ) → c ≡ pos 0 → is_zero c ≡ true
zero_test c h = rw h refl
