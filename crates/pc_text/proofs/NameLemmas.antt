-- Names by their numbers.
use Rattle.std.proofs.Common.{◌≡◌, ℕ, zero, suc, ◌+◌, Bool, true, false, not, cond, nat_lt, List, [], ◌∷◌, ◌++◌, length, Vec, Option, Some, None, refl, sym, ap, ◌∙◌, inl, inr, arith, ◌⊎◌}
use Rattle.std.specs.Prelude.{option_map, bytes_eq, position, slice_get}
use Rattle.std.specs.List.{list_any, prefix_len}
use Rattle.std.specs.declared.alloc.Global.{Global}
use Rattle.std.specs.Cmp.Lexicographic.{nat_list_eq_equiv}
use Rattle.std.proofs.lemmas.List.{map-append}
use Rattle.std.proofs.lemmas.Bool.{lt-ltb, le-ltb}
use borrow.Author.Tests.{ltb-true, ltb-false}
use Rattle.pc_text.specs.Bytes.{Bytes}
use Rattle.pc_text.specs.Named.{number_of, texts, AreDistinct}

-- ---- a set's place of a name

module _ {X : Type 0} (p : X → Bool) (x : X) (xs : List X) where
  abbrev before : ℕ
  before = prefix_len (λ y. not (p y)) xs

  later : (c : Bool) → nat_lt before (length xs) ≡ c → cond (nat_lt (1 + before) (suc (length xs))) (Some (1 + before)) None ≡ option_map (λ (v : ℕ). v + 1) (cond c (Some before) None)
  later true e = let same : 1 + before ≡ before + 1 = omega arith in rw (lt-ltb (1 + before) (suc (length xs)) (omega (arith, ltb-true before (length xs) e))) (ap Some same)
  later false e = rw (le-ltb (1 + before) (suc (length xs)) (omega (arith, ltb-false before (length xs) e))) refl

  place_by : (b : Bool) → p x ≡ b → position p (x ∷ xs) ≡ cond b (Some 0) (option_map (λ (v : ℕ). v + 1) (position p xs))
  place_by true e = rw (e, lt-ltb 0 (suc (length xs)) (omega arith)) refl
  place_by false e = rw e (later (nat_lt before (length xs)) refl)

-- the place in a set is the number
pub place_is : (word : Bytes) (xs : List (Vec ℕ Global)) → position (λ k. bytes_eq word k.items) xs ≡ number_of (texts xs) word
place_is word [] = refl
place_is word (x ∷ xs) =
    place_by (λ k. bytes_eq word k.items) x xs (bytes_eq word x.items) refl
    ∙ ap (λ b. cond b (Some 0) (option_map (λ (v : ℕ). v + 1) (position (λ k. bytes_eq word k.items) xs))) (nat_list_eq_equiv.symm word x.items)
    ∙ ap (λ o. cond (bytes_eq x.items word) (Some 0) (option_map (λ (v : ℕ). v + 1) o)) (place_is word xs)

-- ---- names that are not there yet

mapped_none : (o : Option ℕ) → option_map (λ (v : ℕ). v + 1) o ≡ None → o ≡ None
mapped_none None e = refl
mapped_none (Some v) e = absurd (cc)

none_by : (b : Bool) (o : Option ℕ) → cond b (Some 0) (option_map (λ (v : ℕ). v + 1) o) ≡ None → (b ≡ false) × (o ≡ None)
none_by true o e = absurd (cc)
none_by false o e = (refl, mapped_none o e)

-- no name of the set is equal to a word that has no number
pub fresh_any : (word : Bytes) (xs : List (Vec ℕ Global)) → number_of (texts xs) word ≡ None → list_any (λ k. bytes_eq word k.items) xs ≡ false
fresh_any word [] e = refl
fresh_any word (x ∷ xs) e =
    let parts = none_by (bytes_eq x.items word) (number_of (texts xs) word) e in
    rw (nat_list_eq_equiv.symm word x.items, parts.0) (fresh_any word xs parts.1)

-- so a set takes the word in at its end
pub added_is : (xs : List (Vec ℕ Global)) (name : Vec ℕ Global) (new : List (Vec ℕ Global)) → number_of (texts xs) name.items ≡ None
    → new ≡ cond (list_any (λ k. bytes_eq name.items k.items) xs) xs (xs ++ name ∷ []) → new ≡ xs ++ name ∷ []
added_is xs name new fresh e = e ∙ ap (λ b. cond b xs (xs ++ name ∷ [])) (fresh_any name.items xs fresh)

pub texts_more : (xs : List (Vec ℕ Global)) (name : Vec ℕ Global) → texts (xs ++ name ∷ []) ≡ texts xs ++ name.items ∷ []
texts_more xs name = map-append (λ k. k.items) xs (name ∷ [])

-- ---- one more name

more_none : (names : List Bytes) (w : Bytes) → number_of names w ≡ None → number_of (names ++ w ∷ []) w ≡ Some (length names)
more_none [] w e = rw (nat_list_eq_equiv.refl w) refl
more_none (name ∷ names) w e =
    let parts = none_by (bytes_eq name w) (number_of names w) e in
    let same : length names + 1 ≡ suc (length names) = omega arith in
    rw parts.0 (ap (option_map (λ (v : ℕ). v + 1)) (more_none names w parts.1) ∙ ap Some same)

some_by : (b : Bool) (o p : Option ℕ) (i : ℕ) → ((j : ℕ) → o ≡ Some j → p ≡ Some j) → cond b (Some 0) (option_map (λ (v : ℕ). v + 1) o) ≡ Some i → cond b (Some 0) (option_map (λ (v : ℕ). v + 1) p) ≡ Some i
some_by true o p i h e = e
some_by false None p i h e = absurd (cc)
some_by false (Some j) p i h e = ap (option_map (λ (v : ℕ). v + 1)) (h j refl) ∙ e

more_some : (names : List Bytes) (w word : Bytes) (i : ℕ) → number_of names word ≡ Some i → number_of (names ++ w ∷ []) word ≡ Some i
more_some [] w word i e = absurd (cc)
more_some (name ∷ names) w word i e = some_by (bytes_eq name word) (number_of names word) (number_of (names ++ w ∷ []) word) i (more_some names w word) e

more_get : (names : List Bytes) (w word : Bytes) (i : ℕ) → slice_get (names ++ w ∷ []) i ≡ Some word → (slice_get names i ≡ Some word) ⊎ ((i ≡ length names) × (word ≡ w))
more_get [] w word zero e = inr (refl, cc)
more_get [] w word (suc i) e = absurd (cc)
more_get (name ∷ names) w word zero e = inl e
more_get (name ∷ names) w word (suc i) e = more_by (more_get names w word i e)
  where
    more_by : (slice_get names i ≡ Some word) ⊎ ((i ≡ length names) × (word ≡ w)) → (slice_get names i ≡ Some word) ⊎ ((suc i ≡ suc (length names)) × (word ≡ w))
    more_by (inl h) = inl h
    more_by (inr h) = inr (ap suc h.0, h.1)

-- a name that is not there yet keeps names distinct
pub distinct_more : (names : List Bytes) (w : Bytes) → AreDistinct names → number_of names w ≡ None → AreDistinct (names ++ w ∷ [])
distinct_more names w distinct fresh i word e = by (more_get names w word i e)
  where
    by : (slice_get names i ≡ Some word) ⊎ ((i ≡ length names) × (word ≡ w)) → number_of (names ++ w ∷ []) word ≡ Some i
    by (inl h) = more_some names w word i (distinct i word h)
    by (inr h) = ap (number_of (names ++ w ∷ [])) h.1 ∙ more_none names w fresh ∙ ap Some (sym h.0)

pub distinct_none : AreDistinct []
distinct_none i word e = absurd (cc)
