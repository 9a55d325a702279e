-- How many rows a join has, counted without making it.
use Rattle.std.proofs.Common.{◌≡◌, ◌∙◌, ℕ, ◌+◌, ◌≤◌, ℤ, pos, List, [], ◌∷◌, ◌++◌, length, take, Bool, true, false, cond, refl, sym, ap, subst, arith, inl, inr, append_assoc, append-nil, length-append, slice_get, Some}
use Rattle.std.specs.Prelude.{◌↔◌, ◌⊎◌, ◌||◌}
use Rattle.std.specs.List.{list_any, AllByRecursion}
use Rattle.std.proofs.lemmas.Int.{ints}
use Rattle.std.proofs.lemmas.List.{take_more}
use Rattle.std.proofs.lemmas.List.Folds.{list_any-append}
use Rattle.std.proofs.lemmas.Option.{slice_get_within, get_or_from_slice_get}
use Rattle.pc_rows.specs.Linear.{Linear}
use Rattle.pc_rows.specs.Joins.{IsAlways, IsAtMost, SomeIsAtMost, IsCovered, is_always, is_at_most, is_covered, with_row, joined}
use Rattle.pc_rows.proofs.Joining.{covering_is_meant}
use Rattle.pc_rows.proofs.Tests.{same_truth}

-- a row that some row of a list makes covered is covered by what covers that row

at_most_of : (a x r : Linear) → IsAtMost a x → IsAtMost x r → IsAtMost a r
at_most_of a x r h g = (h.0 ∙ g.0, let p = h.1 in let q = g.1 in omega (arith, ints))

some_of : (rows : List Linear) (x r : Linear) → SomeIsAtMost rows x → IsAtMost x r → SomeIsAtMost rows r
some_of [] x r h g = absurd h
some_of (a ∷ rows) x r (inl h) g = inl (at_most_of a x r h g)
some_of (a ∷ rows) x r (inr h) g = inr (some_of rows x r h g)

always_of : (x r : Linear) → IsAlways x → IsAtMost x r → IsAlways r
always_of x r h g = (subst (λ (cs : List ℤ). AllByRecursion (λ c. c ≡ pos 0) cs) g.0 h.0, let p = h.1 in let q = g.1 in omega (arith, ints))

covered_of : (rows : List Linear) (x r : Linear) → IsCovered x rows → IsAtMost x r → IsCovered r rows
covered_of rows x r (inl h) g = inl (always_of x r h g)
covered_of rows x r (inr h) g = inr (some_of rows x r h g)

pub some_left : (xs ys : List Linear) (r : Linear) → SomeIsAtMost xs r → SomeIsAtMost (xs ++ ys) r
some_left [] ys r h = absurd h
some_left (x ∷ xs) ys r (inl h) = inl h
some_left (x ∷ xs) ys r (inr h) = inr (some_left xs ys r h)

pub some_right : (xs ys : List Linear) (r : Linear) → SomeIsAtMost ys r → SomeIsAtMost (xs ++ ys) r
some_right [] ys r h = h
some_right (x ∷ xs) ys r h = inr (some_right xs ys r h)

some_split : (xs ys : List Linear) (r : Linear) → SomeIsAtMost (xs ++ ys) r → SomeIsAtMost xs r ⊎ SomeIsAtMost ys r
some_split [] ys r h = inr h
some_split (x ∷ xs) ys r (inl h) = inl (inl h)
some_split (x ∷ xs) ys r (inr h) = by (some_split xs ys r h)
  where
    by : SomeIsAtMost xs r ⊎ SomeIsAtMost ys r → SomeIsAtMost (x ∷ xs) r ⊎ SomeIsAtMost ys r
    by (inl k) = inl (inr k)
    by (inr k) = inr k

covered_left : (xs ys : List Linear) (r : Linear) → IsCovered r xs → IsCovered r (xs ++ ys)
covered_left xs ys r (inl h) = inl h
covered_left xs ys r (inr h) = inr (some_left xs ys r h)

-- a covered row more covers nothing more
module _ (a b : List Linear) (x r : Linear) where
  with_more : IsCovered r (a ++ b) → IsCovered r (a ++ x ∷ b)
  with_more (inl h) = inl h
  with_more (inr h) = by (some_split a b r h)
    where
      by : SomeIsAtMost a r ⊎ SomeIsAtMost b r → IsCovered r (a ++ x ∷ b)
      by (inl k) = inr (some_left a (x ∷ b) r k)
      by (inr k) = inr (some_right a (x ∷ b) r (inr k))

  without : IsCovered x a → IsCovered r (a ++ x ∷ b) → IsCovered r (a ++ b)
  without c (inl h) = inl h
  without c (inr h) = by (some_split a (x ∷ b) r h)
    where
      by : SomeIsAtMost a r ⊎ SomeIsAtMost (x ∷ b) r → IsCovered r (a ++ b)
      by (inl k) = inr (some_left a b r k)
      by (inr (inl k)) = covered_left a b r (covered_of a x r c k)
      by (inr (inr k)) = inr (some_right a b r k)

-- a join covers what both lists cover
covered_by_join : (r : Linear) (a b : List Linear) → IsCovered r (joined a b) ↔ IsCovered r (a ++ b)
covered_by_join r a [] = subst (λ rows. IsCovered r a ↔ IsCovered r rows) (sym (append-nil a)) ((λ h. h), (λ h. h))
covered_by_join r a (x ∷ b) = by (is_covered x a) refl (covered_by_join r a b) (covered_by_join r (a ++ x ∷ []) b)
  where
    by : (t : Bool) → is_covered x a ≡ t → IsCovered r (joined a b) ↔ IsCovered r (a ++ b) →
        IsCovered r (joined (a ++ x ∷ []) b) ↔ IsCovered r ((a ++ x ∷ []) ++ b) →
        IsCovered r (joined (cond t a (a ++ x ∷ [])) b) ↔ IsCovered r (a ++ x ∷ b)
    by true e h g = ((λ k. with_more a b x r (h.0 k)), (λ k. h.1 (without a b x r ((covering_is_meant x a).0 e) k)))
    by false e h g = subst (λ rows. IsCovered r (joined (a ++ x ∷ []) b) ↔ IsCovered r rows) (append_assoc a (x ∷ []) b) g

covered_append : (r : Linear) (a b : List Linear) → is_covered r (a ++ b) ≡ (is_covered r a || list_any (λ x. is_at_most x r) b)
covered_append r a b = by (is_always r) (list_any-append (λ x. is_at_most x r) a b)
  where
    by : (t : Bool) → list_any (λ x. is_at_most x r) (a ++ b) ≡ (list_any (λ x. is_at_most x r) a || list_any (λ x. is_at_most x r) b) →
        (t || list_any (λ x. is_at_most x r) (a ++ b)) ≡ ((t || list_any (λ x. is_at_most x r) a) || list_any (λ x. is_at_most x r) b)
    by true h = refl
    by false h = h

joined_last : (a b : List Linear) (r : Linear) → joined a (b ++ r ∷ []) ≡ with_row (joined a b) r
joined_last a [] r = refl
joined_last a (x ∷ b) r = joined_last (with_row a x) b r

pub added_most : (n : ℕ) (t : Bool) → n ≡ cond t 0 1 → n ≤ 1
added_most n true e = omega arith
added_most n false e = omega arith

-- one more row of the second list: it is counted where neither the first list covers it nor a row before it
module _ (a b : List Linear) (i count : ℕ) (r : Linear) (at : slice_get b i ≡ Some r) (so_far : count ≡ length (joined a (take i b))) where
  abbrev t : Bool
  t = is_covered r a || list_any (λ x. is_at_most x r) (take i b)

  covered_so_far : t ≡ is_covered r (joined a (take i b))
  covered_so_far =
      sym (covered_append r a (take i b))
      ∙ same_truth (is_covered r (a ++ take i b)) (is_covered r (joined a (take i b)))
      (λ h. (covering_is_meant r (joined a (take i b))).1 ((covered_by_join r a (take i b)).1 ((covering_is_meant r (a ++ take i b)).0 h)))
      (λ h. (covering_is_meant r (a ++ take i b)).1 ((covered_by_join r a (take i b)).0 ((covering_is_meant r (joined a (take i b))).0 h)))

  next : joined a (take (i + 1) b) ≡ cond t (joined a (take i b)) (joined a (take i b) ++ r ∷ [])
  next = ap (joined a) ((take_more b i r (slice_get_within b i r at) ∙ ap (λ x. take i b ++ x ∷ []) (get_or_from_slice_get b i r r at))) ∙ joined_last a (take i b) r ∙ ap (λ c. cond c (joined a (take i b)) (joined a (take i b) ++ r ∷ [])) (sym covered_so_far)

  pub counted : count + cond t 0 1 ≡ length (joined a (take (i + 1) b))
  counted = by t ∙ ap length (sym next)
    where
      by : (c : Bool) → count + cond c 0 1 ≡ length (cond c (joined a (take i b)) (joined a (take i b) ++ r ∷ []))
      by true = omega (arith, so_far)
      by false = omega (arith, so_far, length-append (joined a (take i b)) (r ∷ []))

pub count_most : (a b : List Linear) → length (joined a b) ≤ length a + length b
count_most a [] = omega arith
count_most a (r ∷ b) = by (is_covered r a) (count_most a b) (count_most (a ++ r ∷ []) b)
  where
    by : (t : Bool) → length (joined a b) ≤ length a + length b → length (joined (a ++ r ∷ []) b) ≤ length (a ++ r ∷ []) + length b →
        length (joined (cond t a (a ++ r ∷ [])) b) ≤ length a + length (r ∷ b)
    by true h g = omega (arith, h)
    by false h g = omega (arith, g, length-append a (r ∷ []))
