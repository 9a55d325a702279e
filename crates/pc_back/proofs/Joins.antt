-- Joins one after the other are one join.
use Rattle.std.proofs.Common.{◌≡◌, ◌∙◌, ℤ, pos, List, [], ◌∷◌, ◌++◌, sym, refl, ap, subst, cond, Bool, true, false, inl, inr, arith}
use Rattle.std.specs.List.{AllByRecursion as Each}
use Rattle.std.proofs.lemmas.Int.{ints}
use Rattle.pc_rows.specs.Linear.{Linear}
use Rattle.pc_rows.specs.Joins.{IsAtMost, SomeIsAtMost, is_covered, IsCovered as Covers, with_row, joined}
use Rattle.pc_rows.proofs.Joining.{covered_is, is_covered_test}
use Rattle.pc_lower.proofs.Asking.{joined-append}
use Rattle.pc_lower.proofs.Covering.{right_covers, joined_covers}

-- with a row more, rows cover what this row is at most
with_at_most : (rows : List Linear) (q r : Linear) → IsAtMost q r → Covers r (with_row rows q)
with_at_most rows q r h = by (is_covered q rows) refl
  where
    some : (xs : List Linear) → SomeIsAtMost xs q → SomeIsAtMost xs r
    some [] k = absurd k
    some (x ∷ xs) (inl k) = inl (k.0 ∙ h.0, let a = k.1 in let b = h.1 in omega (arith, ints))
    some (x ∷ xs) (inr k) = inr (some xs k)

    through : Covers q rows → Covers r rows
    through (inl k) = inl (subst (λ (cs : List ℤ). Each (λ c. c ≡ pos 0) cs) h.0 k.0, let a = k.1 in let b = h.1 in omega (arith, ints))
    through (inr k) = inr (some rows k)

    by : (t : Bool) → is_covered q rows ≡ t → Covers r (cond t rows (rows ++ q ∷ []))
    by true e = through (covered_is q rows e)
    by false e = right_covers rows (q ∷ []) r (inr (inl h))

joined_covers_second : (a b : List Linear) (r : Linear) → Covers r b → Covers r (joined a b)
joined_covers_second a b r (inl h) = inl h
joined_covers_second a [] r (inr h) = absurd h
joined_covers_second a (q ∷ b) r (inr (inl h)) = joined_covers (with_row a q) b r (with_at_most a q r h)
joined_covers_second a (q ∷ b) r (inr (inr h)) = joined_covers_second (with_row a q) b r (inr h)

-- a row is added to a join where it is added to the second list
with_joined : (a b : List Linear) (r : Linear) → with_row (joined a b) r ≡ joined a (with_row b r)
with_joined a b r = by (is_covered r b) refl
  where
    by : (t : Bool) → is_covered r b ≡ t → with_row (joined a b) r ≡ joined a (cond t b (b ++ r ∷ []))
    by true e = ap (λ (t : Bool). cond t (joined a b) (joined a b ++ r ∷ [])) (is_covered_test r (joined a b) (joined_covers_second a b r (covered_is r b e)))
    by false e = sym (joined-append a b (r ∷ []))

pub joined_joined : (a b c : List Linear) → joined (joined a b) c ≡ joined a (joined b c)
joined_joined a b [] = refl
joined_joined a b (r ∷ c) = ap (λ (z : List Linear). joined z c) (with_joined a b r) ∙ joined_joined a (with_row b r) c
