-- The terms of a row: its variables with a coefficient other than 0, in order, with these coefficients.
use Rattle.std.specs.Prelude.{◌≡◌, ◌==◌, ◌↔◌, ℕ, ◌+◌, ℤ, pos, ◌+ℤ◌, ◌*ℤ◌, List, [], ◌∷◌, length, slice_index_or, if◌then◌else◌}
use Rattle.pc_rows.specs.Linear.{Linear, InRange, coefficient, dot, is_zero}
use Rattle.pc_rows.specs.Points.{SumsFit}

-- of coefficients from variable v on
abbrev pub terms_from : ℕ → List ℤ → List (ℕ × ℤ)
terms_from v [] = []
terms_from v (c ∷ cs) = if is_zero c then terms_from (v + 1) cs else ((v, c) ∷ terms_from (v + 1) cs)

abbrev pub terms_of : Linear → List (ℕ × ℤ)
terms_of r = terms_from 0 r.coefficients

-- the coefficient at variable v, which is 0 where no term has this variable
abbrev pub among : List (ℕ × ℤ) → ℕ → ℤ
among [] v = pos 0
among (t ∷ ts) v = if t.0 == v then t.1 else among ts v

-- the terms of a row determine its coefficients
abbrev pub TermsAreCoefficients : Type 0
TermsAreCoefficients = (r : Linear) (v : ℕ) → among (terms_of r) v ≡ coefficient r v

-- rows of as many variables with the same constant and the same terms are the same
abbrev pub SameTermsSameRow : Type 0
SameTermsSameRow = (a b : Linear) → length a.coefficients ≡ length b.coefficients → a.constant ≡ b.constant → terms_of a ≡ terms_of b → a ≡ b

-- ---- walks over the terms alone

abbrev pub term_product : ℕ × ℤ → List ℤ → ℤ
term_product t xs = t.1 *ℤ slice_index_or xs t.0 (pos 0)

-- the products of the terms, added from the left
abbrev pub sum_over : ℤ → List (ℕ × ℤ) → List ℤ → ℤ
sum_over sum [] xs = sum
sum_over sum (t ∷ ts) xs = sum_over (sum +ℤ term_product t xs) ts xs

abbrev pub SumsOverFit : ℤ → List (ℕ × ℤ) → List ℤ → Type 0
SumsOverFit sum [] xs = Unit {0}
SumsOverFit sum (t ∷ ts) xs = InRange (term_product t xs) × InRange (sum +ℤ term_product t xs) × SumsOverFit (sum +ℤ term_product t xs) ts xs

-- a walk over the terms makes the sum of the walk over all coefficients, and meets a number out of range exactly where that does
abbrev pub WalksAgree : Type 0
WalksAgree = (sum : ℤ) (cs xs : List ℤ) → InRange sum → length cs ≡ length xs →
    (sum +ℤ dot cs xs ≡ sum_over sum (terms_from 0 cs) xs) × (SumsFit sum cs xs ↔ SumsOverFit sum (terms_from 0 cs) xs)
