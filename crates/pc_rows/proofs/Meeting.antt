-- States that meet rows and lists of rows.
use Rattle.std.proofs.Common.{pos, List, [], ◌∷◌, ◌++◌, arith, inl, inr}
use Rattle.std.specs.Prelude.{◌⊎◌}
use Rattle.std.proofs.lemmas.Int.{ints, by_lt_z}
use Rattle.pc_rows.specs.Linear.{Linear, State, value, Meets, MeetsAll, negation}
use Rattle.pc_rows.proofs.Values.{value-negation}

pub meets_left : (s : State) (as' bs : List Linear) → MeetsAll s (as' ++ bs) → MeetsAll s as'
meets_left s [] bs h = tt
meets_left s (a ∷ as') bs h = (h.0, meets_left s as' bs h.1)

pub meets_right : (s : State) (as' bs : List Linear) → MeetsAll s (as' ++ bs) → MeetsAll s bs
meets_right s [] bs h = h
meets_right s (a ∷ as') bs h = meets_right s as' bs h.1

pub meets_join : (s : State) (as' bs : List Linear) → MeetsAll s as' → MeetsAll s bs → MeetsAll s (as' ++ bs)
meets_join s [] bs h k = k
meets_join s (a ∷ as') bs h k = (h.0, meets_join s as' bs h.1 k)

-- a state meets a row or its negation, and not both
pub met_or_not : (r : Linear) (s : State) → Meets s r ⊎ Meets s (negation r)
met_or_not r s = by_lt_z (value r s) (pos 0) (λ h. inr (let e = value-negation r s in omega (arith, ints))) (λ h. inl h)

pub not_both : (r : Linear) (s : State) → Meets s r → Meets s (negation r) → ⊥
not_both r s h k = let e = value-negation r s in omega (arith, ints)

-- it is decided whether a state meets rows
pub all_or_not : (rs : List Linear) (s : State) → MeetsAll s rs ⊎ (MeetsAll s rs → ⊥)
all_or_not [] s = inl tt
all_or_not (r ∷ rs) s = by (met_or_not r s) (all_or_not rs s)
  where
    by : Meets s r ⊎ Meets s (negation r) → MeetsAll s rs ⊎ (MeetsAll s rs → ⊥) → MeetsAll s (r ∷ rs) ⊎ (MeetsAll s (r ∷ rs) → ⊥)
    by (inl h) (inl k) = inl (h, k)
    by (inl h) (inr n) = inr (λ m. n m.1)
    by (inr h) k = inr (λ m. not_both r s m.0 h)
