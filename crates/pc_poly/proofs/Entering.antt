-- States whose variables become 0, one after the other.
use Rattle.std.proofs.Common.{◌≡◌, ℕ, zero, suc, ◌+◌, ◌≤◌, List, [], ◌∷◌, length, set, ℤ, pos, ◌+ℤ◌, ◌*ℤ◌, ◌≤ℤ◌, refl, sym, ap, subst, arith}
use Rattle.std.specs.List.{AllByRecursion as Each}
use Rattle.pc_rows.specs.Linear.{Linear, IsRow, State, dot, MeetsAll, zero_from}
use Rattle.pc_rows.specs.declared.row.TheConstants.{VARIABLES}

-- zeros at the places from p on that are below v
abbrev pub zero_between : ℕ → ℕ → List ℤ → List ℤ
zero_between p v [] = []
zero_between zero zero (x ∷ s) = x ∷ s
zero_between zero (suc v) (x ∷ s) = pos 0 ∷ zero_between zero v s
zero_between (suc p) zero (x ∷ s) = x ∷ s
zero_between (suc p) (suc v) (x ∷ s) = x ∷ zero_between p v s

pub between_none : (p : ℕ) (s : List ℤ) → zero_between p p s ≡ s
between_none p [] = refl
between_none zero (x ∷ s) = refl
between_none (suc p) (x ∷ s) = ap (λ z. x ∷ z) (between_none p s)

between_more : (p v : ℕ) (s : List ℤ) → p ≤ v → set (zero_between p v s) v (pos 0) ≡ zero_between p (suc v) s
between_more p v [] le = refl
between_more zero zero (x ∷ s) le = ap (λ z. pos 0 ∷ z) (sym (between_none zero s))
between_more (suc p) zero (x ∷ s) le = absurd (omega arith)
between_more zero (suc v) (x ∷ s) le = ap (λ z. pos 0 ∷ z) (between_more zero v s (omega arith))
between_more (suc p) (suc v) (x ∷ s) le = ap (λ z. x ∷ z) (between_more p v s (omega arith))

pub between_next : (p v : ℕ) (s : List ℤ) → p ≤ v → set (zero_between p v s) v (pos 0) ≡ zero_between p (v + 1) s
between_next p v s le = let e : suc v ≡ v + 1 = omega arith in subst (λ n. set (zero_between p v s) v (pos 0) ≡ zero_between p n s) e (between_more p v s le)

-- what a list of coefficients does not reach does not matter
dot-between : (p v : ℕ) (cs s : List ℤ) → length cs ≤ v → dot cs (zero_between p v s) ≡ dot cs (zero_from p s)
dot-between p v [] s le = refl
dot-between p v (c ∷ cs) [] le = refl
dot-between p zero (c ∷ cs) (x ∷ s) le = absurd (omega arith)
dot-between zero (suc v) (c ∷ cs) (x ∷ s) le = ap (λ d. c *ℤ pos 0 +ℤ d) (dot-between zero v cs s (omega arith))
dot-between (suc p) (suc v) (c ∷ cs) (x ∷ s) le = ap (λ d. c *ℤ x +ℤ d) (dot-between p v cs s (omega arith))

pub between_met : (p v : ℕ) (rows : List Linear) (s : State) → VARIABLES ≤ v → Each IsRow rows → MeetsAll (zero_between p v s) rows → MeetsAll (zero_from p s) rows
between_met p v [] s le rs h = tt
between_met p v (r ∷ rows) s le rs h = (
  (let wide = rs.0.wide in subst (λ d. pos 0 ≤ℤ (r.constant +ℤ d)) (dot-between p v r.coefficients s (omega arith)) h.0),
  between_met p v rows s le rs.1 h.1,
)

-- one variable more becomes 0
pub between_step : (p v : ℕ) (rows out all : List Linear) → p ≤ v → ((s : State) → MeetsAll s rows → MeetsAll (set s v (pos 0)) out) →
    ((s : State) → MeetsAll s all → MeetsAll (zero_between p v s) rows) → (s : State) → MeetsAll s all → MeetsAll (zero_between p (v + 1) s) out
between_step p v rows out all le one so_far s m = subst (λ (t : State). MeetsAll t out) (between_next p v s le) (one (zero_between p v s) (so_far s m))

-- at first none has become 0
pub between_first : (p : ℕ) (all rows : List Linear) → rows ≡ all → (s : State) → MeetsAll s all → MeetsAll (zero_between p p s) rows
between_first p all rows is s m = subst (λ (z : List Linear). MeetsAll (zero_between p p s) z) (sym is) (subst (λ (t : State). MeetsAll t all) (sym (between_none p s)) m)

-- and at last all that a row may have
pub between_last : (p v : ℕ) (rows out all : List Linear) → VARIABLES ≤ v → Each IsRow rows → out ≡ rows → ((s : State) → MeetsAll s all → MeetsAll (zero_between p v s) rows) →
    (s : State) → MeetsAll s all → MeetsAll (zero_from p s) out
between_last p v rows out all le rs is so_far s m = subst (MeetsAll (zero_from p s)) (sym is) (between_met p v rows s le rs (so_far s m))
