-- The value of a row at a state, as the sum over the row's terms.
use Rattle.std.proofs.Common.{◌≡◌, ◌≢◌, ◌∙◌, ℕ, zero, suc, ◌+◌, ℤ, pos, ◌+ℤ◌, ◌*ℤ◌, Bool, true, false, cond, List, [], ◌∷◌, drop, get_or, refl, ap, arith}
use Rattle.std.specs.List.{AllByRecursion as Each}
use Rattle.std.proofs.lemmas.Int.{ints}
use Rattle.std.proofs.Math.IntN.{zero-*ℤ, *ℤ-zero, +ℤ_idr}
use Rattle.pc_rows.specs.Linear.{Linear, State, value, dot, is_zero}
use Rattle.pc_rows.specs.Readers.{terms_from, terms_of, sum_over}
use Rattle.pc_rows.proofs.Lists.{zero_is}
use Rattle.pc_rows.proofs.Tests.{not_zero}

dot_nothing : (cs : List ℤ) → dot cs [] ≡ pos 0
dot_nothing [] = refl
dot_nothing (c ∷ cs) = refl

dot_past : (c : ℤ) (cs : List ℤ) → pos 0 ≡ c *ℤ pos 0 +ℤ dot cs []
dot_past c cs =
    let none = *ℤ-zero c in
    let rest = dot_nothing cs in
    omega (arith, ints)

-- the sum from place v on begins with the product at v; behind the end of the state all values are 0
dot_at : (v : ℕ) (c : ℤ) (cs xs : List ℤ) → dot (c ∷ cs) (drop v xs) ≡ c *ℤ get_or xs v (pos 0) +ℤ dot cs (drop (suc v) xs)
dot_at zero c cs [] = dot_past c cs
dot_at (suc v) c cs [] = dot_past c cs
dot_at zero c cs (x ∷ xs) = refl
dot_at (suc v) c cs (x ∷ xs) = dot_at v c cs xs

walk : (v : ℕ) (sum : ℤ) (cs xs : List ℤ) → sum +ℤ dot cs (drop v xs) ≡ sum_over sum (terms_from v cs) xs
walk v sum [] xs = +ℤ_idr sum
walk v sum (c ∷ cs) xs = by (is_zero c) refl (λ s. walk (v + 1) s cs xs)
  where
    here : dot (c ∷ cs) (drop v xs) ≡ c *ℤ get_or xs v (pos 0) +ℤ dot cs (drop (v + 1) xs)
    here =
        let e : suc v ≡ v + 1 = omega arith in
        dot_at v c cs xs ∙ ap (λ (n : ℕ). c *ℤ get_or xs v (pos 0) +ℤ dot cs (drop n xs)) e

    by : (b : Bool) → is_zero c ≡ b → ((s : ℤ) → s +ℤ dot cs (drop (v + 1) xs) ≡ sum_over s (terms_from (v + 1) cs) xs) →
        sum +ℤ dot (c ∷ cs) (drop v xs) ≡ sum_over sum (cond b (terms_from (v + 1) cs) ((v, c) ∷ terms_from (v + 1) cs)) xs
    by true e go =
        let none : c *ℤ get_or xs v (pos 0) ≡ pos 0 = ap (λ (z : ℤ). z *ℤ get_or xs v (pos 0)) (zero_is c e) ∙ zero-*ℤ (get_or xs v (pos 0)) in
        let first = here in
        let whole = go sum in
        omega (arith, ints)
    by false e go =
        let first = here in
        let part : sum +ℤ dot (c ∷ cs) (drop v xs) ≡ (sum +ℤ c *ℤ get_or xs v (pos 0)) +ℤ dot cs (drop (v + 1) xs) = omega (arith, ints) in
        part ∙ go (sum +ℤ c *ℤ get_or xs v (pos 0))

pub value_is_walk : (r : Linear) (s : State) → value r s ≡ sum_over r.constant (terms_of r) s
value_is_walk r s = walk 0 r.constant r.coefficients s

-- the coefficients of the terms are not 0
terms_count : (v : ℕ) (cs : List ℤ) → Each (λ t. t.1 ≢ pos 0) (terms_from v cs)
terms_count v [] = tt
terms_count v (c ∷ cs) = by (is_zero c) refl (terms_count (v + 1) cs)
  where
    by : (b : Bool) → is_zero c ≡ b → Each (λ t. t.1 ≢ pos 0) (terms_from (v + 1) cs) → Each (λ t. t.1 ≢ pos 0) (cond b (terms_from (v + 1) cs) ((v, c) ∷ terms_from (v + 1) cs))
    by true e go = go
    by false e go = (not_zero c e, go)

pub terms_are_some : (r : Linear) → Each (λ t. t.1 ≢ pos 0) (terms_of r)
terms_are_some r = terms_count 0 r.coefficients
