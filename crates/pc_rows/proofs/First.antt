-- What is left of a row where the variables from some number on are 0.
use Rattle.std.proofs.Common.{◌≡◌, ℕ, zero, suc, ◌<◌, ◌≤◌, ℤ, pos, ◌+ℤ◌, ◌*ℤ◌, refl, sym, ap, ◌∙◌, arith, List, [], ◌∷◌, ◌++◌, length, get_or, replicate}
use Rattle.std.proofs.Math.IntN.{*ℤ-zero, zero-*ℤ, +ℤ_idl}
use Rattle.pc_rows.specs.Linear.{dot, value, zero_from}
use Rattle.pc_rows.specs.Laws.{ValueOfFirst, ZeroFromEntry, ValueAtEntry}

-- a coefficient of 0, or a variable that is 0
pub dot-zero_from : (n : ℕ) (cs s : List ℤ) → dot (zero_from n cs) s ≡ dot cs (zero_from n s)
dot-zero_from n [] s = refl
dot-zero_from zero (c ∷ cs) [] = refl
dot-zero_from (suc n) (c ∷ cs) [] = refl
dot-zero_from zero (c ∷ cs) (x ∷ s) = rw (dot-zero_from zero cs s, zero-*ℤ x, *ℤ-zero c)
dot-zero_from (suc n) (c ∷ cs) (x ∷ s) = ap (λ d. c *ℤ x +ℤ d) (dot-zero_from n cs s)

pub value_of_first : ValueOfFirst
value_of_first n r s = ap (λ d. r.constant +ℤ d) (dot-zero_from n r.coefficients s)

zeros_stay : (m : ℕ) → zero_from zero (replicate m (pos 0)) ≡ replicate m (pos 0)
zeros_stay zero = refl
zeros_stay (suc m) = ap (λ zs. pos 0 ∷ zs) (zeros_stay m)

behind : (m : ℕ) (s : List ℤ) → zero_from (length s) (s ++ replicate m (pos 0)) ≡ s ++ replicate m (pos 0)
behind m [] = zeros_stay m
behind m (x ∷ s) = ap (λ zs. x ∷ zs) (behind m s)

pub zero_from_entry : ZeroFromEntry
zero_from_entry n m s e = rw (← e) (behind m s)

-- behind the last place nothing is set to 0
pub zero_from_all : (n : ℕ) (zs : List ℤ) → length zs ≤ n → zero_from n zs ≡ zs
zero_from_all n [] h = refl
zero_from_all zero (z ∷ zs) h = absurd (omega arith)
zero_from_all (suc n) (z ∷ zs) h = ap (λ xs. z ∷ xs) (zero_from_all n zs (omega arith))

-- zeros behind a state add nothing
dot-zeros : (m : ℕ) (cs s : List ℤ) → dot cs (s ++ replicate m (pos 0)) ≡ dot cs s
dot-zeros m [] s = refl
dot-zeros zero (c ∷ cs) [] = refl
dot-zeros (suc m) (c ∷ cs) [] = rw (*ℤ-zero c, +ℤ_idl) (none m cs)
  where
    none : (m : ℕ) (cs : List ℤ) → dot cs (replicate m (pos 0)) ≡ pos 0
    none m [] = refl
    none zero (c ∷ cs) = refl
    none (suc m) (c ∷ cs) = rw (*ℤ-zero c, +ℤ_idl) (none m cs)
dot-zeros m (c ∷ cs) (x ∷ s) = ap (λ d. c *ℤ x +ℤ d) (dot-zeros m cs s)

pub value_at_entry : ValueAtEntry
value_at_entry n m r s e =
    value_of_first n r s
    ∙ ap (λ t. value r t) (zero_from_all n s (omega arith))
    ∙ ap (λ d. r.constant +ℤ d) (sym (dot-zeros m r.coefficients s))

-- and before it nothing changes
pub zero_from_low : (n : ℕ) (zs : List ℤ) (k : ℕ) → k < n → get_or (zero_from n zs) k (pos 0) ≡ get_or zs k (pos 0)
zero_from_low n [] k lt = refl
zero_from_low zero (z ∷ zs) k lt = absurd (omega arith)
zero_from_low (suc n) (z ∷ zs) zero lt = refl
zero_from_low (suc n) (z ∷ zs) (suc k) lt = zero_from_low n zs k (omega arith)

pub zero_from_long : (n : ℕ) (zs : List ℤ) → length (zero_from n zs) ≡ length zs
zero_from_long n [] = refl
zero_from_long zero (z ∷ zs) = ap suc (zero_from_long zero zs)
zero_from_long (suc n) (z ∷ zs) = ap suc (zero_from_long n zs)
