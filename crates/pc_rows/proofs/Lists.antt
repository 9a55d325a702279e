-- The sum of products by place, of lists that are added, scaled, negated or written at a place.
use Rattle.std.proofs.Common.{◌≡◌, ℕ, zero, suc, ◌<◌, ℤ, pos, negsuc, ◌+ℤ◌, ◌*ℤ◌, neg_ℤ, refl, sym, ap, arith, List, [], ◌∷◌, length, get_or, set, replicate}
use Rattle.std.specs.List.{list_all}
use Rattle.std.specs.Prelude.{true}
use Rattle.std.proofs.lemmas.Bool.{and_parts}
use Rattle.std.proofs.lemmas.Int.{ints}
use Rattle.std.proofs.Math.IntN.{+ℤ_idl, +ℤ_idr, *ℤ-zero, zero-*ℤ}
use Rattle.pc_rows.specs.Linear.{is_zero, add_lists, scale_list, negate_list, dot}
use Rattle.pc_rows.proofs.Ring.{mul_add, add_mul, mul_assoc, mul_neg}

pub dot-add_lists : (a b s : List ℤ) → dot (add_lists a b) s ≡ dot a s +ℤ dot b s
dot-add_lists [] b s = sym (+ℤ_idl (dot b s))
dot-add_lists (a ∷ as') [] s = sym (+ℤ_idr (dot (a ∷ as') s))
dot-add_lists (a ∷ as') (b ∷ bs) [] = refl
dot-add_lists (a ∷ as') (b ∷ bs) (x ∷ s) = rw (dot-add_lists as' bs s, add_mul) (omega (arith, ints))

pub dot-scale_list : (k : ℤ) (a s : List ℤ) → dot (scale_list k a) s ≡ k *ℤ dot a s
dot-scale_list k [] s = sym (*ℤ-zero k)
dot-scale_list k (a ∷ as') [] = sym (*ℤ-zero k)
dot-scale_list k (a ∷ as') (x ∷ s) = rw (dot-scale_list k as' s, mul_add, mul_assoc)

pub dot-negate_list : (a s : List ℤ) → dot (negate_list a) s ≡ neg_ℤ (dot a s)
dot-negate_list [] s = refl
dot-negate_list (a ∷ as') [] = refl
dot-negate_list (a ∷ as') (x ∷ s) = let e = dot-negate_list as' s in let f = mul_neg x a in omega (arith, ints)

-- a coefficient set to another number
pub dot-set : (a s : List ℤ) (x : ℕ) (n : ℤ) → x < length a → dot (set a x n) s +ℤ get_or a x (pos 0) *ℤ get_or s x (pos 0) ≡ dot a s +ℤ n *ℤ get_or s x (pos 0)
dot-set [] s x n h = absurd (omega arith)
dot-set (a ∷ as') [] zero n h = simp *ℤ-zero
dot-set (a ∷ as') [] (suc x) n h = simp *ℤ-zero
dot-set (a ∷ as') (y ∷ s) zero n h = omega (arith, ints)
dot-set (a ∷ as') (y ∷ s) (suc x) n h = let e = dot-set as' s x n (omega arith) in omega (arith, ints)

-- a variable set to another value
pub dot-moved : (a s : List ℤ) (x : ℕ) (n : ℤ) → x < length s → dot a (set s x n) +ℤ get_or a x (pos 0) *ℤ get_or s x (pos 0) ≡ dot a s +ℤ get_or a x (pos 0) *ℤ n
dot-moved [] s x n h = omega (arith, ints)
dot-moved (a ∷ as') [] x n h = absurd (omega arith)
dot-moved (a ∷ as') (y ∷ s) zero n h = omega (arith, ints)
dot-moved (a ∷ as') (y ∷ s) (suc x) n h = let e = dot-moved as' s x n (omega arith) in omega (arith, ints)

-- a coefficient at a variable that is 0
pub dot-idle : (a s : List ℤ) (x : ℕ) (n : ℤ) → get_or s x (pos 0) ≡ pos 0 → dot (set a x n) s ≡ dot a s
dot-idle [] s x n h = refl
dot-idle (a ∷ as') [] zero n h = refl
dot-idle (a ∷ as') [] (suc x) n h = refl
dot-idle (a ∷ as') (y ∷ s) zero n h = rw (h, *ℤ-zero n, *ℤ-zero a)
dot-idle (a ∷ as') (y ∷ s) (suc x) n h = ap (λ d. a *ℤ y +ℤ d) (dot-idle as' s x n h)

pub zero_is : (c : ℤ) → is_zero c ≡ true → c ≡ pos 0
zero_is (pos n) h = grind arith
zero_is (negsuc n) h = cc

-- no variable
pub dot-zero : (a s : List ℤ) → list_all is_zero a ≡ true → dot a s ≡ pos 0
dot-zero [] s h = refl
dot-zero (a ∷ as') [] h = refl
dot-zero (a ∷ as') (x ∷ s) h =
    let p = and_parts (is_zero a) (list_all is_zero as') h in
    rw (zero_is a p.0, dot-zero as' s p.1) (let z = zero-*ℤ x in omega (arith, ints))

pub dot-replicate : (n : ℕ) (s : List ℤ) → dot (replicate n (pos 0)) s ≡ pos 0
dot-replicate zero s = refl
dot-replicate (suc n) [] = refl
dot-replicate (suc n) (x ∷ s) = rw (dot-replicate n s) (let z = zero-*ℤ x in omega (arith, ints))
