-- Products that are added in place, one after the other.
use Rattle.std.proofs.Common.{◌≡◌, ℕ, ◌+◌, ◌<◌, ◌≤◌, ℤ, pos, ◌+ℤ◌, ◌*ℤ◌, List, [], ◌∷◌, ◌++◌, length, take, drop, set, get_or, refl, sym, ap, ◌∙◌, arith, append_assoc}
use Rattle.std.proofs.lemmas.List.{drop-set-lt, take_more_set, drop_all, take_all, append-nil, get_or_default}
use Rattle.std.proofs.Math.IntN.{*ℤ-zero, +ℤ_idr}
use Rattle.pc_rows.specs.Linear.{InRange, add_lists, scale_list}
use Rattle.pc_rows.specs.Merges.{MultipleFits}
use Rattle.pc_rows.proofs.Adding.{drop_at}

-- a product with 0 adds nothing
pub sum_stays : (sum k c : ℤ) → c ≡ pos 0 → sum +ℤ k *ℤ c ≡ sum
sum_stays sum k c h = rw (h, *ℤ-zero k, +ℤ_idr sum) refl

pub product_of_zero : (k c : ℤ) → c ≡ pos 0 → InRange (k *ℤ c)
product_of_zero k c h = rw (h, *ℤ-zero k) (omega arith)

-- a turn of the loop: y is what stands at v from now on
module _ (sums cs new : List ℤ) (v : ℕ) (k x c y : ℤ) (in_sums : v < length sums) (in_cs : v < length cs) (at_sums : x ≡ get_or sums v x) (at_cs : c ≡ get_or cs v (pos 0))
    (put : new ≡ set sums v y) (is : y ≡ x +ℤ k *ℤ c) where
  sums_are : drop v sums ≡ x ∷ drop (v + 1) sums
  sums_are = drop_at sums v x in_sums at_sums

  cs_are : drop v cs ≡ c ∷ drop (v + 1) cs
  cs_are = drop_at cs v c in_cs (at_cs ∙ get_or_default cs v (pos 0) c in_cs)

  same_rest : drop (v + 1) new ≡ drop (v + 1) sums
  same_rest = ap (drop (v + 1)) put ∙ drop-set-lt (v + 1) sums v y (omega arith)

  more_done : take (v + 1) new ≡ take v sums ++ y ∷ []
  more_done = ap (take (v + 1)) put ∙ take_more_set sums v y in_sums

  pub products_go_on : (goal : List ℤ) → take v sums ++ add_lists (drop v sums) (scale_list k (drop v cs)) ≡ goal →
      take (v + 1) new ++ add_lists (drop (v + 1) new) (scale_list k (drop (v + 1) cs)) ≡ goal
  products_go_on goal h =
      rw (more_done, same_rest, append_assoc (take v sums) (y ∷ []) (add_lists (drop (v + 1) sums) (scale_list k (drop (v + 1) cs))), is)
      (rw (sums_are, cs_are) at h)

  pub products_fit_on : MultipleFits (drop v sums) k (drop v cs) → MultipleFits (drop (v + 1) new) k (drop (v + 1) cs)
  products_fit_on h = let g = rw (sums_are, cs_are) at h in rw same_rest (g.0.1, g.1.1)

  pub products_fit_back : InRange (k *ℤ c) × InRange (x +ℤ k *ℤ c) → MultipleFits (drop (v + 1) new) k (drop (v + 1) cs) → MultipleFits (drop v sums) k (drop v cs)
  products_fit_back f h = let g = rw same_rest at h in rw (sums_are, cs_are) ((f.0, g.0), (f.1, g.1))

-- the end of the loop
pub products_done : (sums cs goal : List ℤ) (k : ℤ) (v : ℕ) → length sums ≤ v → take v sums ++ add_lists (drop v sums) (scale_list k (drop v cs)) ≡ goal → length cs ≤ v → sums ≡ goal
products_done sums cs goal k v all h none = sym (ap (λ z. take v sums ++ add_lists z (scale_list k (drop v cs))) (drop_all v sums all) ∙ ap (λ z. take v sums ++ scale_list k z) (drop_all v cs none) ∙ append-nil (take v sums) ∙ take_all v sums all) ∙ h

pub none_left_fit : (sums cs : List ℤ) (k : ℤ) (v : ℕ) → length sums ≤ v → length cs ≤ v → MultipleFits (drop v sums) k (drop v cs)
none_left_fit sums cs k v all none = rw (drop_all v sums all, drop_all v cs none) (tt, tt)
