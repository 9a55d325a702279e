-- What holds of rows that are kept and of pairs that are combined holds of all that is made.
use Rattle.std.proofs.Common.{◌≡◌, ℕ, refl, neg_ℤ, List, [], ◌∷◌, ◌++◌, Bool, true, false, cond}
use Rattle.std.specs.List.{AllByRecursion}
use Rattle.pc_rows.specs.Linear.{is_zero}
use Rattle.pc_elim.specs.Elimination.{Made, is_positive, factor, combine, flat, with_each, kept_of, combined_of, eliminated}

module _ (k : ℕ) (P Q : Made → Type 0)
    (kept : (r : Made) → P r → is_zero (factor r k) ≡ true → Q r)
    (pair : (p n : Made) → P p → P n → is_positive (factor p k) ≡ true → is_positive (neg_ℤ (factor n k)) ≡ true → Q (combine k p n)) where
  with_if : (p n : Made) (ns : List Made) (t : Bool) → P p → P n → is_positive (factor p k) ≡ true → is_positive (neg_ℤ (factor n k)) ≡ t → AllByRecursion Q (with_each k p ns) → AllByRecursion Q (cond t (combine k p n ∷ []) [] ++ with_each k p ns)
  with_if p n ns true x y u v h = (pair p n x y u v, h)
  with_if p n ns false x y u v h = h

  with_all : (p : Made) (ns : List Made) → P p → is_positive (factor p k) ≡ true → AllByRecursion P ns → AllByRecursion Q (with_each k p ns)
  with_all p [] x u h = tt
  with_all p (n ∷ ns) x u h = with_if p n ns (is_positive (neg_ℤ (factor n k))) x h.0 u refl (with_all p ns x u h.1)

  both : (as' bs : List Made) → AllByRecursion Q as' → AllByRecursion Q bs → AllByRecursion Q (as' ++ bs)
  both [] bs h g = g
  both (a ∷ as') bs h g = (h.0, both as' bs h.1 g)

  kept_if : (r : Made) (t : Bool) → P r → is_zero (factor r k) ≡ t → AllByRecursion Q (cond t (r ∷ []) [])
  kept_if r true x e = (kept r x e, tt)
  kept_if r false x e = tt

  kept_all : (rs : List Made) → AllByRecursion P rs → AllByRecursion Q (flat (kept_of k) rs)
  kept_all [] h = tt
  kept_all (r ∷ rs) h = both (kept_of k r) (flat (kept_of k) rs) (kept_if r (is_zero (factor r k)) h.0 refl) (kept_all rs h.1)

  combined_if : (all : List Made) (r : Made) (t : Bool) → P r → AllByRecursion P all → is_positive (factor r k) ≡ t → AllByRecursion Q (cond t (with_each k r all) [])
  combined_if all r true x h e = with_all r all x e h
  combined_if all r false x h e = tt

  combined_all : (all rs : List Made) → AllByRecursion P all → AllByRecursion P rs → AllByRecursion Q (flat (combined_of k all) rs)
  combined_all all [] h g = tt
  combined_all all (r ∷ rs) h g = both (combined_of k all r) (flat (combined_of k all) rs) (combined_if all r (is_positive (factor r k)) g.0 h refl) (combined_all all rs h g.1)

  pub made_all : (rs : List Made) → AllByRecursion P rs → AllByRecursion Q (eliminated k rs)
  made_all rs h = both (flat (kept_of k) rs) (flat (combined_of k rs) rs) (kept_all rs h) (combined_all rs rs h h)
