-- The edges that a test picks, and their numbers.
use Rattle.std.proofs.Common.{◌≡◌, ◌∙◌, ℕ, ◌<◌, ◌≤◌, List, [], ◌∷◌, Bool, true, false, cond, length, refl, sym, ap, subst, slice_get, slice_index_or, Some, arith, inl, inr}
use Rattle.std.specs.Prelude.{filter}
use Rattle.std.proofs.lemmas.Option.{slice_get-get_or, slice_get_within}
use Rattle.pc_flow.specs.Arc.{Arc}
use Rattle.pc_flow.specs.Incidence.{numbers, AreAt}
use Rattle.pc_flow.specs.Lists.{In}
use Rattle.pc_flow.proofs.Numbers.{picked_are_at, numbers_long, edge_at_number}

-- a picked edge is one, and the test picks it
pub picked_in : (test : Arc → Bool) (x : Arc) (xs : List Arc) → In x (filter test xs) → In x xs × (test x ≡ true)
picked_in test x [] m = absurd m
picked_in test x (y ∷ ys) m = by (test y) refl (λ n. picked_in test x ys n) m
  where
    by : (b : Bool) → test y ≡ b → (In x (filter test ys) → In x ys × (test x ≡ true)) → In x (cond b (y ∷ filter test ys) (filter test ys)) →
        In x (y ∷ ys) × (test x ≡ true)
    by true is go (inl e) = (inl e, ap test e ∙ is)
    by true is go (inr n) = let h = go n in (inr h.0, h.1)
    by false is go n = let h = go n in (inr h.0, h.1)

-- an edge that the test picks is among the picked ones
pub in_picked : (test : Arc → Bool) (x : Arc) (xs : List Arc) → In x xs → test x ≡ true → In x (filter test xs)
in_picked test x [] m is = absurd m
in_picked test x (y ∷ ys) m is = by (test y) refl (λ n. in_picked test x ys n is) m
  where
    by : (b : Bool) → test y ≡ b → (In x ys → In x (filter test ys)) → In x (y ∷ ys) → In x (cond b (y ∷ filter test ys) (filter test ys))
    by true e go (inl same) = inl same
    by true e go (inr n) = inr (go n)
    by false e go (inl same) = absurd (let f = ap test same in cc)
    by false e go (inr n) = go n

module _ (test : Arc → Bool) (edges : List Arc) (k : ℕ) (at : List ℕ) (listed : at ≡ numbers test 0 edges) where
  told : AreAt edges at (filter test edges)
  told = subst (λ (ns : List ℕ). AreAt edges ns (filter test edges)) (sym listed) (picked_are_at test edges 0 edges refl)

  there : k < length at → (e : Arc) × (slice_get edges (slice_index_or at k 0) ≡ Some e) × (slice_get (filter test edges) k ≡ Some e)
  there lt = edge_at_number edges at (filter test edges) k (slice_index_or at k 0) told (slice_get-get_or at k 0 lt)

  -- each number is that of an edge
  pub picked_within : k < length at → slice_index_or at k 0 < length edges
  picked_within lt = let h = there lt in slice_get_within edges (slice_index_or at k 0) h.0 h.1

  -- the edge at the number in place k is the picked one in place k
  pub picked_there : (e : Arc) → k < length at → slice_get edges (slice_index_or at k 0) ≡ Some e → slice_get (filter test edges) k ≡ Some e
  picked_there e lt is = let h = there lt in h.2 ∙ sym h.1 ∙ is

  pub picked_done : length at ≤ k → length (filter test edges) ≤ k
  picked_done le = let long = numbers_long edges at (filter test edges) told in omega arith
