-- The numbers of the edges at a point.
use Rattle.std.proofs.Common.{◌≡◌, ◌≢◌, ◌∙◌, ℕ, zero, suc, ◌+◌, ◌<◌, ◌≤◌, ◌==◌, List, [], ◌∷◌, ◌++◌, length, take, drop, set, get_or, Bool, true, false, cond, refl, sym, ap, subst, arith, slice_get, slice_index_or, Some, inl, inr, take_all, length-set, length-take, eq-eqb}
use Rattle.std.specs.Prelude.{◌⊎◌, filter, replicate}
use Rattle.std.specs.List.{AllByRecursion as Each}
use Rattle.std.proofs.lemmas.Bool.Decides.{eqb_tells}
use Rattle.std.proofs.lemmas.List.{take_more, get_or-set_same, get_or-set_other, length-replicate}
use Rattle.std.proofs.lemmas.Option.{slice_get-get_or, get_or_from_slice_get, slice_get_read, slice_get_within}
use Rattle.pc_flow.specs.declared.incidence.End.{End}
use Rattle.pc_flow.specs.Arc.{Arc}
use Rattle.pc_flow.proofs.Lists.{each_got}
use Rattle.pc_flow.specs.Incidence.{numbers, numbers_leaving, leaving, AreAt, NumbersAreTheirs, AreNumbers, HasNone, point_at}

-- ---- the numbers tell the items that the test picks

first_left : {A : Type 0} (whole : List A) (n : ℕ) (x : A) (xs : List A) → drop n whole ≡ x ∷ xs → (slice_get whole n ≡ Some x) × (drop (n + 1) whole ≡ xs)
first_left [] zero x xs e = absurd (cc)
first_left [] (suc n) x xs e = absurd (cc)
first_left (y ∷ ys) zero x xs e = let same : y ≡ x = cc in let rest : ys ≡ xs = cc in (ap Some same, rest)
first_left (y ∷ ys) (suc n) x xs e =
    let h = first_left ys n x xs e in
    let next : suc (n + 1) ≡ suc n + 1 = omega arith in
    (h.0, subst (λ (m : ℕ). drop m (y ∷ ys) ≡ xs) next h.1)

pub picked_are_at : (test : Arc → Bool) (whole : List Arc) (n : ℕ) (xs : List Arc) → drop n whole ≡ xs → AreAt whole (numbers test n xs) (filter test xs)
picked_are_at test whole n [] e = tt
picked_are_at test whole n (x ∷ xs) e =
    let h = first_left whole n x xs e in
    by (test x) h.0 (picked_are_at test whole (n + 1) xs h.1)
  where
    by : (t : Bool) → slice_get whole n ≡ Some x → AreAt whole (numbers test (n + 1) xs) (filter test xs) →
        AreAt whole (cond t (n ∷ numbers test (n + 1) xs) (numbers test (n + 1) xs)) (cond t (x ∷ filter test xs) (filter test xs))
    by true at more = (at, more)
    by false at more = more

pub numbers_are_theirs : NumbersAreTheirs
numbers_are_theirs edges p = record {
  leaving = picked_are_at (λ e. e.from == p) edges 0 edges refl;
  entering = picked_are_at (λ e. e.to == p) edges 0 edges refl;
}

-- ---- lists of edges and of their numbers

pub numbers_long : (edges : List Arc) (is : List ℕ) (some : List Arc) → AreAt edges is some → length is ≡ length some
numbers_long edges [] [] h = refl
numbers_long edges [] (e ∷ some) h = absurd h
numbers_long edges (i ∷ is) [] h = absurd h
numbers_long edges (i ∷ is) (e ∷ some) h = ap suc (numbers_long edges is some h.1)

-- the edge at a number stands at the number's place
pub edge_at_number : (edges : List Arc) (is : List ℕ) (some : List Arc) (k i : ℕ) → AreAt edges is some → slice_get is k ≡ Some i →
    (e : Arc) × (slice_get edges i ≡ Some e) × (slice_get some k ≡ Some e)
edge_at_number edges [] [] k i h got = absurd (cc)
edge_at_number edges [] (e ∷ some) k i h got = absurd h
edge_at_number edges (j ∷ is) [] k i h got = absurd h
edge_at_number edges (j ∷ is) (e ∷ some) zero i h got = let same : j ≡ i = cc in (e, subst (λ (m : ℕ). slice_get edges m ≡ Some e) same h.0, refl)
edge_at_number edges (j ∷ is) (e ∷ some) (suc k) i h got = edge_at_number edges is some k i h.1 got

module _ (edges : List Arc) (p k : ℕ) (numbers : List ℕ) (listed : numbers ≡ numbers_leaving p edges) where
  told : AreAt edges numbers (leaving p edges)
  told = subst (λ (ns : List ℕ). AreAt edges ns (leaving p edges)) (sym listed) (picked_are_at (λ e. e.from == p) edges 0 edges refl)

  abbrev edge_there : ℕ → Type 0
  edge_there i = (e : Arc) × (slice_get edges i ≡ Some e) × (slice_get (leaving p edges) k ≡ Some e)

  there : k < length numbers → edge_there (slice_index_or numbers k 0)
  there lt = edge_at_number edges numbers (leaving p edges) k (slice_index_or numbers k 0) told (slice_get-get_or numbers k 0 lt)

  -- each number is that of an edge
  pub number_within : k < length numbers → slice_index_or numbers k 0 < length edges
  number_within lt = let h = there lt in slice_get_within edges (slice_index_or numbers k 0) h.0 h.1

  -- the edge at the number in place k is that in place k of those that leave the point
  pub leaving_there : (e : Arc) → k < length numbers → slice_get edges (slice_index_or numbers k 0) ≡ Some e → slice_get (leaving p edges) k ≡ Some e
  leaving_there e lt at = let h = there lt in h.2 ∙ sym h.1 ∙ at

  pub leaving_done : length numbers ≤ k → length (leaving p edges) ≤ k
  leaving_done le = let long = numbers_long edges numbers (leaving p edges) told in omega arith

-- ---- the numbers of one item more

numbers_picked : {A : Type 0} (test : A → Bool) (n : ℕ) (xs : List A) (x : A) → test x ≡ true → numbers test n (xs ++ x ∷ []) ≡ numbers test n xs ++ (n + length xs) ∷ []
numbers_picked test n [] x h = let e : n ≡ n + 0 = omega arith in rw h (ap (λ (m : ℕ). m ∷ []) e)
numbers_picked test n (y ∷ ys) x h =
    let e : n + 1 + length ys ≡ n + suc (length ys) = omega arith in
    by (test y) (numbers_picked test (n + 1) ys x h ∙ ap (λ (m : ℕ). numbers test (n + 1) ys ++ m ∷ []) e)
  where
    by : (t : Bool) → numbers test (n + 1) (ys ++ x ∷ []) ≡ numbers test (n + 1) ys ++ (n + suc (length ys)) ∷ [] →
        cond t (n ∷ numbers test (n + 1) (ys ++ x ∷ [])) (numbers test (n + 1) (ys ++ x ∷ [])) ≡
        cond t (n ∷ numbers test (n + 1) ys) (numbers test (n + 1) ys) ++ (n + suc (length ys)) ∷ []
    by true more = ap (λ (ms : List ℕ). n ∷ ms) more
    by false more = more

numbers_passed : {A : Type 0} (test : A → Bool) (n : ℕ) (xs : List A) (x : A) → test x ≡ false → numbers test n (xs ++ x ∷ []) ≡ numbers test n xs
numbers_passed test n [] x h = rw h refl
numbers_passed test n (y ∷ ys) x h = by (test y) (numbers_passed test (n + 1) ys x h)
  where
    by : (t : Bool) → numbers test (n + 1) (ys ++ x ∷ []) ≡ numbers test (n + 1) ys →
        cond t (n ∷ numbers test (n + 1) (ys ++ x ∷ [])) (numbers test (n + 1) (ys ++ x ∷ [])) ≡ cond t (n ∷ numbers test (n + 1) ys) (numbers test (n + 1) ys)
    by true more = ap (λ (ms : List ℕ). n ∷ ms) more
    by false more = more

-- ---- the loop over the edges

module _ (end : End) (points : ℕ) (edges : List Arc) (i : ℕ) (e : Arc) (all new : List (List ℕ)) (old : List ℕ) where
  abbrev q : ℕ
  q = point_at end e

  -- the edge's number is put behind those of its point
  pub number_added : i < length edges → e ≡ get_or edges i e → q < points → old ≡ get_or all q old → new ≡ set all q (old ++ i ∷ []) →
      AreNumbers end points (take i edges) all → AreNumbers end points (take (i + 1) edges) new
  number_added lt at within was is so_far = record { long = ap (length {A = List ℕ}) is ∙ length-set all q (old ++ i ∷ []) ∙ so_far.long; each = each }
    where
      more : take (i + 1) edges ≡ take i edges ++ e ∷ []
      more = take_more edges i e lt ∙ ap (λ (x : Arc). take i edges ++ x ∷ []) (sym at)

      each : (p : ℕ) → p < points → slice_get new p ≡ Some (numbers (λ e. point_at end e == p) 0 (take (i + 1) edges))
      each p h = by (eqb_tells q p)
        where
          long_new : length new ≡ points
          long_new = ap (length {A = List ℕ}) is ∙ length-set all q (old ++ i ∷ []) ∙ so_far.long

          old_is : old ≡ numbers (λ x. point_at end x == q) 0 (take i edges)
          old_is = was ∙ get_or_from_slice_get all q _ old (so_far.each q within)

          here : slice_get new q ≡ Some (numbers (λ x. point_at end x == q) 0 (take (i + 1) edges))
          here =
              let long = so_far.long in
              let count : 0 + length (take i edges) ≡ i = omega (arith, length-take i edges) in
              let at_q : get_or new q [] ≡ old ++ i ∷ [] = ap (λ (z : List (List ℕ)). get_or z q []) is ∙ get_or-set_same all q (old ++ i ∷ []) [] (omega arith) in
              slice_get-get_or new q [] (omega (arith, long_new))
              ∙ ap Some
              (at_q
              ∙ ap (λ (ns : List ℕ). ns ++ i ∷ []) old_is
              ∙ ap (λ (m : ℕ). numbers (λ x. point_at end x == q) 0 (take i edges) ++ m ∷ []) (sym count)
              ∙ sym (numbers_picked (λ x. point_at end x == q) 0 (take i edges) e (eq-eqb q q refl))
              ∙ ap (λ (xs : List Arc). numbers (λ x. point_at end x == q) 0 xs) (sym more))

          by : (((q == p) ≡ true) × (q ≡ p)) ⊎ (((q == p) ≡ false) × (q ≡ p → ⊥)) → slice_get new p ≡ Some (numbers (λ x. point_at end x == p) 0 (take (i + 1) edges))
          by (inl k) = subst (λ (p : ℕ). slice_get new p ≡ Some (numbers (λ x. point_at end x == p) 0 (take (i + 1) edges))) k.1 here
          by (inr k) =
              let long = so_far.long in
              let other : p ≢ q = λ same. k.1 (sym same) in
              slice_get-get_or new p [] (omega (arith, long_new))
              ∙ ap Some (ap (λ (z : List (List ℕ)). get_or z p []) is ∙ get_or-set_other all q p (old ++ i ∷ []) [] other)
              ∙ sym (slice_get-get_or all p [] (omega arith))
              ∙ so_far.each p h
              ∙ ap Some (sym (numbers_passed (λ x. point_at end x == p) 0 (take i edges) e k.0) ∙ ap (λ (xs : List Arc). numbers (λ x. point_at end x == p) 0 xs) (sym more))

  pub number_put : (p : ℕ) → p ≡ q → i < length edges → e ≡ get_or edges i e → Each (λ e. point_at end e < points) edges → old ≡ get_or all p old →
      new ≡ set all p (old ++ i ∷ []) → AreNumbers end points (take i edges) all → AreNumbers end points (take (i + 1) edges) new
  number_put p is_q lt at within was is so_far =
      number_added lt at (each_got (λ e. point_at end e < points) edges i e within (slice_get_read edges (length edges) i e refl lt at))
      (was ∙ ap (λ (n : ℕ). get_or all n old) is_q) (is ∙ ap (λ (n : ℕ). set all n (old ++ i ∷ [])) is_q) so_far
