-- The terms with another coefficient at a variable.
use Rattle.std.proofs.Common.{◌≡◌, ◌∙◌, ℕ, zero, suc, ◌+◌, ◌<◌, ◌≤◌, ℤ, pos, cond, List, [], ◌∷◌, ◌++◌, length, get_or, set, take, drop, refl, sym, ap, subst, arith, inl, inr, ◌==◌, lt-ltb, le-ltb}
use Rattle.std.proofs.lemmas.List.{get_or_default}
use Rattle.std.proofs.lemmas.Bool.{cases_lt}
use Rattle.std.proofs.Common.{get_or-set_same, get_or-set_other, length-set, length-append, append_assoc}
use Rattle.smallvec.specs.SmallVec.{SmallVec, HasRoomFor}
use Rattle.pc_rows.specs.declared.row.TheConstants.{VARIABLES}
use Rattle.pc_rows.specs.declared.terms.Term.{Term}
use Rattle.pc_rows.specs.Linear.{InRange, zero_from}
use Rattle.pc_rows.specs.Terms.{Rises, after, before, dense, lookup, past, term_of}
use Rattle.pc_rows.specs.Merges.{Below}
use Rattle.pc_rows.proofs.First.{zero_from_long, zero_from_low}
use Rattle.pc_rows.proofs.Only.{zero_from_at}
use Rattle.pc_rows.proofs.TermLists.{below_all, below_term, dense_is, few, get_or-dense, if_apart, length-dense, lookup_append, lookup_before, lookup_kept, lookup_past, lookup_term, past_is, rises_append, rises_term}

-- the terms up to the first with a variable of at least v
pub split_at : (ts : List Term) (i v : ℕ) → i ≤ length ts → ((k : ℕ) (d : Term) → k < i → (get_or ts k d).variable < v)
    → ((d : Term) → i < length ts → v ≤ (get_or ts i d).variable) → (take i ts ≡ before ts v) × (drop i ts ≡ after ts v)
split_at [] zero v le h g = (refl, refl)
split_at [] (suc i) v le h g = absurd (omega arith)
split_at (t ∷ ts) zero v le h g = rw (le-ltb t.variable v (g t (omega arith))) (refl, refl)
split_at (t ∷ ts) (suc i) v le h g =
    let rest = split_at ts i v (omega arith) (λ k d lt. h (suc k) d (omega arith)) (λ d lt. g d (omega arith)) in
    rw (lt-ltb t.variable v (h 0 t (omega arith))) (ap (λ us. t ∷ us) rest.0, rest.1)

pub stops_here : (ts : List Term) (i v : ℕ) (t : Term) → t ≡ get_or ts i t → v ≤ t.variable → (d : Term) → i < length ts → v ≤ (get_or ts i d).variable
stops_here ts i v t is le d lt = subst (λ (x : Term). v ≤ x.variable) (is ∙ get_or_default ts i t d lt) le

-- ---- what is below v and what is not

module _ (v : ℕ) where
  below_before : (ts : List Term) → Below v (before ts v)
  below_before [] = tt
  below_before (t ∷ ts) = elim (cases_lt t.variable v) [
    | inl lt ↦ rw (lt-ltb t.variable v lt) (lt, below_before ts)
    | inr le ↦ rw (le-ltb t.variable v le) tt
  ]

  rises_before : (n : ℕ) (ts : List Term) → Rises n ts → Rises n (before ts v)
  rises_before n [] h = tt
  rises_before n (t ∷ ts) h = elim (cases_lt t.variable v) [
    | inl lt ↦ rw (lt-ltb t.variable v lt) (h.0, h.1, h.2, h.3, rises_before (t.variable + 1) ts h.4)
    | inr le ↦ rw (le-ltb t.variable v le) tt
  ]

  rises_after : (n : ℕ) (ts : List Term) → Rises n ts → Rises v (after ts v)
  rises_after n [] h = tt
  rises_after n (t ∷ ts) h = elim (cases_lt t.variable v) [
    | inl lt ↦ rw (lt-ltb t.variable v lt) (rises_after (t.variable + 1) ts h.4)
    | inr le ↦ rw (le-ltb t.variable v le) (le, h.1, h.2, h.3, h.4)
  ]

  lookup_low : (n k : ℕ) (ts : List Term) → Rises n ts → k < v → lookup (before ts v) k ≡ lookup ts k
  lookup_low n k [] h lt = refl
  lookup_low n k (t ∷ ts) h lt = elim (cases_lt t.variable v) [
    | inl small ↦ rw (lt-ltb t.variable v small) (ap (λ z. cond (t.variable == k) t.coefficient z) (lookup_low (t.variable + 1) k ts h.4 lt))
    | inr le ↦ rw (le-ltb t.variable v le) (sym (lookup_before v k (t ∷ ts) lt (le, h.1, h.2, h.3, h.4)))
  ]

  lookup_high : (n k : ℕ) (ts : List Term) → Rises n ts → v ≤ k → lookup (after ts v) k ≡ lookup ts k
  lookup_high n k [] h le = refl
  lookup_high n k (t ∷ ts) h le = elim (cases_lt t.variable v) [
    | inl small ↦ rw (lt-ltb t.variable v small) (lookup_high (t.variable + 1) k ts h.4 le ∙ sym (if_apart t.variable k _ _ (omega arith)))
    | inr big ↦ rw (le-ltb t.variable v big) refl
  ]

module _ (ts : List Term) (v : ℕ) (c : ℤ) (rises : Rises 0 ts) (lt : v < VARIABLES) (fits : InRange c) where
  abbrev high : List Term
  high = past (after ts v) v

  high_is : Rises (v + 1) high × ((k : ℕ) → v + 1 ≤ k → lookup high k ≡ lookup (after ts v) k)
  high_is = past_is v (after ts v) (rises_after v 0 ts rises)

  rises_high : Rises v (term_of v c ++ high)
  rises_high = rises_append v (v + 1) (term_of v c) high (omega arith) (rises_term v c lt fits) (below_term v c) high_is.0

  pub rises_put : Rises 0 (before ts v ++ (term_of v c ++ high))
  rises_put = rises_append 0 v (before ts v) (term_of v c ++ high) (omega arith) (rises_before v 0 ts rises) (below_before v ts) rises_high

  pub few_put : length (before ts v ++ (term_of v c ++ high)) ≤ VARIABLES
  few_put =
      let n = few 0 VARIABLES (before ts v ++ (term_of v c ++ high)) (omega arith) rises_put (below_all (before ts v ++ (term_of v c ++ high)) 0 rises_put) in
      omega (arith, n)

  -- below v
  at_low : (k : ℕ) → k < v → lookup (before ts v ++ (term_of v c ++ high)) k ≡ lookup ts k
  at_low k below =
      lookup_kept k (before ts v) (term_of v c ++ high) (lookup_before v k (term_of v c ++ high) below rises_high) ∙ lookup_low v 0 k ts rises below

  at_v : lookup (before ts v ++ (term_of v c ++ high)) v ≡ c
  at_v =
      lookup_append v v (before ts v) (term_of v c ++ high) (omega arith) (below_before v ts)
      ∙ lookup_kept v (term_of v c) high (lookup_before (v + 1) v high (omega arith) high_is.0) ∙ lookup_term v c

  at_high : (k : ℕ) → v < k → lookup (before ts v ++ (term_of v c ++ high)) k ≡ lookup ts k
  at_high k above =
      lookup_append v k (before ts v) (term_of v c ++ high) (omega arith) (below_before v ts)
      ∙ lookup_append (v + 1) k (term_of v c) high (omega arith) (below_term v c)
      ∙ high_is.1 k (omega arith) ∙ lookup_high v 0 k ts rises (omega arith)

  at_all : (k : ℕ) → k < VARIABLES → lookup (before ts v ++ (term_of v c ++ high)) k ≡ get_or (set (dense ts) v c) k (pos 0)
  at_all k within = elim (cases_lt k v) [
    | inl below ↦ at_low k below ∙ sym (get_or-dense ts k (pos 0) within) ∙ sym (get_or-set_other (dense ts) v k c (pos 0) (omega arith))
    | inr le ↦ elim (cases_lt v k) [
      | inl above ↦ at_high k above ∙ sym (get_or-dense ts k (pos 0) within) ∙ sym (get_or-set_other (dense ts) v k c (pos 0) (omega arith))
      | inr ge ↦
          let e : k ≡ v = omega arith in
          rw e (at_v ∙ sym (get_or-set_same (dense ts) v c (pos 0) (omega (arith, length-dense ts))))
    ]
  ]

  pub dense_put : dense (before ts v ++ (term_of v c ++ high)) ≡ set (dense ts) v c
  dense_put = dense_is (before ts v ++ (term_of v c ++ high)) (set (dense ts) v c) (length-set (dense ts) v c ∙ length-dense ts) at_all

-- the same, in the words of the code
module _ (ts low more rest : List Term) (v : ℕ) (c : ℤ) (rises : Rises 0 ts) (lt : v < VARIABLES) (fits : InRange c)
    (low_is : low ≡ before ts v) (more_is : more ≡ after ts v) (rest_is : rest ≡ past more v)
    (made with_term : SmallVec Term) (made_is : made.items ≡ low) (made_room : made.capacity ≡ VARIABLES)
    (term_is : with_term.items ≡ made.items ++ term_of v c) (term_room : with_term.capacity ≡ made.capacity) where
  whole : with_term.items ++ rest ≡ before ts v ++ (term_of v c ++ past (after ts v) v)
  whole = rw (term_is, made_is, low_is, rest_is, more_is) (append_assoc (before ts v) (term_of v c) (past (after ts v) v))

  pub room_for_rest : HasRoomFor with_term (length rest)
  room_for_rest = omega (arith, ap length whole, length-append with_term.items rest, few_put ts v c rises lt fits, term_room, made_room)

  pub put_rises : (new : SmallVec Term) → new.items ≡ with_term.items ++ rest → Rises 0 new.items
  put_rises new e = subst (Rises 0) (sym (e ∙ whole)) (rises_put ts v c rises lt fits)

  pub put_is : (new : SmallVec Term) → new.items ≡ with_term.items ++ rest → dense new.items ≡ set (dense ts) v c
  put_is new e = ap dense (e ∙ whole) ∙ dense_put ts v c rises lt fits

pub low_fits : (ts low : List Term) (v : ℕ) → Rises 0 ts → v < VARIABLES → low ≡ before ts v → length low + 1 ≤ VARIABLES
low_fits ts low v rises lt e =
    let n = few 0 v (before ts v) (omega arith) (rises_before v 0 ts rises) (below_before v ts) in rw e (omega (arith, n))

-- ---- the terms below v alone

pub first_rises : (ts low : List Term) (v : ℕ) → Rises 0 ts → low ≡ before ts v → Rises 0 low
first_rises ts low v rises e = subst (Rises 0) (sym e) (rises_before v 0 ts rises)

pub first_few : (ts low : List Term) (v : ℕ) → Rises 0 ts → low ≡ before ts v → length low ≤ VARIABLES
first_few ts low v rises e =
    let r = first_rises ts low v rises e in
    let n = few 0 VARIABLES low (omega arith) r (below_all low 0 r) in omega (arith, n)

pub first_is : (ts low : List Term) (v : ℕ) → Rises 0 ts → low ≡ before ts v → dense low ≡ zero_from v (dense ts)
first_is ts low v rises e = ap dense e ∙ dense_is (before ts v) (zero_from v (dense ts)) (zero_from_long v (dense ts) ∙ length-dense ts)
    (λ k lt. elim (cases_lt k v) [
      | inl below ↦ lookup_low v 0 k ts rises below ∙ sym (zero_from_low v (dense ts) k below ∙ get_or-dense ts k (pos 0) lt)
      | inr above ↦ lookup_past v k (before ts v) above (below_before v ts) ∙ sym (zero_from_at v (dense ts) k above)
    ])
