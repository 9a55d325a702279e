-- Lists of terms with rising variables, and the coefficients that they stand for.
use Rattle.std.proofs.Common.{◌≡◌, ◌≢◌, ◌∙◌, ℕ, zero, suc, ◌+◌, ◌<◌, ◌≤◌, ℤ, pos, Bool, true, false, cond, List, [], ◌∷◌, ◌++◌, length, get_or, map, replicate, refl, sym, ap, arith, lit<}
use Rattle.std.specs.List.{range_with_len}
use Rattle.std.specs.Prelude.{◌==◌}
use Rattle.std.proofs.lemmas.Bool.Decides.{nat_tests}
use Rattle.std.proofs.lemmas.List.{same_lists, get_or_default, length-replicate, get_or-replicate}
use Rattle.std.proofs.lemmas.List.FromFn.{length-map-range_with_len, get_or-map-range_with_len}
use Rattle.smallvec.specs.SmallVec.{SmallVec}
use Rattle.pc_rows.specs.declared.row.TheConstants.{VARIABLES}
use Rattle.pc_rows.specs.declared.terms.Term.{Term}
use Rattle.pc_rows.specs.Linear.{InRange, AllInRange, is_zero}
use Rattle.pc_rows.specs.Terms.{AreTerms, Rises, dense, front, least, lookup, past, term_of}
use Rattle.pc_rows.specs.Merges.{Below}
use Rattle.pc_rows.proofs.Lists.{zero_is}
use Rattle.pc_rows.proofs.Tests.{not_zero}

pub if_apart : {X : Type 0} (a b : ℕ) (x y : X) → a ≢ b → cond (a == b) x y ≡ y
if_apart a b x y h = grind (arith, nat_tests)

pub if_same : {X : Type 0} (a b : ℕ) (x y : X) → a ≡ b → cond (a == b) x y ≡ x
if_same a b x y h = grind (arith, nat_tests)

-- ---- one list

pub rises_more : (n m : ℕ) (ts : List Term) → m ≤ n → Rises n ts → Rises m ts
rises_more n m [] le h = tt
rises_more n m (t ∷ ts) le h = (omega (arith, h.0), h.1, h.2, h.3, h.4)

-- there is no term below the first
pub lookup_before : (n k : ℕ) (ts : List Term) → k < n → Rises n ts → lookup ts k ≡ pos 0
lookup_before n k [] lt h = refl
lookup_before n k (t ∷ ts) lt h =
    if_apart t.variable k _ _ (omega (arith, h.0)) ∙ lookup_before (t.variable + 1) k ts (omega (arith, h.0)) h.4

-- nor past the last
pub lookup_past : (n k : ℕ) (ts : List Term) → n ≤ k → Below n ts → lookup ts k ≡ pos 0
lookup_past n k [] le h = refl
lookup_past n k (t ∷ ts) le h = if_apart t.variable k _ _ (omega (arith, h.0)) ∙ lookup_past n k ts le h.1

pub below_all : (ts : List Term) (n : ℕ) → Rises n ts → Below VARIABLES ts
below_all [] n h = tt
below_all (t ∷ ts) n h = (h.1, below_all ts (t.variable + 1) h.4)

pub below_wider : (n m : ℕ) (ts : List Term) → n ≤ m → Below n ts → Below m ts
below_wider n m [] le h = tt
below_wider n m (t ∷ ts) le h = (omega (arith, h.0), below_wider n m ts le h.1)

-- rising terms are few
pub few : (n m : ℕ) (ts : List Term) → n ≤ m → Rises n ts → Below m ts → length ts + n ≤ m
few n m [] le h b = omega arith
few n m (t ∷ ts) le h b =
    let rest = few (t.variable + 1) m ts (omega (arith, b.0)) h.4 b.1 in omega (arith, rest, h.0)

-- ---- a list with more at its end

pub lookup_append : (n k : ℕ) (ts us : List Term) → n ≤ k → Below n ts → lookup (ts ++ us) k ≡ lookup us k
lookup_append n k [] us le h = refl
lookup_append n k (t ∷ ts) us le h =
    if_apart t.variable k _ _ (omega (arith, h.0)) ∙ lookup_append n k ts us le h.1

pub lookup_kept : (k : ℕ) (ts us : List Term) → lookup us k ≡ pos 0 → lookup (ts ++ us) k ≡ lookup ts k
lookup_kept k [] us h = h
lookup_kept k (t ∷ ts) us h = ap (λ z. cond (t.variable == k) t.coefficient z) (lookup_kept k ts us h)

-- the term of a number, by cases
module _ (P : List Term → Type 0) (v : ℕ) (c : ℤ) (none : c ≡ pos 0 → P []) (some : c ≢ pos 0 → P (record { variable = v; coefficient = c } ∷ [])) where
  go : (b : Bool) → is_zero c ≡ b → P (cond b [] (record { variable = v; coefficient = c } ∷ []))
  go true e = none (zero_is c e)
  go false e = some (not_zero c e)

  pub by_term : P (term_of v c)
  by_term = go (is_zero c) refl

pub lookup_term : (v : ℕ) (c : ℤ) → lookup (term_of v c) v ≡ c
lookup_term v c = by_term (λ us. lookup us v ≡ c) v c (λ e. sym e) (λ ne. if_same v v _ _ refl)

pub lookup_other : (v k : ℕ) (c : ℤ) → v ≢ k → lookup (term_of v c) k ≡ pos 0
lookup_other v k c ne = by_term (λ us. lookup us k ≡ pos 0) v c (λ e. refl) (λ x. if_apart v k _ _ ne)

pub below_append : (n : ℕ) (ts us : List Term) → Below n ts → Below n us → Below n (ts ++ us)
below_append n [] us h g = g
below_append n (t ∷ ts) us h g = (h.0, below_append n ts us h.1 g)

pub below_term : (v : ℕ) (c : ℤ) → Below (v + 1) (term_of v c)
below_term v c = by_term (λ us. Below (v + 1) us) v c (λ e. tt) (λ ne. (omega arith, tt))

pub rises_term : (v : ℕ) (c : ℤ) → v < VARIABLES → InRange c → Rises v (term_of v c)
rises_term v c lt h = by_term (λ us. Rises v us) v c (λ e. tt) (λ ne. (omega arith, lt, h, ne, tt))

pub rises_append : (n m : ℕ) (ts us : List Term) → n ≤ m → Rises n ts → Below m ts → Rises m us → Rises n (ts ++ us)
rises_append n m [] us le h b g = rises_more m n us le g
rises_append n m (t ∷ ts) us le h b g =
    (h.0, h.1, h.2, h.3, rises_append (t.variable + 1) m ts us (omega (arith, b.0)) h.4 b.1 g)

-- ---- the fronts of two lists

pub least_is : (n : ℕ) (a b : List Term) → Rises n a → Rises n b → n ≤ VARIABLES
    → (n ≤ least a b) × Rises (least a b) a × Rises (least a b) b
least_is n [] [] h g le = (le, tt, tt)
least_is n [] (y ∷ ys) h g le = (g.0, tt, (omega arith, g.1, g.2, g.3, g.4))
least_is n (x ∷ xs) [] h g le = (h.0, (omega arith, h.1, h.2, h.3, h.4), tt)
least_is n (x ∷ xs) (y ∷ ys) h g le =
    (grind (arith, h.0, g.0), (grind arith, h.1, h.2, h.3, h.4), (grind arith, g.1, g.2, g.3, g.4))

pub front_is : (v : ℕ) (ts : List Term) → Rises v ts → front ts v ≡ lookup ts v
front_is v [] h = refl
front_is v (t ∷ ts) h = ap (λ z. cond (t.variable == v) t.coefficient z) (sym (lookup_before (t.variable + 1) v ts (omega (arith, h.0)) h.4))

module _ (v : ℕ) (t : Term) (ts : List Term) (h : Rises v (t ∷ ts)) where
  past_go : (b : Bool) → (t.variable == v) ≡ b
      → Rises (v + 1) (cond b ts (t ∷ ts)) × ((k : ℕ) → v + 1 ≤ k → lookup (cond b ts (t ∷ ts)) k ≡ lookup (t ∷ ts) k)
  past_go true e =
      let is : t.variable ≡ v = grind (arith, nat_tests) in
      (rises_more (t.variable + 1) (v + 1) ts (omega arith) h.4, λ k le. sym (if_apart t.variable k _ _ (omega arith)))
  past_go false e =
      let ne : t.variable ≢ v = grind (arith, nat_tests) in
      ((omega (arith, h.0), h.1, h.2, h.3, h.4), λ k le. refl)

pub past_is : (v : ℕ) (ts : List Term) → Rises v ts
    → Rises (v + 1) (past ts v) × ((k : ℕ) → v + 1 ≤ k → lookup (past ts v) k ≡ lookup ts k)
past_is v [] h = (tt, λ k le. refl)
past_is v (t ∷ ts) h = past_go v t ts h (t.variable == v) refl

pub least_below : (a b : List Term) (n : ℕ) → Rises n a → Rises n b → (a ≡ [] → b ≡ [] → ⊥) → least a b < VARIABLES
least_below [] [] n h g ne = absurd (ne refl refl)
least_below [] (y ∷ ys) n h g ne = g.1
least_below (x ∷ xs) [] n h g ne = h.1
least_below (x ∷ xs) (y ∷ ys) n h g ne = grind (arith, h.1, g.1)

-- ---- the dense list

pub length-dense : (ts : List Term) → length (dense ts) ≡ VARIABLES
unfolding dense
length-dense ts = length-map-range_with_len (lookup ts) 0 VARIABLES

pub get_or-dense : (ts : List Term) (k : ℕ) (d : ℤ) → k < VARIABLES → get_or (dense ts) k d ≡ lookup ts k
unfolding dense
get_or-dense ts k d lt = get_or-map-range_with_len (lookup ts) 0 VARIABLES k k d lt (omega arith)

pub zero_in_range : InRange (pos 0)
zero_in_range = lit< tt

either_in_range : (b : Bool) (x y : ℤ) → InRange x → InRange y → InRange (cond b x y)
either_in_range true x y h g = h
either_in_range false x y h g = g

pub lookup_in_range : (n k : ℕ) (ts : List Term) → Rises n ts → InRange (lookup ts k)
lookup_in_range n k [] h = zero_in_range
lookup_in_range n k (t ∷ ts) h = either_in_range (t.variable == k) t.coefficient (lookup ts k) h.2 (lookup_in_range (t.variable + 1) k ts h.4)

all_of : (f : ℕ → ℤ) (a n : ℕ) → ((k : ℕ) → InRange (f k)) → AllInRange (map f (range_with_len a n))
all_of f a zero h = tt
all_of f a (suc n) h = (h a, all_of f (a + 1) n h)

pub dense_in_range : (n : ℕ) (ts : List Term) → Rises n ts → AllInRange (dense ts)
unfolding dense
dense_in_range n ts h = all_of (lookup ts) 0 VARIABLES (λ k. lookup_in_range n k ts h)

pub dense_is : (ts : List Term) (goal : List ℤ) → length goal ≡ VARIABLES → ((k : ℕ) → k < VARIABLES → lookup ts k ≡ get_or goal k (pos 0))
    → dense ts ≡ goal
dense_is ts goal long h = same_lists (dense ts) goal (length-dense ts ∙ sym long)
    (λ k d lt. let z : k < VARIABLES = omega (arith, length-dense ts) in
    get_or-dense ts k d z ∙ h k z ∙ get_or_default goal k (pos 0) d (omega arith))

pub in_range_at : (zs : List ℤ) (k : ℕ) → AllInRange zs → InRange (get_or zs k (pos 0))
in_range_at [] k h = zero_in_range
in_range_at (z ∷ zs) zero h = h.0
in_range_at (z ∷ zs) (suc k) h = in_range_at zs k h.1

pub all_at : (zs : List ℤ) → ((k : ℕ) → k < length zs → InRange (get_or zs k (pos 0))) → AllInRange zs
all_at [] h = tt
all_at (z ∷ zs) h = (h 0 (omega arith), all_at zs (λ k lt. h (suc k) (omega arith)))

pub dense_none : dense [] ≡ replicate VARIABLES (pos 0)
dense_none = dense_is [] (replicate VARIABLES (pos 0)) (length-replicate VARIABLES (pos 0)) (λ k lt. sym (get_or-replicate VARIABLES k (pos 0) (pos 0) lt))

pub few_slice : (v : SmallVec Term) (slice : List Term) → AreTerms v → slice ≡ v.items → length slice ≤ VARIABLES
few_slice v slice h e =
    let n = few 0 VARIABLES v.items (omega arith) h.rises (below_all v.items 0 h.rises) in rw e (omega (arith, n))
