-- Lists of intervals, variable by variable.
use Rattle.std.proofs.Common.{◌≡◌, ◌≢◌, ◌∙◌, ℕ, zero, suc, ◌+◌, ◌<◌, ◌≤◌, max, min, ℤ, Bool, true, false, List, [], ◌∷◌, ◌++◌, length, length-append, Some, slice_get, refl, sym, ap, subst, arith, inl, inr}
use Rattle.std.specs.Prelude.{◌⊎◌, ◌==◌, ◌&&◌}
use Rattle.std.proofs.lemmas.Bool.Decides.{eqb_tells}
use Rattle.std.proofs.lemmas.Option.{slice_get_past}
use Rattle.pc_domain.proofs.Places.{got_before, got_last}
use Rattle.pc_box.specs.declared.interval.Interval.{Interval}
use Rattle.pc_box.specs.Intervals.{free, Holds, count_ends}
use Rattle.pc_box.specs.Boxes.{found, interval_at, tabulated, all_below, exchanged, put, hull_at, hulls, steady_at, steadies, counted}
use Rattle.pc_box.proofs.Ends.{in_hull, in_steady, few_ends}

pub tabulated_long : (f : ℕ → Interval) (n : ℕ) → length (tabulated f n) ≡ n
tabulated_long f zero = refl
tabulated_long f (suc n) = let r = tabulated_long f n in omega (arith, length-append (tabulated f n) (f n ∷ []))

pub tabulated_at : (f : ℕ → Interval) (n v : ℕ) → v < n → slice_get (tabulated f n) v ≡ Some (f v)
tabulated_at f zero v lt = absurd (omega arith)
tabulated_at f (suc n) v lt = by (tabulated_at f n v) (let either : (v ≡ n) ⊎ (v < n) = grind arith in either)
  where
    by : (v < n → slice_get (tabulated f n) v ≡ Some (f v)) → (v ≡ n) ⊎ (v < n) → slice_get (tabulated f n ++ f n ∷ []) v ≡ Some (f v)
    by go (inr below) = got_before (tabulated f n) (f n) v (let l = tabulated_long f n in omega arith) ∙ go below
    by go (inl is) =
        ap (slice_get (tabulated f n ++ f n ∷ [])) (is ∙ sym (tabulated_long f n)) ∙ got_last (tabulated f n) (f n) ∙ ap (λ (k : ℕ). Some (f k)) (sym is)

pub at_tabulated : (f : ℕ → Interval) (n v : ℕ) → v < n → interval_at (tabulated f n) v ≡ f v
at_tabulated f n v lt = ap found (tabulated_at f n v lt)

pub past_end : (bs : List Interval) (v : ℕ) → length bs ≤ v → interval_at bs v ≡ free
past_end bs v le = ap found (slice_get_past bs v le)

pub past_tabulated : (f : ℕ → Interval) (n v : ℕ) → n ≤ v → interval_at (tabulated f n) v ≡ free
past_tabulated f n v le = past_end (tabulated f n) v (let l = tabulated_long f n in omega arith)

-- below its end or behind it
pub within_or_past : (n v : ℕ) → (v < n) ⊎ (n ≤ v)
within_or_past n v = grind arith

-- ---- an exchanged interval

pub put_same : (bs : List Interval) (x : ℕ) (i : Interval) → interval_at (put bs x i) x ≡ i
put_same bs x i = at_tabulated (exchanged bs x i) (max (x + 1) (length bs)) x (omega arith) ∙ by (eqb_tells x x)
  where
    by : (((x == x) ≡ true) × (x ≡ x)) ⊎ (((x == x) ≡ false) × (x ≢ x)) → exchanged bs x i x ≡ i
    by (inl e) = rw e.0 refl
    by (inr e) = absurd (e.1 refl)

pub put_other : (bs : List Interval) (x : ℕ) (i : Interval) (v : ℕ) → v ≢ x → interval_at (put bs x i) v ≡ interval_at bs v
put_other bs x i v other = by (within_or_past (max (x + 1) (length bs)) v) (eqb_tells v x)
  where
    by : (v < max (x + 1) (length bs)) ⊎ (max (x + 1) (length bs) ≤ v) → (((v == x) ≡ true) × (v ≡ x)) ⊎ (((v == x) ≡ false) × (v ≢ x)) →
        interval_at (put bs x i) v ≡ interval_at bs v
    by w (inl e) = absurd (other e.1)
    by (inl lt) (inr e) = at_tabulated (exchanged bs x i) (max (x + 1) (length bs)) v lt ∙ rw e.0 refl
    by (inr le) (inr e) = past_tabulated (exchanged bs x i) (max (x + 1) (length bs)) v le ∙ sym (past_end bs v (omega arith))

-- ---- hulls

in_table : (f : ℕ → Interval) (n v : ℕ) (x : ℤ) → Holds (f v) x → Holds (interval_at (tabulated f n) v) x
in_table f n v x h = by (within_or_past n v)
  where
    by : (v < n) ⊎ (n ≤ v) → Holds (interval_at (tabulated f n) v) x
    by (inl lt) = subst (λ (i : Interval). Holds i x) (sym (at_tabulated f n v lt)) h
    by (inr le) = subst (λ (i : Interval). Holds i x) (sym (past_tabulated f n v le)) (tt, tt)

pub in_hulls : (as' bs : List Interval) (v : ℕ) (x : ℤ) → Holds (interval_at as' v) x ⊎ Holds (interval_at bs v) x → Holds (interval_at (hulls as' bs) v) x
in_hulls as' bs v x h = in_table (hull_at as' bs) (min (length as') (length bs)) v x (in_hull (interval_at as' v) (interval_at bs v) x h)

pub in_steadies : (as' bs : List Interval) (v : ℕ) (x : ℤ) → Holds (interval_at as' v) x ⊎ Holds (interval_at bs v) x → Holds (interval_at (steadies as' bs) v) x
in_steadies as' bs v x h = in_table (steady_at as' bs) (length as') v x (in_steady (interval_at as' v) (interval_at bs v) x h)

-- ---- tests of all numbers below one

pub all_true : (test : ℕ → Bool) (n v : ℕ) → all_below test n ≡ true → v < n → test v ≡ true
all_true test zero v h lt = absurd (omega arith)
all_true test (suc n) v h lt = by (all_below test n) h (λ e. all_true test n v e) (let either : (v ≡ n) ⊎ (v < n) = grind arith in either)
  where
    by : (b : Bool) → (b && test n) ≡ true → (b ≡ true → v < n → test v ≡ true) → (v ≡ n) ⊎ (v < n) → test v ≡ true
    by false e go w = absurd (cc)
    by true e go (inl is) = ap test is ∙ e
    by true e go (inr below) = go refl below

pub some_false : (test : ℕ → Bool) (n v : ℕ) → v < n → test v ≡ false → all_below test n ≡ false
some_false test zero v lt e = absurd (omega arith)
some_false test (suc n) v lt e = by (all_below test n) (λ below. some_false test n v below e) (let either : (v ≡ n) ⊎ (v < n) = grind arith in either)
  where
    by : (b : Bool) → (v < n → b ≡ false) → (v ≡ n) ⊎ (v < n) → (b && test n) ≡ false
    by false go w = refl
    by true go (inl is) = ap test (sym is) ∙ e
    by true go (inr below) = absurd (let f = go below in cc)

pub false_some : (test : ℕ → Bool) (n : ℕ) → all_below test n ≡ false → (v : ℕ) × (v < n) × (test v ≡ false)
false_some test zero h = absurd (cc)
false_some test (suc n) h = by (all_below test n) (λ e. false_some test n e) h
  where
    by : (b : Bool) → (b ≡ false → (v : ℕ) × (v < n) × (test v ≡ false)) → (b && test n) ≡ false → (v : ℕ) × (v < suc n) × (test v ≡ false)
    by false go e = let h = go refl in (h.0, omega (arith, h.1), h.2)
    by true go e = (n, omega arith, e)

-- ---- counts

pub counted_most : (f : ℕ → Interval) (n : ℕ) → counted f n ≤ n + n
counted_most f zero = omega arith
counted_most f (suc n) = let r = counted_most f n in let e = few_ends (f n) in omega arith

pub counted_same : (f g : ℕ → Interval) (n : ℕ) → ((v : ℕ) → v < n → f v ≡ g v) → counted f n ≡ counted g n
counted_same f g zero h = refl
counted_same f g (suc n) h =
    let r = counted_same f g n (λ v lt. h v (omega arith)) in
    let e = ap count_ends (h n (omega arith)) in
    omega arith

counted_few : (f g : ℕ → Interval) (n : ℕ) → ((v : ℕ) → count_ends (f v) ≤ count_ends (g v)) → counted f n ≤ counted g n
counted_few f g zero h = omega arith
counted_few f g (suc n) h = let r = counted_few f g n h in let e = h n in omega arith

pub counted_fewer : (f g : ℕ → Interval) (n v : ℕ) → ((v : ℕ) → count_ends (f v) ≤ count_ends (g v)) → v < n → count_ends (f v) < count_ends (g v) → counted f n < counted g n
counted_fewer f g zero v h lt less = absurd (omega arith)
counted_fewer f g (suc n) v h lt less = by (λ below. counted_fewer f g n v h below less) (let either : (v ≡ n) ⊎ (v < n) = grind arith in either)
  where
    by : (v < n → counted f n < counted g n) → (v ≡ n) ⊎ (v < n) → counted f (suc n) < counted g (suc n)
    by go (inr below) = let r = go below in let e = h n in omega arith
    by go (inl is) =
        let r = counted_few f g n h in
        let here : count_ends (f n) < count_ends (g n) = subst (λ (k : ℕ). count_ends (f k) < count_ends (g k)) is less in
        omega arith
