-- The rows at the start: each is made of itself alone.
use Rattle.std.proofs.Common.{◌≡◌, ℕ, zero, suc, ◌+◌, ◌≤◌, ◌<◌, ◌^◌, ℤ, pos, ◌+ℤ◌, refl, sym, subst, ◌∙◌, ap, arith, ◌≤ℤ◌, List, [], ◌∷◌, ◌++◌, Bool, length, take, drop, replicate, slice_get, Some}
use Rattle.std.proofs.lemmas.Grind.{common_steps}
use Rattle.std.proofs.lemmas.List.{take_more, take_all, length-take-le}
use Rattle.std.proofs.lemmas.Option.{slice_get_within, get_or_from_slice_get}
use Rattle.std.specs.Prelude.{not, ◌||◌}
use Rattle.std.specs.List.{AllByRecursion}
use Rattle.std.proofs.lemmas.Int.{ints}
use Rattle.std.proofs.Math.IntN.{zero-*ℤ}
use Rattle.pc_rows.specs.declared.row.TheConstants.{VARIABLES}
use Rattle.pc_rows.specs.declared.system.TheConstants.{MODEST_NUMBER}
use Rattle.pc_rows.specs.Linear.{Linear, add_lists, scale_list, sum_of, scaled_by, coefficient, is_zero}
use Rattle.pc_rows.specs.Bounds.{AreWithin, AllWithin}
use Rattle.pc_rows.specs.Shows.{nothing_row}
use Rattle.pc_rows.specs.Evidence.{Point}
use Rattle.pc_rows.specs.Points.{AllMeetAt}
use Rattle.pc_rows.specs.Modest.{occurs, occurring}
use Rattle.pc_rows.proofs.Bounding.{more_within}
use Rattle.pc_rows.proofs.Algebra.{same_row, scaled_one, length-scale_list}
use Rattle.pc_elim.specs.Elimination.{Made, combination, unit, started_from, started}
use Rattle.pc_elim.specs.Places.{has_variable}
use Rattle.pc_elim.proofs.Soundness.{Good, IsFull}
use Rattle.pc_elim.proofs.Counting.{one_if}
use Rattle.pc_elim.proofs.SmallRows.{MadeWithin, row_more}
use Rattle.pc_elim.proofs.Placing.{AllMeet}
use Rattle.pc_elim.proofs.Stages.{remaining, entry}

-- a row with a coefficient for each variable
abbrev pub Long : Linear → Type 0
Long r = length r.coefficients ≡ VARIABLES

-- a row of zeros, which adds nothing
pub record Nothing (w : ℕ) (z : Linear) : Type 0 where
  pub constant : z.constant ≡ pos 0
  pub coefficients : AllByRecursion (λ c. c ≡ pos 0) z.coefficients
  pub short : length z.coefficients ≤ w

add_zeros : (zs a : List ℤ) → AllByRecursion (λ c. c ≡ pos 0) zs → length zs ≤ length a → add_lists zs a ≡ a
add_zeros [] a h le = refl
add_zeros (z ∷ zs) [] h le = absurd (omega arith)
add_zeros (z ∷ zs) (a ∷ as') h le = let e = h.0 in let f = add_zeros zs as' h.1 (omega arith) in let g : z +ℤ a ≡ a = omega (arith, ints) in cc

add_zeros_after : (a zs : List ℤ) → AllByRecursion (λ c. c ≡ pos 0) zs → length zs ≤ length a → add_lists a zs ≡ a
add_zeros_after [] [] h le = refl
add_zeros_after [] (z ∷ zs) h le = absurd (omega arith)
add_zeros_after (a ∷ as') [] h le = refl
add_zeros_after (a ∷ as') (z ∷ zs) h le = let e = h.0 in let f = add_zeros_after as' zs h.1 (omega arith) in let g : a +ℤ z ≡ a = omega (arith, ints) in cc

scale_zero : (a : List ℤ) → AllByRecursion (λ c. c ≡ pos 0) (scale_list (pos 0) a)
scale_zero [] = tt
scale_zero (a ∷ as') = (zero-*ℤ a, scale_zero as')

pub nothing_zero : (r : Linear) → Long r → Nothing VARIABLES (scaled_by (pos 0) r)
nothing_zero r h = record { constant = zero-*ℤ r.constant; coefficients = scale_zero r.coefficients; short = rw length-scale_list (omega (arith, h)) }

pub plus_nothing : (r z : Linear) → Long r → Nothing VARIABLES z → sum_of r z ≡ r
plus_nothing r z h n = same_row (sum_of r z) r (let e = n.constant in omega (arith, ints)) (add_zeros_after r.coefficients z.coefficients n.coefficients (let s = n.short in omega (arith, h)))

nothing_plus : (r z : Linear) → Long r → Nothing VARIABLES z → sum_of z r ≡ r
nothing_plus r z h n = same_row (sum_of z r) r (let e = n.constant in omega (arith, ints)) (add_zeros z.coefficients r.coefficients n.coefficients (let s = n.short in omega (arith, h)))

both_nothing : (y z : Linear) → Nothing VARIABLES y → Nothing VARIABLES z → Nothing VARIABLES (sum_of y z)
both_nothing y z h g = record { constant = let e = h.constant in let f = g.constant in omega (arith, ints); coefficients = zeros y.coefficients z.coefficients h.coefficients g.coefficients; short = short VARIABLES y.coefficients z.coefficients h.short g.short }
  where
    zeros : (a b : List ℤ) → AllByRecursion (λ c. c ≡ pos 0) a → AllByRecursion (λ c. c ≡ pos 0) b → AllByRecursion (λ c. c ≡ pos 0) (add_lists a b)
    zeros [] b h g = g
    zeros (a ∷ as') [] h g = h
    zeros (a ∷ as') (b ∷ bs) h g = (sum_zero a b h.0 g.0, zeros as' bs h.1 g.1)
      where
        sum_zero : (a b : ℤ) → a ≡ pos 0 → b ≡ pos 0 → a +ℤ b ≡ pos 0
        sum_zero a b e f = omega (arith, ints)

    short : (w : ℕ) (a b : List ℤ) → length a ≤ w → length b ≤ w → length (add_lists a b) ≤ w
    short w [] b h g = g
    short w (a ∷ as') [] h g = h
    short zero (a ∷ as') (b ∷ bs) h g = absurd (omega arith)
    short (suc w) (a ∷ as') (b ∷ bs) h g = let s = short w as' bs (omega arith) (omega arith) in omega arith

nothing_is : Nothing VARIABLES nothing_row
nothing_is = record { constant = refl; coefficients = tt; short = omega arith }

combination-zeros : (m : ℕ) (rs : List Linear) → AllByRecursion Long rs → Nothing VARIABLES (combination (replicate m (pos 0)) rs)
combination-zeros zero rs h = nothing_is
combination-zeros (suc m) [] h = nothing_is
combination-zeros (suc m) (r ∷ rs) h = both_nothing (scaled_by (pos 0) r) (combination (replicate m (pos 0)) rs) (nothing_zero r h.0) (combination-zeros m rs h.1)

-- the row at a place is what its unit makes
combination-unit : (m i : ℕ) (rs : List Linear) (r : Linear) (more : List Linear) → AllByRecursion Long rs → i < m → drop i rs ≡ r ∷ more → combination (unit m i) rs ≡ r
combination-unit zero i rs r more h lt e = absurd (omega arith)
combination-unit (suc m) zero [] r more h lt e = cc
combination-unit (suc m) zero (q ∷ rs) r more h lt e =
    let same : q ≡ r = cc in
    ap (λ (x : Linear). sum_of x (combination (replicate m (pos 0)) rs)) (scaled_one q)
    ∙ plus_nothing q (combination (replicate m (pos 0)) rs) h.0 (combination-zeros m rs h.1) ∙ same
combination-unit (suc m) (suc i) [] r more h lt e = cc
combination-unit (suc m) (suc i) (q ∷ rs) r more h lt e =
    let ih = combination-unit m i rs r more h.1 (omega arith) e in
    ap (λ (x : Linear). sum_of (scaled_by (pos 0) q) x) ih
    ∙ nothing_plus r (scaled_by (pos 0) q) (long_at i rs r more h.1 e) (nothing_zero q h.0)
  where
    long_at : (i : ℕ) (rs : List Linear) (r : Linear) (more : List Linear) → AllByRecursion Long rs → drop i rs ≡ r ∷ more → Long r
    long_at zero [] r more h e = cc
    long_at (suc i) [] r more h e = cc
    long_at zero (q ∷ rs) r more h e = let same : q ≡ r = cc in subst Long same h.0
    long_at (suc i) (q ∷ rs) r more h e = long_at i rs r more h.1 e

unit_not_negative : (m i : ℕ) → AllByRecursion (λ m. pos 0 ≤ℤ m) (unit m i)
unit_not_negative zero i = tt
unit_not_negative (suc m) zero = (omega (arith, ints), zeros m)
  where
    zeros : (m : ℕ) → AllByRecursion (λ m. pos 0 ≤ℤ m) (replicate m (pos 0))
    zeros zero = tt
    zeros (suc m) = (omega (arith, ints), zeros m)
unit_not_negative (suc m) (suc i) = (omega (arith, ints), unit_not_negative m i)

unit_within : (m i : ℕ) → AreWithin 1 (unit m i)
unit_within zero i = tt
unit_within (suc m) zero = (omega (arith, ints), zeros m)
  where
    zeros : (m : ℕ) → AreWithin 1 (replicate m (pos 0))
    zeros zero = tt
    zeros (suc m) = (omega (arith, ints), zeros m)
unit_within (suc m) (suc i) = (omega (arith, ints), unit_within m i)

pub drop_next : {A : Type 0} (n : ℕ) (xs : List A) (x : A) (more : List A) → drop n xs ≡ x ∷ more → drop (n + 1) xs ≡ more
drop_next n xs x more e = let s : n + 1 ≡ suc n = omega arith in ap (λ (k : ℕ). drop k xs) s ∙ tail n xs x more e
  where
    tail : {A : Type 0} (n : ℕ) (xs : List A) (x : A) (more : List A) → drop n xs ≡ x ∷ more → drop (suc n) xs ≡ more
    tail zero [] x more e = cc
    tail zero (b ∷ xs) x more e = cc
    tail (suc n) [] x more e = cc
    tail (suc n) (b ∷ xs) x more e = tail n xs x more e

pub started_good : (parts n : ℕ) (base rows : List Linear) → AllByRecursion Long base → AllByRecursion Long rows → n + length rows ≤ parts → drop n base ≡ rows →
    AllByRecursion (Good base VARIABLES zero) (started_from parts n rows)
started_good parts n base [] h g le e = tt
started_good parts n base (r ∷ rows) h g le e = (
  (
    record { made = sym (combination-unit parts n base r rows h (omega arith) e); not_negative = unit_not_negative parts n },
    record { long = g.0; gone = λ j lt. absurd (omega arith) },
  ),
  started_good parts (n + 1) base rows h g.1 (omega arith) (drop_next n base r rows e),
)

pub started_full : (parts n : ℕ) (rows : List Linear) → AllByRecursion (IsFull parts) (started_from parts n rows)
started_full parts n [] = tt
started_full parts n (r ∷ rows) = (grind (arith, common_steps), started_full parts (n + 1) rows)

pub started_within : (parts n : ℕ) (rows : List Linear) → AllWithin MODEST_NUMBER rows → AllByRecursion (MadeWithin (entry 3)) (started_from parts n rows)
started_within parts n [] h = tt
started_within parts n (r ∷ rows) h = (
  record {
    row = row_more MODEST_NUMBER (2 ^ 10) r (omega arith) h.0;
    multipliers = more_within 1 (2 ^ 10) (unit parts n) (omega arith) (unit_within parts n);
  },
  started_within parts (n + 1) rows h.1,
)

started_has : (parts n k : ℕ) (rows : List Linear) → has_variable k (started_from parts n rows) ≡ occurs k rows
started_has parts n k [] = refl
started_has parts n k (r ∷ rows) = ap (λ (t : Bool). not (is_zero (coefficient r k)) || t) (started_has parts (n + 1) k rows)

pub started_remaining : (parts n k : ℕ) (rows : List Linear) → remaining n k (started parts rows) ≡ occurring n k rows
started_remaining parts zero k rows = refl
started_remaining parts (suc n) k rows =
    let a = ap one_if (started_has parts zero k rows) in
    let c = started_remaining parts n (suc k) rows in omega arith

pub length-started : (parts n : ℕ) (rows : List Linear) → length (started_from parts n rows) ≡ length rows
length-started parts n [] = refl
length-started parts n (r ∷ rows) = ap suc (length-started parts (n + 1) rows)

pub started_meets : (parts n : ℕ) (p : Point) (rows : List Linear) → AllMeet p (started_from parts n rows) → AllMeetAt p rows
started_meets parts n p [] h = tt
started_meets parts n p (r ∷ rows) h = (h.0, started_meets parts (n + 1) p rows h.1)

made : ℕ → ℕ → Linear → Made
made parts n r = record { row = r; multipliers = unit parts n }

-- a row more
pub started_more : (parts n : ℕ) (rows : List Linear) (r : Linear) → started_from parts n (rows ++ r ∷ []) ≡ started_from parts n rows ++ (record { row = r; multipliers = unit parts (n + length rows) }) ∷ []
unfolding made
started_more parts n [] r = let e : n ≡ n + 0 = omega arith in ap (λ (i : ℕ). made parts i r ∷ []) e
started_more parts n (q ∷ rows) r =
    let e : n + 1 + length rows ≡ n + suc (length rows) = omega arith in
    ap (λ (z : List Made). made parts n q ∷ z) (started_more parts (n + 1) rows r ∙ ap (λ (i : ℕ). started_from parts (n + 1) rows ++ made parts i r ∷ []) e)

pub started_next : (parts i : ℕ) (rows : List Linear) (r : Linear) → slice_get rows i ≡ Some r →
    started_from parts 0 (take i rows) ++ (record { row = r; multipliers = unit parts i }) ∷ [] ≡ started_from parts 0 (take (i + 1) rows)
unfolding made
started_next parts i rows r at =
    let lt = slice_get_within rows i r at in
    let l = length-take-le i rows (omega arith) in
    let e : 0 + length (take i rows) ≡ i = omega arith in
    ap (λ (j : ℕ). started_from parts 0 (take i rows) ++ made parts j r ∷ []) (sym e)
    ∙ sym (started_more parts 0 (take i rows) r)
    ∙ ap (λ (x : Linear). started_from parts 0 (take i rows ++ x ∷ [])) (sym (get_or_from_slice_get rows i r r at))
    ∙ ap (started_from parts 0) (sym (take_more rows i r lt))

pub started_end : (parts i n : ℕ) (rows : List Linear) (r : Linear) (out : List Made) → length rows ≤ i → n ≡ length rows → out ≡ started_from parts 0 (take i rows) →
    out ++ (record { row = r; multipliers = unit parts n }) ∷ [] ≡ started parts (rows ++ r ∷ [])
unfolding made
started_end parts i n rows r out le is h =
    let from_none : n ≡ 0 + length rows = omega arith in
    ap (λ (z : List Made). z ++ made parts n r ∷ []) (h ∙ ap (started_from parts 0) (take_all i rows le))
    ∙ ap (λ (j : ℕ). started_from parts 0 rows ++ made parts j r ∷ []) from_none
    ∙ sym (started_more parts 0 rows r)
