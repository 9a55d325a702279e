-- Rows that are covered, and joins.
use Rattle.std.proofs.Common.{◌≡◌, ℕ, ◌+◌, ◌≤◌, ℤ, pos, ◌≤ℤ◌, arith, List, [], ◌∷◌, ◌++◌, length, drop, Bool, true, false, cond, refl, ap, inl, inr, length-append, Some, slice_get, Err}
use Rattle.std.specs.Prelude.{◌⊎◌, int_le}
use Rattle.std.specs.List.{list_all, list_any, AllByRecursion}
use Rattle.std.specs.Ordering.{int_eq}
use Rattle.std.specs.Cmp.Lexicographic.{pointwise}
use Rattle.std.specs.Cmp.Rules.{signed_items}
use Rattle.std.proofs.lemmas.Bool.{and_from, and_parts, or_cases, or_left, or_right}
pub use Rattle.std.proofs.lemmas.Bool.{and_from as and_both}
use Rattle.std.proofs.lemmas.Int.{ints}
use Rattle.std.proofs.lemmas.Option.{slice_get_within, get_or_from_slice_get}
use Rattle.std.proofs.lemmas.List.{drop_more, drop_all}
use Rattle.pc_rows.specs.declared.rows.RowsFault.{RowsFault}
use Rattle.pc_rows.specs.declared.rows.RowsFault.TheVariants.{Full, NoMemory}
use Rattle.pc_rows.specs.declared.rows.TheConstants.{ROWS}
use Rattle.pc_rows.specs.Linear.{Linear, State, dot, Meets, MeetsAll, is_zero}
use Rattle.pc_rows.specs.Bounds.{Within}
use Rattle.pc_rows.specs.Joins.{IsAlways, IsAtMost, SomeIsAtMost, IsCovered, is_always, is_at_most, is_covered, with_row, joined, AddIs, JoinIs}
use Rattle.pc_rows.specs.Laws.{NumberIsMeant, CoveringIsMeant, CoveredIsMet, JoinIsBoth, JoinIsWithin}
use Rattle.pc_rows.proofs.Lists.{zero_is, dot-zero}

-- facts of each item of lists that are put together

pub each_join : {A : Type 0} (P : A → Type 0) (xs ys : List A) → AllByRecursion P xs → AllByRecursion P ys → AllByRecursion P (xs ++ ys)
each_join P [] ys h g = g
each_join P (x ∷ xs) ys h g = (h.0, each_join P xs ys h.1 g)

pub each_left : {A : Type 0} (P : A → Type 0) (xs ys : List A) → AllByRecursion P (xs ++ ys) → AllByRecursion P xs
each_left P [] ys h = tt
each_left P (x ∷ xs) ys h = (h.0, each_left P xs ys h.1)

pub each_right : {A : Type 0} (P : A → Type 0) (xs ys : List A) → AllByRecursion P (xs ++ ys) → AllByRecursion P ys
each_right P [] ys h = h
each_right P (x ∷ xs) ys h = each_right P xs ys h.1

-- the tests say what is meant

pub le_is : (a b : ℤ) → int_le a b ≡ true → a ≤ℤ b
le_is a b h = grind (arith, ints)

pub is_le : (a b : ℤ) → a ≤ℤ b → int_le a b ≡ true
is_le a b h = grind (arith, ints)

zeros_are : (cs : List ℤ) → list_all is_zero cs ≡ true → AllByRecursion (λ c. c ≡ pos 0) cs
zeros_are [] h = tt
zeros_are (c ∷ cs) h = let p = and_parts (is_zero c) (list_all is_zero cs) h in (zero_is c p.0, zeros_are cs p.1)

are_zeros : (cs : List ℤ) → AllByRecursion (λ c. c ≡ pos 0) cs → list_all is_zero cs ≡ true
are_zeros [] h = refl
are_zeros (c ∷ cs) h = and_from (is_zero c) (list_all is_zero cs) (ap is_zero h.0) (are_zeros cs h.1)

pub number_is_meant : NumberIsMeant
number_is_meant r = (zeros_are r.coefficients, are_zeros r.coefficients)

pub always_is : (r : Linear) → is_always r ≡ true → IsAlways r
always_is r h =
    let b = and_parts (list_all is_zero r.coefficients) (int_le (pos 0) r.constant) h in
    (zeros_are r.coefficients b.0, le_is (pos 0) r.constant b.1)

is_always_test : (r : Linear) → IsAlways r → is_always r ≡ true
is_always_test r h = and_from (list_all is_zero r.coefficients) (int_le (pos 0) r.constant) (are_zeros r.coefficients h.0) (is_le (pos 0) r.constant h.1)

pub at_most_is : (a r : Linear) → is_at_most a r ≡ true → IsAtMost a r
at_most_is a r h =
    let b = and_parts (pointwise int_eq a.coefficients r.coefficients) (int_le a.constant r.constant) h in
    ((signed_items a.coefficients r.coefficients).0 b.0, le_is a.constant r.constant b.1)

is_at_most_test : (a r : Linear) → IsAtMost a r → is_at_most a r ≡ true
is_at_most_test a r h =
    and_from (pointwise int_eq a.coefficients r.coefficients) (int_le a.constant r.constant) ((signed_items a.coefficients r.coefficients).1 h.0) (is_le a.constant r.constant h.1)

some_is : (rows : List Linear) (r : Linear) → list_any (λ a. is_at_most a r) rows ≡ true → SomeIsAtMost rows r
some_is [] r h = absurd (cc)
some_is (a ∷ rows) r h = by (or_cases (is_at_most a r) (list_any (λ a. is_at_most a r) rows) h) (λ g. some_is rows r g)
  where
    by : (is_at_most a r ≡ true) ⊎ (list_any (λ a. is_at_most a r) rows ≡ true) → (list_any (λ a. is_at_most a r) rows ≡ true → SomeIsAtMost rows r) → IsAtMost a r ⊎ SomeIsAtMost rows r
    by (inl k) go = inl (at_most_is a r k)
    by (inr k) go = inr (go k)

is_some_test : (rows : List Linear) (r : Linear) → SomeIsAtMost rows r → list_any (λ a. is_at_most a r) rows ≡ true
is_some_test [] r h = absurd h
is_some_test (a ∷ rows) r (inl h) = or_left (is_at_most a r) (list_any (λ a. is_at_most a r) rows) (is_at_most_test a r h)
is_some_test (a ∷ rows) r (inr h) = or_right (is_at_most a r) (list_any (λ a. is_at_most a r) rows) (is_some_test rows r h)

pub covered_is : (r : Linear) (rows : List Linear) → is_covered r rows ≡ true → IsCovered r rows
covered_is r rows h = by (or_cases (is_always r) (list_any (λ a. is_at_most a r) rows) h)
  where
    by : (is_always r ≡ true) ⊎ (list_any (λ a. is_at_most a r) rows ≡ true) → IsCovered r rows
    by (inl k) = inl (always_is r k)
    by (inr k) = inr (some_is rows r k)

pub is_covered_test : (r : Linear) (rows : List Linear) → IsCovered r rows → is_covered r rows ≡ true
is_covered_test r rows (inl h) = or_left (is_always r) (list_any (λ a. is_at_most a r) rows) (is_always_test r h)
is_covered_test r rows (inr h) = or_right (is_always r) (list_any (λ a. is_at_most a r) rows) (is_some_test rows r h)

pub covering_is_meant : CoveringIsMeant
covering_is_meant r rows = (covered_is r rows, is_covered_test r rows)

-- a covered row is met

always_meets : (r : Linear) (s : State) → IsAlways r → Meets s r
always_meets r s h =
    let z = dot-zero r.coefficients s (are_zeros r.coefficients h.0) in
    let c = h.1 in
    omega (arith, ints)

at_most_meets : (a r : Linear) (s : State) → IsAtMost a r → Meets s a → Meets s r
at_most_meets a r s h m =
    let d = ap (λ cs. dot cs s) h.0 in
    let c = h.1 in
    omega (arith, ints)

some_meets : (rows : List Linear) (r : Linear) (s : State) → SomeIsAtMost rows r → MeetsAll s rows → Meets s r
some_meets [] r s h m = absurd h
some_meets (a ∷ rows) r s (inl h) m = at_most_meets a r s h m.0
some_meets (a ∷ rows) r s (inr h) m = some_meets rows r s h m.1

covered_meets : (r : Linear) (rows : List Linear) (s : State) → IsCovered r rows → MeetsAll s rows → Meets s r
covered_meets r rows s (inl h) m = always_meets r s h
covered_meets r rows s (inr h) m = some_meets rows r s h m

pub covered_is_met : CoveredIsMet
covered_is_met r rows s h m = covered_meets r rows s (covered_is r rows h) m

-- to meet a join is to meet both

with_meets : (rows : List Linear) (r : Linear) (s : State) (t : Bool) → is_covered r rows ≡ t → MeetsAll s (cond t rows (rows ++ r ∷ [])) → MeetsAll s rows × Meets s r
with_meets rows r s true h m = (m, covered_is_met r rows s h m)
with_meets rows r s false h m = (each_left (Meets s) rows (r ∷ []) m, (each_right (Meets s) rows (r ∷ []) m).0)

-- a fact of each row of a list and of a row is one of each row of the list with the row
with_each : (P : Linear → Type 0) (rows : List Linear) (r : Linear) (t : Bool) → AllByRecursion P rows → P r → AllByRecursion P (cond t rows (rows ++ r ∷ []))
with_each P rows r true h g = h
with_each P rows r false h g = each_join P rows (r ∷ []) h (g, tt)

pub joined_each : (P : Linear → Type 0) (a b : List Linear) → AllByRecursion P a → AllByRecursion P b → AllByRecursion P (joined a b)
joined_each P a [] h g = h
joined_each P a (r ∷ b) h g = joined_each P (with_row a r) b (with_each P a r (is_covered r a) h g.0) g.1

pub joined_meets : (a b : List Linear) (s : State) → MeetsAll s (joined a b) → MeetsAll s a × MeetsAll s b
joined_meets a [] s m = (m, tt)
joined_meets a (r ∷ b) s m =
    let h = joined_meets (with_row a r) b s m in
    let k = with_meets a r s (is_covered r a) refl h.0 in
    (k.0, (k.1, h.1))

pub join_is_both : JoinIsBoth
join_is_both a b s = (joined_meets a b s, (λ m. joined_each (Meets s) a b m.0 m.1))

pub join_is_within : JoinIsWithin
join_is_within bound a b h g = joined_each (Within bound) a b h g

-- the loop that joins

with_row-longer-at : (rows : List Linear) (r : Linear) (t : Bool) → length rows ≤ length (cond t rows (rows ++ r ∷ []))
with_row-longer-at rows r true = omega arith
with_row-longer-at rows r false = omega (arith, length-append rows (r ∷ []))

pub joined-longer : (rows more : List Linear) → length rows ≤ length (joined rows more)
joined-longer rows [] = omega arith
joined-longer rows (r ∷ more) = omega (arith, joined-longer (with_row rows r) more, with_row-longer-at rows r (is_covered r rows))

pub joined-next : (rows more : List Linear) (i : ℕ) (r : Linear) → slice_get more i ≡ Some r → joined rows (drop i more) ≡ joined (with_row rows r) (drop (i + 1) more)
joined-next rows more i r e =
    let lt = slice_get_within more i r e in
    let q = get_or_from_slice_get more i r r e in
    rw (drop_more more i r lt, q)

pub joined-done : (rows more : List Linear) (i : ℕ) → length more ≤ i → joined rows (drop i more) ≡ rows
joined-done rows more i h = rw (drop_all i more h)

pub err_is : (a b all : List Linear) (i : ℕ) (r : Linear) (new : List Linear) (e : RowsFault) → slice_get b i ≡ Some r → joined all (drop i b) ≡ joined a b → length (joined a b) ≤ ROWS → AddIs all r (Err e) new → JoinIs a b (Err e)
err_is a b all i r new Full at rest most h = rw (← rest, joined-next all b i r at) (let l = joined-longer (with_row all r) (drop (i + 1) b) in omega arith)
err_is a b all i r new NoMemory at rest most h = most
