-- Tests for numbers in range, and the two forms of an exact answer.
use Rattle.std.proofs.Common.{◌≡◌, ℤ, List, [], ◌∷◌, Bool, true, false, refl, arith, Ok, Err}
use Rattle.std.specs.Prelude.{◌&&◌}
use Rattle.std.specs.List.{list_all}
use Rattle.std.proofs.lemmas.Bool.{and_parts, false_from_ne_true}
pub use Rattle.std.proofs.lemmas.Bool.{and_parts as and_is}
use Rattle.std.proofs.lemmas.Bool.Decides.{nat_tests}
use Rattle.pc_rows.specs.Linear.{Linear, InRange, AllInRange, IsInRange, in_range, is_in_range, fits}
use Rattle.pc_rows.specs.Laws.{RangeIsMeant}

pub in_is : (z : ℤ) → InRange z → in_range z ≡ true
in_is z h = grind (arith, nat_tests)

pub is_in : (z : ℤ) → in_range z ≡ true → InRange z
is_in z h = grind (arith, nat_tests)

pub all_in : (zs : List ℤ) → AllInRange zs → list_all in_range zs ≡ true
all_in [] h = refl
all_in (z ∷ zs) h = rw (in_is z h.0, all_in zs h.1)

pub in_all : (zs : List ℤ) → list_all in_range zs ≡ true → AllInRange zs
in_all [] h = tt
in_all (z ∷ zs) h = let p = and_parts (in_range z) (list_all in_range zs) h in (is_in z p.0, in_all zs p.1)

pub to_test : (r : Linear) → IsInRange r → is_in_range r ≡ true
to_test r h = rw (in_is r.constant h.0, all_in r.coefficients h.1)

pub from_test : (r : Linear) → is_in_range r ≡ true → IsInRange r
from_test r h =
    let p = and_parts (in_range r.constant) (list_all in_range r.coefficients) h in
    (is_in r.constant p.0, in_all r.coefficients p.1)

pub to_not_test : (r : Linear) → (IsInRange r → ⊥) → is_in_range r ≡ false
to_not_test r h = false_from_ne_true (is_in_range r) (λ e. h (from_test r e))

pub range_is_meant : RangeIsMeant
range_is_meant r = (from_test r, to_test r)

-- for functions above that match on a row's exact answer and say theirs by `fits`
pub ruleset tests = (to_test, to_not_test)

-- from the exact answer of a row to the function that says it
pub ok_fits : {E : Type 0} (fault : E) (r z : Linear) → IsInRange z × (r ≡ z) → Ok r ≡ fits fault z
ok_fits fault r z h = rw (h.1, to_test z h.0)

pub err_fits : {E : Type 0} (fault : E) (z : Linear) → (IsInRange z → ⊥) → Err fault ≡ fits fault z
err_fits fault z h = rw (to_not_test z h)
