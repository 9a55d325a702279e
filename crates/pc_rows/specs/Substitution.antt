-- A row carried back over the assignment x = form + [lo, hi], which chooses an integer from lo to hi; an end that is None is open.
use Rattle.std.specs.Prelude.{ℕ, ℤ, pos, negsuc, ◌+ℤ◌, ◌*ℤ◌, ◌≤ℤ◌, List, slice_set, int_lt, if◌then◌else◌, Option, Some, None, is_none, ◌&&◌, ◌||◌, Bool, MatchOption}
use Rattle.std.specs.Bool.{MatchBool}
use Rattle.pc_rows.specs.Linear.{Linear, State, value, Meets, coefficient, add_lists, scale_list, of_constant, is_zero, InRange, AllInRange}

-- c is not below the low end, where that is closed
abbrev pub IsNotBelow : Option ℤ → ℤ → Type 0
IsNotBelow None c = Unit {0}
IsNotBelow (Some lo) c = lo ≤ℤ c

-- and not above the high end
abbrev pub IsNotAbove : Option ℤ → ℤ → Type 0
IsNotAbove None c = Unit {0}
IsNotAbove (Some hi) c = c ≤ℤ hi

-- of two closed ends the low one is not above the high one
abbrev pub AreOrdered : Option ℤ → Option ℤ → Type 0
AreOrdered None hi = Unit {0}
AreOrdered (Some lo) hi = IsNotAbove hi lo

abbrev pub IsEnd : Option ℤ → Type 0
IsEnd end = MatchOption end (Unit {0}) InRange

-- the states after the assignment are those with x at the form's value plus an integer from lo to hi; each of them meets r
abbrev pub AllSuccessorsMeet : State → ℕ → Linear → Option ℤ → Option ℤ → Linear → Type 0
AllSuccessorsMeet s x form lo hi r = (c : ℤ) → IsNotBelow lo c → IsNotAbove hi c → Meets (slice_set s x (value form s +ℤ c)) r

abbrev pub lesser : ℤ → ℤ → ℤ
lesser a b = if int_lt b a then b else a

-- the end that decides how low c times the choice goes, lo where c > 0 and hi where c < 0, is open
abbrev pub needs_open_end : ℤ → Option ℤ → Option ℤ → Bool
needs_open_end c lo hi = is_none lo && int_lt (pos 0) c || is_none hi && int_lt c (pos 0)

-- the least of the products of c with the closed ends
abbrev pub least_product : ℤ → Option ℤ → Option ℤ → ℤ
least_product c (Some lo) (Some hi) = lesser (c *ℤ lo) (c *ℤ hi)
least_product c (Some lo) None = c *ℤ lo
least_product c None (Some hi) = c *ℤ hi
least_product c None None = pos 0

-- with c for the coefficient of x in r: r without its x, plus c * form, plus the least product of c with a closed end
abbrev pub carried : Linear → ℕ → Linear → Option ℤ → Option ℤ → Linear
carried r x form lo hi =
    record {
      constant = r.constant +ℤ coefficient r x *ℤ form.constant +ℤ least_product (coefficient r x) lo hi;
      coefficients = add_lists (scale_list (coefficient r x) form.coefficients) (slice_set r.coefficients x (pos 0));
    }

-- the row that no state meets
abbrev pub never_row : Linear
never_row = of_constant (negsuc 0)

-- a row without x stays as it is; where the end that is needed is open some successor breaks the row
abbrev pub substituted : Linear → ℕ → Linear → Option ℤ → Option ℤ → Linear
substituted r x form lo hi =
    if is_zero (coefficient r x) then r else if needs_open_end (coefficient r x) lo hi then never_row else carried r x form lo hi

-- the product with a closed end is in range
abbrev pub ProductFits : ℤ → Option ℤ → Type 0
ProductFits c end = MatchOption end (Unit {0}) (λ e. InRange (c *ℤ e))

-- the products and sums that make the constant are in range
pub record ConstantFits (c constant of_form : ℤ) (lo hi : Option ℤ) : Type 0 where
  pub product : InRange (c *ℤ of_form)
  pub sum : InRange (constant +ℤ c *ℤ of_form)
  pub low : ProductFits c lo
  pub high : ProductFits c hi
  pub whole : InRange (constant +ℤ c *ℤ of_form +ℤ least_product c lo hi)

-- the products and sums that make the coefficients are in range
pub record CoefficientsFit (c : ℤ) (of_row : List ℤ) (x : ℕ) (of_form : List ℤ) : Type 0 where
  pub products : AllInRange (scale_list c of_form)
  pub sums : AllInRange (add_lists (scale_list c of_form) (slice_set of_row x (pos 0)))

pub record CarryFits (r : Linear) (x : ℕ) (form : Linear) (lo hi : Option ℤ) : Type 0 where
  pub constant : ConstantFits (coefficient r x) r.constant form.constant lo hi
  pub coefficients : CoefficientsFit (coefficient r x) r.coefficients x form.coefficients

-- each product and each sum that is computed is in range; a row without x needs none, nor does an open end
abbrev pub SubstituteFits : Linear → ℕ → Linear → Option ℤ → Option ℤ → Type 0
SubstituteFits r x form lo hi =
    MatchBool (is_zero (coefficient r x)) (Unit {0})
    (MatchBool (needs_open_end (coefficient r x) lo hi) (Unit {0}) (CarryFits r x form lo hi))
