-- Rows whose numbers are small: what is made of them is in range.
use Rattle.std.proofs.Common.{ℕ, zero, suc, ◌+◌, ◌*◌, ◌^◌, ◌<◌, ◌≤◌, ℤ, pos, ◌+ℤ◌, ◌*ℤ◌, neg_ℤ, arith, List, [], ◌∷◌, get_or, set, replicate, Bool, true, false, cond, Option, Some, None}
use Rattle.std.specs.Prelude.{int_lt, unsigned_abs}
use Rattle.std.specs.Bool.{MatchBool}
use Rattle.std.proofs.lemmas.Int.{ints, unsigned_abs-mul}
use Rattle.std.proofs.Math.Nat.{mul-le-mul}
use Rattle.pc_rows.specs.Linear.{Linear, InRange, AllInRange, add_lists, scale_list, negate_list, coefficient, is_zero}
use Rattle.pc_rows.specs.Bounds.{IsWithin, AreWithin, Within}
use Rattle.pc_rows.specs.Substitution.{lesser, least_product, needs_open_end, ProductFits, ConstantFits, CoefficientsFit, CarryFits}
use Rattle.pc_rows.specs.Laws.{EndIsWithin, SmallSubstitutionFits}

pub product_within : (m n : ℕ) (a b : ℤ) → IsWithin m a → IsWithin n b → IsWithin (m * n) (a *ℤ b)
product_within m n a b h g = omega (arith, unsigned_abs-mul a b, mul-le-mul h g)

abs-add : (a b : ℤ) → unsigned_abs (a +ℤ b) ≤ unsigned_abs a + unsigned_abs b
abs-add a b = omega (arith, ints)

pub sum_within : (m n : ℕ) (a b : ℤ) → IsWithin m a → IsWithin n b → IsWithin (m + n) (a +ℤ b)
sum_within m n a b h g = omega (arith, abs-add a b)

pub opposite_within : (m : ℕ) (a : ℤ) → IsWithin m a → IsWithin m (neg_ℤ a)
opposite_within m a h = omega (arith, ints)

lesser_within_by : (m : ℕ) (a b : ℤ) (t : Bool) → IsWithin m a → IsWithin m b → IsWithin m (cond t b a)
lesser_within_by m a b true h g = g
lesser_within_by m a b false h g = h

pub lesser_within : (m : ℕ) (a b : ℤ) → IsWithin m a → IsWithin m b → IsWithin m (lesser a b)
lesser_within m a b h g = lesser_within_by m a b (int_lt b a) h g

pub within_in_range : (m : ℕ) (z : ℤ) → m < 2 ^ 127 → IsWithin m z → InRange z
within_in_range m z lt h = omega arith

pub all_in_range : (m : ℕ) (zs : List ℤ) → m < 2 ^ 127 → AreWithin m zs → AllInRange zs
all_in_range m [] lt h = tt
all_in_range m (z ∷ zs) lt h = (within_in_range m z lt h.0, all_in_range m zs lt h.1)

pub more_within : (m n : ℕ) (zs : List ℤ) → m ≤ n → AreWithin m zs → AreWithin n zs
more_within m n [] le h = tt
more_within m n (z ∷ zs) le h = (omega (arith, h.0), more_within m n zs le h.1)

pub scale_within : (m n : ℕ) (k : ℤ) (zs : List ℤ) → IsWithin m k → AreWithin n zs → AreWithin (m * n) (scale_list k zs)
scale_within m n k [] h g = tt
scale_within m n k (z ∷ zs) h g = (product_within m n k z h g.0, scale_within m n k zs h g.1)

pub add_within : (m n : ℕ) (as' bs : List ℤ) → AreWithin m as' → AreWithin n bs → AreWithin (m + n) (add_lists as' bs)
add_within m n [] bs h g = more_within n (m + n) bs (omega arith) g
add_within m n (a ∷ as') [] h g = more_within m (m + n) (a ∷ as') (omega arith) h
add_within m n (a ∷ as') (b ∷ bs) h g = (sum_within m n a b h.0 g.0, add_within m n as' bs h.1 g.1)

pub negate_within : (m : ℕ) (zs : List ℤ) → AreWithin m zs → AreWithin m (negate_list zs)
negate_within m [] h = tt
negate_within m (z ∷ zs) h = (opposite_within m z h.0, negate_within m zs h.1)

pub zeros_within : (m n : ℕ) → AreWithin m (replicate n (pos 0))
zeros_within m zero = tt
zeros_within m (suc n) = (omega (arith, ints), zeros_within m n)

pub at_within : (m : ℕ) (zs : List ℤ) (k : ℕ) → AreWithin m zs → IsWithin m (get_or zs k (pos 0))
at_within m [] k h = omega (arith, ints)
at_within m (z ∷ zs) zero h = h.0
at_within m (z ∷ zs) (suc k) h = at_within m zs k h.1

pub set_within : (m : ℕ) (zs : List ℤ) (k : ℕ) (z : ℤ) → AreWithin m zs → IsWithin m z → AreWithin m (set zs k z)
set_within m [] k z h g = tt
set_within m (y ∷ zs) zero z h g = (g, h.1)
set_within m (y ∷ zs) (suc k) z h g = (h.0, set_within m zs k z h.1 g)

product_fits : (m : ℕ) (c : ℤ) (end : Option ℤ) → m * m < 2 ^ 127 → IsWithin m c → EndIsWithin m end → ProductFits c end
product_fits m c None lt hc h = tt
product_fits m c (Some e) lt hc h = within_in_range (m * m) (c *ℤ e) lt (product_within m m c e hc h)

pub least_within : (m : ℕ) (c : ℤ) (lo hi : Option ℤ) → IsWithin m c → EndIsWithin m lo → EndIsWithin m hi → IsWithin (m * m) (least_product c lo hi)
least_within m c None None hc hl hh = omega arith
least_within m c (Some lo) None hc hl hh = product_within m m c lo hc hl
least_within m c None (Some hi) hc hl hh = product_within m m c hi hc hh
least_within m c (Some lo) (Some hi) hc hl hh = lesser_within (m * m) (c *ℤ lo) (c *ℤ hi) (product_within m m c lo hc hl) (product_within m m c hi hc hh)

constant_fits : (m : ℕ) (c constant of_form : ℤ) (lo hi : Option ℤ) → m + m * m + m * m < 2 ^ 127 →
    IsWithin m c → IsWithin m constant → IsWithin m of_form → EndIsWithin m lo → EndIsWithin m hi → ConstantFits c constant of_form lo hi
constant_fits m c constant of_form lo hi lt hc hr hf hl hh =
    let product = product_within m m c of_form hc hf in
    let sum = sum_within m (m * m) constant (c *ℤ of_form) hr product in
    record {
      product = within_in_range (m * m) (c *ℤ of_form) (omega arith) product;
      sum = within_in_range (m + m * m) (constant +ℤ c *ℤ of_form) (omega arith) sum;
      low = product_fits m c lo (omega arith) hc hl;
      high = product_fits m c hi (omega arith) hc hh;
      whole = within_in_range (m + m * m + m * m) (constant +ℤ c *ℤ of_form +ℤ least_product c lo hi) lt
          (sum_within (m + m * m) (m * m) (constant +ℤ c *ℤ of_form) (least_product c lo hi) sum (least_within m c lo hi hc hl hh));
    }

coefficients_fit : (m : ℕ) (c : ℤ) (of_row : List ℤ) (x : ℕ) (of_form : List ℤ) → m + m * m + m * m < 2 ^ 127 →
    IsWithin m c → AreWithin m of_row → AreWithin m of_form → CoefficientsFit c of_row x of_form
coefficients_fit m c of_row x of_form lt hc hr hf =
    let products = scale_within m m c of_form hc hf in
    let zero_is_within : IsWithin m (pos 0) = omega (arith, ints) in
    record {
      products = all_in_range (m * m) (scale_list c of_form) (omega arith) products;
      sums = all_in_range (m * m + m) (add_lists (scale_list c of_form) (set of_row x (pos 0))) (omega arith)
          (add_within (m * m) m (scale_list c of_form) (set of_row x (pos 0)) products (set_within m of_row x (pos 0) hr zero_is_within));
    }

carry_fits : (m : ℕ) (r form : Linear) (x : ℕ) (lo hi : Option ℤ) → m + m * m + m * m < 2 ^ 127 →
    Within m r → Within m form → EndIsWithin m lo → EndIsWithin m hi → CarryFits r x form lo hi
carry_fits m r form x lo hi lt hr hf hl hh =
    let hc = at_within m r.coefficients x hr.coefficients in
    record {
      constant = constant_fits m (coefficient r x) r.constant form.constant lo hi lt hc hr.constant hf.constant hl hh;
      coefficients = coefficients_fit m (coefficient r x) r.coefficients x form.coefficients lt hc hr.coefficients hf.coefficients;
    }

fits_by : (F : Type 0) (t u : Bool) → F → MatchBool t (Unit {0}) (MatchBool u (Unit {0}) F)
fits_by F true u f = tt
fits_by F false true f = tt
fits_by F false false f = f

pub small_substitution_fits : SmallSubstitutionFits
small_substitution_fits bound r form x lo hi lt hr hf hl hh =
    fits_by (CarryFits r x form lo hi) (is_zero (coefficient r x)) (needs_open_end (coefficient r x) lo hi) (carry_fits bound r form x lo hi lt hr hf hl hh)
