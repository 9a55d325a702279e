-- Numbers that are kept where they are in range.
use Rattle.std.proofs.Common.{◌≡◌, ℤ, ◌+ℤ◌, ◌*ℤ◌, Bool, true, false, cond, Some, None, refl}
use Rattle.pc_rows.specs.Linear.{InRange, in_range}
use Rattle.pc_rows.proofs.Ranges.{in_is, is_in}
use Rattle.pc_box.specs.Forms.{kept, kept_product}

out_is : (z : ℤ) → (InRange z → ⊥) → in_range z ≡ false
out_is z h = by (in_range z) (λ e. h (is_in z e))
  where
    by : (b : Bool) → (b ≡ true → ⊥) → b ≡ false
    by true never = absurd (never refl)
    by false never = refl

pub kept_in : (z : ℤ) → InRange z → kept z ≡ Some z
kept_in z h = rw (in_is z h) refl

pub kept_out : (z : ℤ) → (InRange z → ⊥) → kept z ≡ None
kept_out z h = rw (out_is z h) refl

pub product_in : (sum c n : ℤ) → InRange (c *ℤ n) × InRange (sum +ℤ c *ℤ n) → kept_product sum c n ≡ Some (sum +ℤ c *ℤ n)
product_in sum c n h = rw (in_is (c *ℤ n) h.0, in_is (sum +ℤ c *ℤ n) h.1) refl

pub product_out : (sum c n : ℤ) → (InRange (c *ℤ n) × InRange (sum +ℤ c *ℤ n) → ⊥) → kept_product sum c n ≡ None
product_out sum c n h = by (in_range (c *ℤ n)) (λ e. kept_out (sum +ℤ c *ℤ n) (λ f. h (is_in (c *ℤ n) e, f)))
  where
    by : (b : Bool) → (b ≡ true → kept (sum +ℤ c *ℤ n) ≡ None) → cond b (kept (sum +ℤ c *ℤ n)) None ≡ None
    by true go = go refl
    by false go = refl
