-- Rows after an assignment.
use Rattle.std.specs.Prelude.{◌≡◌, ◌⊎◌, ℕ, ℤ, pos, negsuc, neg_ℤ, ◌+ℤ◌, int_lt, if◌then◌else◌, List, Option, Some, slice_set, slice_index_or}
use Rattle.pc_rows.specs.Linear.{Linear, State, value, MeetsAll, Meets, coefficient, of_constant, with_coefficient, sum_of, difference_of, scaled_by}
use Rattle.pc_rows.specs.Substitution.{IsNotBelow, IsNotAbove}
use Rattle.pc_poly.specs.declared.assignment.Assignment.{Assignment}

-- the assignment x = 0
abbrev pub zeroing : ℕ → Assignment
zeroing x = record { x = x; form = of_constant (pos 0); lo = Some (pos 0); hi = Some (pos 0) }

-- the form has the variable once, with either sign
abbrev pub IsOnce : Assignment → Type 0
IsOnce a = (coefficient a.form a.x ≡ pos 1) ⊎ (coefficient a.form a.x ≡ negsuc 0)

-- the state after it, where c was chosen
abbrev pub successor : Assignment → State → ℤ → State
successor a s c = slice_set s a.x (value a.form s +ℤ c)

-- c may be chosen, and the variable takes its value
pub record Assigns (a : Assignment) (s : State) (c : ℤ) : Type 0 where
  pub low : IsNotBelow a.lo c
  pub high : IsNotAbove a.hi c
  pub takes : slice_index_or (successor a s c) a.x (pos 0) ≡ value a.form s +ℤ c

-- each state that follows one that meets the rows meets what is added to `old`, if it meets `old`
abbrev pub AddsAfter : Assignment → List Linear → List Linear → List Linear → Type 0
AddsAfter a rows old new = (s : State) (c : ℤ) → Assigns a s c → MeetsAll s rows → MeetsAll (successor a s c) old → MeetsAll (successor a s c) new

-- a row of the states before it becomes one of those after it
abbrev pub MetAfter : Assignment → Linear → Linear → Type 0
MetAfter a r new = (s : State) (c : ℤ) → Assigns a s c → Meets s r → Meets (successor a s c) new

-- ---- the old value by the new one

-- how often a row has the new variable, which has the old one as often
abbrev pub factor : Assignment → Linear → ℤ
factor a r = if int_lt (coefficient a.form a.x) (pos 0) then neg_ℤ (coefficient r a.x) else coefficient r a.x

-- the end of the choice at which the share of the choice, its opposite times the factor, is greatest
abbrev pub needed : Assignment → ℤ → Option ℤ
needed a k = if int_lt (pos 0) k then a.lo else a.hi

-- the new variable times the factor, less as many times the rest of the form and the end of the choice
abbrev pub replaced : Assignment → Linear → ℤ → ℤ → Linear
replaced a r k end = difference_of (difference_of (with_coefficient r a.x k) (scaled_by k (with_coefficient a.form a.x (pos 0)))) (scaled_by k (of_constant end))

-- ---- the ends of the new value

abbrev pub low_row : Assignment → ℤ → Linear
low_row a lo = difference_of (with_coefficient (of_constant (neg_ℤ lo)) a.x (pos 1)) a.form

abbrev pub high_row : Assignment → ℤ → Linear
high_row a hi = sum_of (with_coefficient (of_constant hi) a.x (negsuc 0)) a.form
