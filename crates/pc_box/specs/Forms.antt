-- The least and the greatest value of a form in a box.
use Rattle.std.specs.Prelude.{ℕ, if◌then◌else◌, ℤ, pos, ◌+ℤ◌, ◌*ℤ◌, int_lt, List, [], ◌∷◌, Option, Some, None}
use Rattle.pc_rows.specs.Linear.{Linear, in_range}
use Rattle.pc_rows.specs.Readers.{terms_of}
use Rattle.pc_box.specs.declared.interval.Interval.{Interval}
use Rattle.pc_box.specs.declared.form.Side.{Side}
use Rattle.pc_box.specs.declared.form.Side.TheVariants.{Least, Greatest}
use Rattle.pc_box.specs.Boxes.{interval_at}

-- the number, where it is in range
abbrev pub kept : ℤ → Option ℤ
kept n = if in_range n then Some n else None

-- the sum with a product, where both are in range
abbrev pub kept_product : ℤ → ℤ → ℤ → Option ℤ
kept_product sum c n = if in_range (c *ℤ n) then kept (sum +ℤ c *ℤ n) else None

-- the end of x's interval that decides how far c * x goes to one side
abbrev pub needed : Side → ℤ → Interval → Option ℤ
needed Least c i = if int_lt (pos 0) c then i.least else i.greatest
needed Greatest c i = if int_lt (pos 0) c then i.greatest else i.least

-- the sum so far with a product; it is absent where one of them is absent, or a number is not in range
abbrev pub plus_bound : Option ℤ → ℤ → Option ℤ → Option ℤ
plus_bound (Some sum) c (Some n) = kept_product sum c n
plus_bound (Some sum) c None = None
plus_bound None c n = None

abbrev pub plus_term : Side → List Interval → Option ℤ → ℕ × ℤ → Option ℤ
plus_term side bs sum t = plus_bound sum t.1 (needed side t.1 (interval_at bs t.0))

-- the sum with the terms, one after the other
abbrev pub plus_terms : Side → List Interval → Option ℤ → List (ℕ × ℤ) → Option ℤ
plus_terms side bs sum [] = sum
plus_terms side bs sum (t ∷ ts) = plus_terms side bs (plus_term side bs sum t) ts

-- the sum with the choice's bound
abbrev pub plus_choice : Option ℤ → Option ℤ → Option ℤ
plus_choice (Some sum) (Some n) = kept (sum +ℤ n)
plus_choice (Some sum) None = None
plus_choice None n = None

-- the end of a form and a choice on one side: the constant, then the variables in order, then the choice's bound
abbrev pub end_of_form : Side → List Interval → Linear → Option ℤ → Option ℤ
end_of_form side bs form choice = plus_choice (plus_terms side bs (Some form.constant) (terms_of form)) choice
