-- Linear rows over the variables, with unbounded integers: what they say of a state, and their sums and multiples.
use Rattle.std.specs.Prelude.{◌≡◌, ◌==◌, ◌&&◌, ℕ, zero, suc, ◌<◌, ◌≤◌, ◌^◌, nat_lt, Bool, false, ℤ, pos, negsuc, ◌+ℤ◌, ◌-ℤ◌, ◌*ℤ◌, neg_ℤ, ◌≤ℤ◌, unsigned_abs, List, [], ◌∷◌, length, replicate, slice_set, slice_index_or, Result, Ok, Err, if◌then◌else◌, ◌⊎◌}
use Rattle.std.specs.List.{AllByRecursion, list_all}
use Rattle.pc_rows.specs.declared.row.TheConstants.{VARIABLES}

-- a number is in range: of at most 127 bits beside its sign
abbrev pub InRange : ℤ → Type 0
InRange z = unsigned_abs z < 2 ^ 127

abbrev pub AllInRange : List ℤ → Type 0
AllInRange zs = AllByRecursion InRange zs

-- the same as a test
abbrev pub in_range : ℤ → Bool
in_range z = nat_lt (unsigned_abs z) (2 ^ 127)

abbrev pub is_zero : ℤ → Bool
is_zero (pos n) = n == 0
is_zero (negsuc n) = false

-- the sums by place, where what is missing is 0
abbrev pub add_lists : List ℤ → List ℤ → List ℤ
add_lists [] bs = bs
add_lists (a ∷ as') [] = a ∷ as'
add_lists (a ∷ as') (b ∷ bs) = (a +ℤ b) ∷ add_lists as' bs

-- each number times k
abbrev pub scale_list : ℤ → List ℤ → List ℤ
scale_list k [] = []
scale_list k (a ∷ as') = (k *ℤ a) ∷ scale_list k as'

-- the opposite of each number
abbrev pub negate_list : List ℤ → List ℤ
negate_list [] = []
negate_list (a ∷ as') = neg_ℤ a ∷ negate_list as'

-- the sum of the products by place
abbrev pub dot : List ℤ → List ℤ → ℤ
dot [] xs = pos 0
dot (c ∷ cs) [] = pos 0
dot (c ∷ cs) (x ∷ xs) = c *ℤ x +ℤ dot cs xs

-- a row: a constant, and a coefficient for each variable in order
pub record Linear : Type 0 where
  pub constant : ℤ
  pub coefficients : List ℤ

-- a state is the list of the variables' values
abbrev pub State : Type 0
State = List ℤ

-- the constant plus the sum of the coefficients times the variables
abbrev pub value : Linear → State → ℤ
value r s = r.constant +ℤ dot r.coefficients s

-- a row is met where its value is at least 0
abbrev pub Meets : State → Linear → Type 0
Meets s r = pos 0 ≤ℤ value r s

-- rows are met where each of them is
abbrev pub MeetsAll : State → List Linear → Type 0
MeetsAll s rows = AllByRecursion (Meets s) rows

-- a condition, a list of alternatives, is met where the rows of some alternative are
abbrev pub MeetsSome : State → List (List Linear) → Type 0
MeetsSome s [] = ⊥
MeetsSome s (rows ∷ alternatives) = MeetsAll s rows ⊎ MeetsSome s alternatives

-- the coefficient of variable v, which is 0 where the row has none
abbrev pub coefficient : Linear → ℕ → ℤ
coefficient r v = slice_index_or r.coefficients v (pos 0)

-- the row c, without variables
abbrev pub of_constant : ℤ → Linear
of_constant c = record { constant = c; coefficients = replicate VARIABLES (pos 0) }

-- the row with c as its coefficient at v
abbrev pub with_coefficient : Linear → ℕ → ℤ → Linear
with_coefficient r v c = record { constant = r.constant; coefficients = slice_set r.coefficients v c }

-- a + b
abbrev pub sum_of : Linear → Linear → Linear
sum_of a b = record { constant = a.constant +ℤ b.constant; coefficients = add_lists a.coefficients b.coefficients }

-- k * r
abbrev pub scaled_by : ℤ → Linear → Linear
scaled_by k r = record { constant = k *ℤ r.constant; coefficients = scale_list k r.coefficients }

-- -r
abbrev pub opposite_of : Linear → Linear
opposite_of r = record { constant = neg_ℤ r.constant; coefficients = negate_list r.coefficients }

-- a - b
abbrev pub difference_of : Linear → Linear → Linear
difference_of a b = sum_of a (opposite_of b)

-- a - b - 1, which is met exactly where a is above b
abbrev pub above_of : Linear → Linear → Linear
above_of a b = record { constant = a.constant -ℤ b.constant -ℤ pos 1; coefficients = add_lists a.coefficients (negate_list b.coefficients) }

-- the numbers with 0 at every place from n on
abbrev pub zero_from : ℕ → List ℤ → List ℤ
zero_from n [] = []
zero_from zero (a ∷ as') = pos 0 ∷ zero_from zero as'
zero_from (suc n) (a ∷ as') = a ∷ zero_from n as'

-- the row with 0 as its coefficient at every variable from number n on
abbrev pub first_of : ℕ → Linear → Linear
first_of n r = record { constant = r.constant; coefficients = zero_from n r.coefficients }

-- a row over the first n variables: no coefficient is other than 0 from variable n on
abbrev pub IsOver : ℕ → Linear → Type 0
IsOver n r = (v : ℕ) → n ≤ v → coefficient r v ≡ pos 0

-- a row without variables: no coefficient is other than 0
abbrev pub IsNumber : Linear → Type 0
IsNumber r = AllByRecursion (λ c. c ≡ pos 0) r.coefficients

-- the same as a test
abbrev pub is_number : Linear → Bool
is_number r = list_all is_zero r.coefficients

-- -r - 1, the row that is met exactly where r is not
abbrev pub negation : Linear → Linear
negation r = record { constant = neg_ℤ r.constant -ℤ pos 1; coefficients = negate_list r.coefficients }

-- the constant and each coefficient are in range
abbrev pub IsInRange : Linear → Type 0
IsInRange r = InRange r.constant × AllInRange r.coefficients

-- the same as a test
abbrev pub is_in_range : Linear → Bool
is_in_range r = in_range r.constant && list_all in_range r.coefficients

-- the row, or the fault where one of its numbers is not in range
abbrev pub fits : {E : Type 0} → E → Linear → Result Linear E
fits fault r = if is_in_range r then Ok r else Err fault

-- what every row of the code keeps
pub record IsRow (r : Linear) : Type 0 where
  pub wide : length r.coefficients ≡ VARIABLES
  pub in_range : IsInRange r
