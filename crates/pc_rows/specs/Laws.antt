-- What all that stands on rows cites of them.
use Rattle.std.specs.Prelude.{◌≡◌, ◌↔◌, ℕ, ◌+◌, ◌*◌, ◌^◌, ◌<◌, true, ℤ, pos, ◌+ℤ◌, ◌-ℤ◌, ◌*ℤ◌, neg_ℤ, ◌<ℤ◌, List, ◌++◌, length, replicate, slice_index_or, Option, MatchOption}
use Rattle.std.specs.List.{AllByRecursion}
use Rattle.pc_rows.specs.Linear.{Linear, State, value, Meets, MeetsAll, sum_of, difference_of, scaled_by, negation, above_of, zero_from, first_of, IsOver, is_number, IsNumber, coefficient, of_constant, with_coefficient, is_in_range, IsInRange}
use Rattle.pc_rows.specs.Bounds.{IsWithin, Within, AllWithin}
use Rattle.pc_rows.specs.Substitution.{substituted, SubstituteFits, AllSuccessorsMeet, AreOrdered}
use Rattle.pc_rows.specs.Joins.{joined, is_covered, IsCovered}
use Rattle.pc_rows.specs.Evidence.{Proof, Point}
use Rattle.pc_rows.specs.Shows.{Shows}
use Rattle.pc_rows.specs.Points.{Refutes}

-- the value of variable v
abbrev pub at : State → ℕ → ℤ
at s v = slice_index_or s v (pos 0)

abbrev pub ValueOfConstant : Type 0
ValueOfConstant = (c : ℤ) (s : State) → value (of_constant c) s ≡ c

-- a coefficient is exchanged for another
abbrev pub ValueOfCoefficient : Type 0
ValueOfCoefficient = (r : Linear) (v : ℕ) (c : ℤ) (s : State) → v < length r.coefficients →
    value (with_coefficient r v c) s +ℤ coefficient r v *ℤ at s v ≡ value r s +ℤ c *ℤ at s v

-- where a variable is 0 its coefficient does not matter
abbrev pub ValueAtZero : Type 0
ValueAtZero = (r : Linear) (v : ℕ) (c : ℤ) (s : State) → at s v ≡ pos 0 → value (with_coefficient r v c) s ≡ value r s

abbrev pub ValueOfSum : Type 0
ValueOfSum = (a b : Linear) (s : State) → value (sum_of a b) s ≡ value a s +ℤ value b s

abbrev pub ValueOfDifference : Type 0
ValueOfDifference = (a b : Linear) (s : State) → value (difference_of a b) s ≡ value a s -ℤ value b s

abbrev pub ValueOfMultiple : Type 0
ValueOfMultiple = (k : ℤ) (r : Linear) (s : State) → value (scaled_by k r) s ≡ k *ℤ value r s

abbrev pub ValueOfNegation : Type 0
ValueOfNegation = (r : Linear) (s : State) → value (negation r) s ≡ neg_ℤ (value r s) -ℤ pos 1

-- a - b - 1
abbrev pub ValueOfAbove : Type 0
ValueOfAbove = (a b : Linear) (s : State) → value (above_of a b) s ≡ value a s -ℤ value b s -ℤ pos 1

-- it is met exactly where a is above b
abbrev pub AboveIsExact : Type 0
AboveIsExact = (a b : Linear) (s : State) → Meets s (above_of a b) ↔ (value b s <ℤ value a s)

-- a row without its variables from n on has the value that the row has where these variables are 0
abbrev pub ValueOfFirst : Type 0
ValueOfFirst = (n : ℕ) (r : Linear) (s : State) → value (first_of n r) s ≡ value r (zero_from n s)

-- n values with zeros behind them have 0 at every place from n on
abbrev pub ZeroFromEntry : Type 0
ZeroFromEntry = (n m : ℕ) (s : State) → length s ≡ n → zero_from n (s ++ replicate m (pos 0)) ≡ s ++ replicate m (pos 0)

-- of n values, a row without its variables from n on has the value that the row has of the values with zeros behind them
abbrev pub ValueAtEntry : Type 0
ValueAtEntry = (n m : ℕ) (r : Linear) (s : State) → length s ≡ n → value (first_of n r) s ≡ value r (s ++ replicate m (pos 0))

-- a row without variables has its constant as its value at every state
abbrev pub ValueOfNumber : Type 0
ValueOfNumber = (r : Linear) (s : State) → is_number r ≡ true → value r s ≡ r.constant

-- the negation is met exactly where the row is not
abbrev pub NegationIsExact : Type 0
NegationIsExact = (r : Linear) (s : State) → Meets s (negation r) ↔ (Meets s r → ⊥)

-- the states that meet a row carried back are those all of whose successors meet the row
abbrev pub SubstitutionIsExact : Type 0
SubstitutionIsExact = (r form : Linear) (x : ℕ) (lo hi : Option ℤ) (s : State) → x < length s → AreOrdered lo hi →
    Meets s (substituted r x form lo hi) ↔ AllSuccessorsMeet s x form lo hi r

-- the test for covered rows says what is meant
abbrev pub CoveringIsMeant : Type 0
CoveringIsMeant = (r : Linear) (rows : List Linear) → (is_covered r rows ≡ true) ↔ IsCovered r rows

-- the test for rows without variables says what is meant
abbrev pub NumberIsMeant : Type 0
NumberIsMeant = (r : Linear) → (is_number r ≡ true) ↔ IsNumber r

-- a covered row is met where the rows are
abbrev pub CoveredIsMet : Type 0
CoveredIsMet = (r : Linear) (rows : List Linear) (s : State) → is_covered r rows ≡ true → MeetsAll s rows → Meets s r

-- to meet a join is to meet both lists
abbrev pub JoinIsBoth : Type 0
JoinIsBoth = (a b : List Linear) (s : State) → MeetsAll s (joined a b) ↔ (MeetsAll s a × MeetsAll s b)

-- a join has no number that neither list has
abbrev pub JoinIsWithin : Type 0
JoinIsWithin = (bound : ℕ) (a b : List Linear) → AllWithin bound a → AllWithin bound b → AllWithin bound (joined a b)

-- what is left of a row without its variables from n on is over the first n
abbrev pub FirstIsOver : Type 0
FirstIsOver = (n : ℕ) (r : Linear) → IsOver n (first_of n r)

-- a row carried back has no variable that neither it nor the form has
abbrev pub SubstitutedIsOver : Type 0
SubstitutedIsOver = (n : ℕ) (r form : Linear) (x : ℕ) (lo hi : Option ℤ) → IsOver n r → IsOver n form → IsOver n (substituted r x form lo hi)

-- a difference has no variable that neither row has
abbrev pub DifferenceIsOver : Type 0
DifferenceIsOver = (n : ℕ) (a b : Linear) → IsOver n a → IsOver n b → IsOver n (difference_of a b)

abbrev pub NegationIsOver : Type 0
NegationIsOver = (n : ℕ) (r : Linear) → IsOver n r → IsOver n (negation r)

-- a join has no row that neither list has
abbrev pub JoinIsOver : Type 0
JoinIsOver = (n : ℕ) (a b : List Linear) → AllByRecursion (IsOver n) a → AllByRecursion (IsOver n) b → AllByRecursion (IsOver n) (joined a b)

-- an end that is open, or is within the bound
abbrev pub EndIsWithin : ℕ → Option ℤ → Type 0
EndIsWithin bound end = MatchOption end (Unit {0}) (IsWithin bound)

-- a row is carried back without leaving the range where its numbers, those of the form and the closed ends are small
abbrev pub SmallSubstitutionFits : Type 0
SmallSubstitutionFits = (bound : ℕ) (r form : Linear) (x : ℕ) (lo hi : Option ℤ) → bound + bound * bound + bound * bound < 2 ^ 127 →
    Within bound r → Within bound form → EndIsWithin bound lo → EndIsWithin bound hi → SubstituteFits r x form lo hi

-- the test for rows in range says what is meant
abbrev pub RangeIsMeant : Type 0
RangeIsMeant = (r : Linear) → (is_in_range r ≡ true) ↔ IsInRange r

-- a goal that a proof shows is met where the premises are
abbrev pub ShownIsMet : Type 0
ShownIsMet = (premises : List Linear) (goal : Linear) (p : Proof) (s : State) → Shows premises goal p → MeetsAll s premises → Meets s goal

-- where a point refutes a system, no proof shows its goal
abbrev pub RefutedIsNotShown : Type 0
RefutedIsNotShown = (premises : List Linear) (goal : Linear) (p : Proof) (q : Point) → Shows premises goal p → Refutes premises goal q → ⊥
