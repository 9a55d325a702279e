-- What a pivot makes of a table.
use Rattle.std.specs.Prelude.{ℕ, ◌+◌, ◌==◌, ◌&&◌, ℤ, pos, ◌-ℤ◌, ◌*ℤ◌, neg_ℤ, int_lt, int_div, int_rem, Bool, true, false, List, [], ◌∷◌, Option, Some, None, slice_index_or, slice_set, if◌then◌else◌, ◌≡◌, Result, Ok, Err}
use Rattle.pc_rows.specs.Linear.{is_zero, in_range}
use Rattle.pc_rows.specs.declared.number.Past.{Past}
use Rattle.pc_simplex.specs.declared.label.Label.{Label}
use Rattle.pc_simplex.specs.declared.label.Label.TheVariants.{Variable}
use Rattle.pc_simplex.specs.Values.{Line, Table, Pivot}
use Rattle.pc_simplex.specs.Choosing.{line_at, number_at}

-- the number that is exchanged, and whether it is above 0
abbrev pub entry : Pivot → ℤ
entry p = number_at p.line p.column

abbrev pub is_up : Pivot → Bool
is_up p = int_lt (pos 0) (entry p)

-- z times n, where z is 1 or -1
abbrev pub signed : Bool → ℤ → ℤ
signed true n = n
signed false n = neg_ℤ n

-- z * (a * x - b * y) / d, where a is the number exchanged, x the number to be changed, b that of its line in the column of the pivot, and y that of its column in the line of the pivot
abbrev pub cell : Pivot → ℤ → ℤ → ℤ → ℤ
cell p b x y = signed (is_up p) (int_div (entry p *ℤ x -ℤ b *ℤ y) p.denominator)

-- both products, the difference and the quotient are in range, and the quotient is whole
abbrev pub cell_fits : Pivot → ℤ → ℤ → ℤ → Bool
cell_fits p b x y =
    in_range (entry p *ℤ x) && in_range (b *ℤ y) && in_range (entry p *ℤ x -ℤ b *ℤ y)
    && is_zero (int_rem (entry p *ℤ x -ℤ b *ℤ y) p.denominator)
    && in_range (int_div (entry p *ℤ x -ℤ b *ℤ y) p.denominator)

-- a number of another line, where here says whether it stands in the column of the pivot
abbrev pub number_after : Pivot → ℤ → Bool → ℤ → ℤ → ℤ
number_after p b true x y = signed (is_up p) x
number_after p b false x y = cell p b x y

abbrev pub number_fits : Pivot → ℤ → Bool → ℤ → ℤ → Bool
number_fits p b true x y = true
number_fits p b false x y = cell_fits p b x y

-- the numbers of another line from column k on
abbrev pub numbers_after : Pivot → ℤ → ℕ → List ℤ → List ℤ → List ℤ
numbers_after p b k [] ys = []
numbers_after p b k (x ∷ xs) [] = []
numbers_after p b k (x ∷ xs) (y ∷ ys) = number_after p b (k == p.column) x y ∷ numbers_after p b (k + 1) xs ys

abbrev pub numbers_fit : Pivot → ℤ → ℕ → List ℤ → List ℤ → Bool
numbers_fit p b k [] ys = true
numbers_fit p b k (x ∷ xs) [] = true
numbers_fit p b k (x ∷ xs) (y ∷ ys) = number_fits p b (k == p.column) x y && numbers_fit p b (k + 1) xs ys

-- another line
abbrev pub other_after : Pivot → Line → Line
other_after p l =
    record {
      label = l.label;
      constant = cell p (number_at l p.column) l.constant p.line.constant;
      numbers = numbers_after p (number_at l p.column) 0 l.numbers p.line.numbers;
    }

abbrev pub other_fits : Pivot → Line → Bool
other_fits p l =
    cell_fits p (number_at l p.column) l.constant p.line.constant
    && numbers_fit p (number_at l p.column) 0 l.numbers p.line.numbers

-- the numbers of the line of the pivot from column k on: z * d in the column of the pivot, and elsewhere -z times the number
abbrev pub own_number : Pivot → Bool → ℤ → ℤ
own_number p true x = signed (is_up p) p.denominator
own_number p false x = neg_ℤ (signed (is_up p) x)

abbrev pub own_numbers : Pivot → ℕ → List ℤ → List ℤ
own_numbers p k [] = []
own_numbers p k (x ∷ xs) = own_number p (k == p.column) x ∷ own_numbers p (k + 1) xs

-- the line of the pivot, which gets the label of the column
abbrev pub own_after : Pivot → Label → Line
own_after p label = record { label = label; constant = neg_ℤ (signed (is_up p) p.line.constant); numbers = own_numbers p 0 p.line.numbers }

-- a line, where here says whether it is that of the pivot
abbrev pub line_after : Pivot → Label → Bool → Line → Line
line_after p label true l = own_after p label
line_after p label false l = other_after p l

abbrev pub line_fits : Pivot → Bool → Line → Bool
line_fits p true l = true
line_fits p false l = other_fits p l

-- the lines from line i on, where r is the line of the pivot
abbrev pub lines_after : Pivot → Label → ℕ → ℕ → List Line → List Line
lines_after p label r i [] = []
lines_after p label r i (l ∷ ls) = line_after p label (i == r) l ∷ lines_after p label r (i + 1) ls

abbrev pub lines_fit : Pivot → ℕ → ℕ → List Line → Bool
lines_fit p r i [] = true
lines_fit p r i (l ∷ ls) = line_fits p (i == r) l && lines_fit p r (i + 1) ls

-- the pivot at line r and column j
abbrev pub pivot_at : Table → ℕ → ℕ → Pivot
pivot_at t r j = record { denominator = t.denominator; column = j; line = line_at t r }

-- line r and column j are exchanged
abbrev pub exchanged : Table → ℕ → ℕ → Table
exchanged t r j =
    record {
      denominator = signed (is_up (pivot_at t r j)) (entry (pivot_at t r j));
      columns = slice_set t.columns j (line_at t r).label;
      lines = lines_after (pivot_at t r j) (slice_index_or t.columns j (Variable 0)) r 0 t.lines;
    }

-- all that is computed for it is in range and whole
abbrev pub exchange_fits : Table → ℕ → ℕ → Bool
exchange_fits t r j = lines_fit (pivot_at t r j) r 0 t.lines

-- the table after the pivot, or nothing where something does not fit
abbrev pub pivoted : Table → ℕ → ℕ → Option Table
pivoted t r j = if exchange_fits t r j then Some (exchanged t r j) else None

-- a value is changed in place, unless something does not fit
abbrev pub ChangeIs : {A : Type 0} → Bool → A → Result (Unit {0}) Past → A → Type 0
ChangeIs fits after (Ok u) new = (fits ≡ true) × (new ≡ after)
ChangeIs fits after (Err e) new = fits ≡ false
