-- What a table tells at the end: a point, or multipliers.
use Rattle.std.specs.Prelude.{ℕ, zero, suc, ◌+◌, ◌==◌, ℤ, pos, neg_ℤ, Bool, false, List, [], ◌∷◌, ◌++◌, if◌then◌else◌}
use Rattle.pc_rows.specs.declared.row.TheConstants.{VARIABLES}
use Rattle.pc_rows.specs.declared.proof.Part.{Part}
use Rattle.pc_rows.specs.Evidence.{Point, Proof}
use Rattle.pc_rows.specs.Parts.{part_of}
use Rattle.pc_simplex.specs.declared.label.Label.{Label}
use Rattle.pc_simplex.specs.declared.label.Label.TheVariants.{Variable, Row}
use Rattle.pc_simplex.specs.Values.{Line, Table}
use Rattle.pc_simplex.specs.Choosing.{line_at}

abbrev pub is_label : Label → Label → Bool
is_label (Variable v) (Variable w) = v == w
is_label (Variable v) (Row j) = false
is_label (Row i) (Variable w) = false
is_label (Row i) (Row j) = i == j

-- the constant of the line with the label, or 0 where there is none
abbrev pub constant_of : Label → List Line → ℤ
constant_of label [] = pos 0
constant_of label (l ∷ ls) = if is_label label l.label then l.constant else constant_of label ls

-- of the n variables from v on
unfoldable pub numerators_from : ℕ → ℕ → List Line → List ℤ
numerators_from zero v ls = []
numerators_from (suc n) v ls = constant_of (Variable v) ls ∷ numerators_from n (v + 1) ls

-- a variable that labels a line is that line's constant over the denominator, and every other is 0
abbrev pub point_at : ℤ → List Line → Point
point_at d ls = record { numerators = numerators_from VARIABLES 0 ls; denominator = d }

abbrev pub point_of : Table → Point
point_of t = point_at t.denominator t.lines

-- the number in the column with the label, or 0 where there is none
abbrev pub number_of : Label → List Label → List ℤ → ℤ
number_of label [] xs = pos 0
number_of label (c ∷ cs) [] = pos 0
number_of label (c ∷ cs) (x ∷ xs) = if is_label label c then x else number_of label cs xs

-- what row i is multiplied by where line l is stuck: the denominator for its own label, and the opposite of its number for that of a column
abbrev pub multiplier_of : Table → Line → ℕ → ℤ
multiplier_of t l i = if is_label (Row i) l.label then t.denominator else neg_ℤ (number_of (Row i) t.columns l.numbers)

-- of the n rows from i on
abbrev pub parts_from : Table → Line → ℕ → ℕ → List Part
parts_from t l zero i = []
parts_from t l (suc n) i = part_of i (multiplier_of t l i) ++ parts_from t l n (i + 1)

-- so many premises, and then the negated goal
abbrev pub proof_of : ℕ → Table → ℕ → Proof
proof_of premises t r = record { goal = multiplier_of t (line_at t r) premises; parts = parts_from t (line_at t r) premises 0 }
