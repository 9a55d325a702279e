-- The texts of lines, each a list of words.
use Rattle.std.specs.Prelude.{ℕ, ◌+◌, pos, List, [], ◌∷◌, ◌++◌, map, take, codes}
use Rattle.std.specs.List.{flat_map, join_by}
use Rattle.pc_rows.specs.Linear.{Linear}
use Rattle.pc_rows.specs.Evidence.{Proof}
use Rattle.pc_text.specs.Bytes.{Bytes}
use Rattle.pc_text.specs.Numerals.{numeral}
use Rattle.pc_text.specs.Words.{Words}
use Rattle.pc_lines.specs.declared.sizes.Sizes.{Sizes}

-- the words of counts behind a name
abbrev pub counts : Bytes → List ℕ → Words
counts name ns = name ∷ map (λ n. numeral (pos n)) ns

-- the numbers of points, edges and variables
abbrev pub sizes_line : Sizes → Words
sizes_line z = counts (codes "graph") (z.points ∷ z.edges ∷ z.variables ∷ [])

-- the constant, and the coefficients of the variables that there are
abbrev pub row_line : ℕ → Linear → Words
row_line variables r = map numeral (r.constant ∷ take variables r.coefficients)

-- the multiplier of the goal, and then for each part its index and its multiplier
abbrev pub proof_line : Proof → Words
proof_line p = numeral p.goal ∷ flat_map (λ part. numeral (pos part.index) ∷ numeral part.multiplier ∷ []) p.parts

-- the lines of items that are numbered from n on
abbrev pub numbered : {A : Type 0} → (ℕ → A → List Words) → ℕ → List A → List Words
numbered lines n [] = []
numbered lines n (x ∷ xs) = lines n x ++ numbered lines (n + 1) xs

-- words parted by one space each, and a line feed
abbrev pub line_text : Words → Bytes
line_text words = join_by (λ w. w) (codes " ") words ++ codes "\n"

abbrev pub lines_text : List Words → Bytes
lines_text lines = flat_map line_text lines
