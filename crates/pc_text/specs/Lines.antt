-- The lines of a text, one after another.
use Rattle.std.specs.Prelude.{◌≡◌, ℕ, Bool, true, false, List, [], ◌∷◌, ◌++◌}
use Rattle.std.specs.List.{slice_split}
use Rattle.pc_text.specs.Bytes.{Bytes}
use Rattle.pc_text.specs.Lexemes.{in_line, EachPasses}
use Rattle.pc_text.specs.Places.{is_line_feed}

-- the lines of a text, each ended by a line feed, and what follows the last
abbrev pub lines : Bytes → List Bytes
lines b = slice_split is_line_feed b

-- what is left of a text, and the number of the line that comes next
pub record Left : Type 0 where
  pub rest : Bytes
  pub number : ℕ

-- the text begins with this line, which a line feed ends or not, and the rest follows
abbrev pub IsLine : Bytes → Bytes → Bool → Bytes → Type 0
IsLine b line true rest = (b ≡ line ++ 10 ∷ rest) × EachPasses in_line line
IsLine b line false rest = (b ≡ line) × (rest ≡ []) × EachPasses in_line line
