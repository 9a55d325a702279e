-- The text of a condition determines the condition.
use Rattle.std.specs.Prelude.{◌≡◌, List, length, All}
use Rattle.pc_text.specs.declared.lexeme.Form.TheVariants as form
use Rattle.pc_text.specs.Bytes.{Bytes}
use Rattle.pc_text.specs.Lexemes.{HasForm}
use Rattle.pc_text.specs.Named.{AreDistinct}
use Rattle.pc_rows.specs.Linear.{Linear, IsOver}
use Rattle.pc_rows.specs.declared.row.TheConstants.{VARIABLES}
use Rattle.pc_condition.specs.Conditions.{lines_text, condition_text}

-- words of the language that differ
pub record AreNames (names : List Bytes) : Type 0 where
  pub words : All (HasForm form.Word) names
  pub distinct : AreDistinct names

-- a row over these names: a coefficient for each variable, and none other than 0 past the names
pub record IsOverNames (names : List Bytes) (r : Linear) : Type 0 where
  pub wide : length r.coefficients ≡ VARIABLES
  pub within : IsOver (length names) r

-- a condition over these names
abbrev pub AreOver : List Bytes → List (List Linear) → Type 0
AreOver names = All (All (IsOverNames names))

-- over the same names, and behind the same word, no two lists of rows have the same lines
abbrev pub LinesDetermineRows : Type 0
LinesDetermineRows =
    (word : Bytes) (names : List Bytes) (a b : List (List Linear)) →
    AreNames names → AreOver names a → AreOver names b →
    lines_text word names a ≡ lines_text word names b → a ≡ b

-- over the same names no two conditions have one text
abbrev pub TextDeterminesCondition : Type 0
TextDeterminesCondition =
    (names : List Bytes) (a b : List (List Linear)) →
    AreNames names → AreOver names a → AreOver names b →
    condition_text names a ≡ condition_text names b → a ≡ b
