-- Sets of bytes.
use Rattle.std.specs.Prelude.{ℕ, Bool}
use Rattle.pc_text.specs.declared.lexeme.ByteSet.{ByteSet}
use Rattle.pc_text.specs.declared.lexeme.ByteSet.TheVariants as byte_set
use Rattle.pc_text.specs.Lexemes.{in_word, in_number, in_line}

-- the set has the byte
abbrev pub contains : ByteSet → ℕ → Bool
contains byte_set.Line b = in_line b
contains byte_set.Word b = in_word b
contains byte_set.Number b = in_number b
