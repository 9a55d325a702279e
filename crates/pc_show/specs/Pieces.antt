-- What a canonical text is made of: blanks, ends of lines, and the spellings of tokens.
use Rattle.std.specs.Prelude.{ℕ, ℤ, List, [], ◌∷◌, codes, replicate}
use Rattle.std.specs.List.{flat_map}
use Rattle.pc_text.specs.Bytes.{Bytes}
use Rattle.pc_text.specs.Numerals.{numeral}
use Rattle.pc_language.specs.declared.terminal.Terminal.{Terminal}
use Rattle.pc_language.specs.declared.terminal.Terminal.TheVariants as terminal

-- so many spaces; the end of a line; a keyword or a sign; a name; a number
pub data Piece : Type 0 where
  Blank : ℕ → Piece
  LineEnd : Piece
  Mark : Terminal → Piece
  Name : Bytes → Piece
  Number : ℤ → Piece

-- the spelling of a keyword or a sign; names and numbers have no one spelling
abbrev pub spelling : Terminal → Bytes
spelling terminal.Name = []
spelling terminal.Number = []
spelling terminal.Entry = codes "entry"
spelling terminal.Var = codes "var"
spelling terminal.If = codes "if"
spelling terminal.Else = codes "else"
spelling terminal.While = codes "while"
spelling terminal.Try = codes "try"
spelling terminal.Assert = codes "assert"
spelling terminal.Assume = codes "assume"
spelling terminal.OpenParen = codes "("
spelling terminal.CloseParen = codes ")"
spelling terminal.OpenBrace = codes "{"
spelling terminal.CloseBrace = codes "}"
spelling terminal.OpenBracket = codes "["
spelling terminal.CloseBracket = codes "]"
spelling terminal.Comma = codes ","
spelling terminal.Semicolon = codes ";"
spelling terminal.Assign = codes "="
spelling terminal.Equal = codes "=="
spelling terminal.Unequal = codes "!="
spelling terminal.Less = codes "<"
spelling terminal.AtMost = codes "<="
spelling terminal.Greater = codes ">"
spelling terminal.AtLeast = codes ">="
spelling terminal.Plus = codes "+"
spelling terminal.Minus = codes "-"
spelling terminal.Star = codes "*"
spelling terminal.And = codes "&&"

-- so many spaces
abbrev pub blanks : ℕ → Bytes
blanks n = replicate n 32

abbrev pub spelled : Piece → Bytes
spelled (Blank n) = blanks n
spelled LineEnd = 10 ∷ []
spelled (Mark t) = spelling t
spelled (Name w) = w
spelled (Number z) = numeral z

-- the bytes of pieces, one after the other
abbrev pub bytes_of : List Piece → Bytes
bytes_of ps = flat_map spelled ps
