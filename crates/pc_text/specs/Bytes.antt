-- Texts.
use Rattle.std.specs.Prelude.{ℕ, List}

-- the bytes of a text
abbrev pub Bytes : Type 0
Bytes = List ℕ
