-- Pieces of a text that tell a number.
use Rattle.std.specs.Prelude.{◌++◌, ℕ, pos}
use Rattle.pc_text.specs.Bytes.{Bytes}
use Rattle.pc_text.specs.Numerals.{numeral}

-- a number, between what stands before it and behind it
unfoldable pub counted : Bytes → ℕ → Bytes → Bytes
counted before n behind = before ++ numeral (pos n) ++ behind
