-- A word says a number that a row may hold, or it has none.
use Rattle.std.proofs.Common.{◌≡◌, ap, cond, ℤ, arith}
use Rattle.std.proofs.lemmas.Bool.Decides.{nat_tests}
use Rattle.pc_rows.specs.Linear.{in_range}
use Rattle.pc_text.specs.declared.numerals.Word.TheVariants as word
use Rattle.pc_text.specs.Bytes.{Bytes}
use Rattle.pc_text.specs.Numerals.{integer_of, is_in_range}
use Rattle.pc_text.specs.Words.{is_numeral, word_of}

-- the numbers that texts and rows may hold are the same
same_range : (z : ℤ) → is_in_range z ≡ in_range z
same_range z = grind (arith, nat_tests)

pub word_is : (w : Bytes) → word_of w ≡ cond (is_numeral w) (cond (in_range (integer_of w)) (word.Number (integer_of w)) word.Past) word.Other
word_is w = ap (λ t. cond (is_numeral w) (cond t (word.Number (integer_of w)) word.Past) word.Other) (same_range (integer_of w))
