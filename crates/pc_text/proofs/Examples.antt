-- The definitions at small texts.
use Rattle.std.proofs.Common.{◌≡◌, [], ◌∷◌, codes, refl, Ok, Err, Some, None, pos, negsuc}
use Rattle.pc_text.specs.declared.token.Kind.TheVariants as kind
use Rattle.pc_text.specs.declared.token.LexFault.TheVariants.{BadByte, LiteralTooBig}
use Rattle.pc_text.specs.Lexemes.{class, is_keyword}
use Rattle.pc_text.specs.Places.{place_of}
use Rattle.pc_text.specs.Lex.{lex}
use Rattle.pc_text.specs.Numerals.{numeral, read_at}

tokens : lex (codes "if x1<=007// y")
    ≡ Ok (record { kind = kind.Keyword; «from» = 0; to = 2 }
    ∷ record { kind = kind.Name; «from» = 3; to = 5 }
    ∷ record { kind = kind.Sign; «from» = 5; to = 7 }
    ∷ record { kind = kind.Number (pos 7); «from» = 7; to = 10 }
    ∷ [])
unfolding lex class is_keyword place_of
tokens = refl

-- a lone & on the second line
lone : lex (codes "a\n b & c") ≡ Err (BadByte (record { line = 2; column = 4 }) 38)
unfolding lex class is_keyword place_of
lone = refl

-- 2^127, the first number past the limit
big : lex (codes "170141183460469231731687303715884105728") ≡ Err (LiteralTooBig (record { line = 1; column = 1 }))
unfolding lex class is_keyword place_of
big = refl

written : numeral (negsuc 41) ≡ codes "-42"
unfolding numeral
written = refl

read : read_at (codes "x -42,") 2 ≡ Some (negsuc 41, 5)
unfolding class
read = refl

-- a sign before 0, and a 0 before a digit
signed : read_at (codes "-0") 0 ≡ None
unfolding class
signed = refl

leading : read_at (codes "07") 0 ≡ Some (pos 0, 1)
unfolding class
leading = refl
