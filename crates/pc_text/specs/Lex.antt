-- The tokens of a text, or its lexical fault, as a function.
use Rattle.std.specs.Prelude.{ℕ, zero, suc, ◌+◌, ◌-◌, if◌then◌else◌, nat_lt, List, [], ◌∷◌, ◌++◌, length, take, slice_index, Option, Some, None, Result, Ok, Err, pos}
use Rattle.pc_text.specs.declared.lexeme.Form.{Form}
use Rattle.pc_text.specs.declared.lexeme.Form.TheVariants as form
use Rattle.pc_text.specs.declared.token.Kind.{Kind}
use Rattle.pc_text.specs.declared.token.Kind.TheVariants as kind
use Rattle.pc_text.specs.declared.token.Token.{Token}
use Rattle.pc_text.specs.declared.token.LexFault.{LexFault}
use Rattle.pc_text.specs.declared.token.LexFault.TheVariants.{BadByte, LiteralTooBig, NameTooLong}
use Rattle.pc_text.specs.declared.token.TheConstants.{LARGEST, NAME_BYTES}
use Rattle.pc_text.specs.declared.place.Place.{Place}
use Rattle.pc_text.specs.Bytes.{Bytes}
use Rattle.pc_text.specs.Digits.{natural_of}
use Rattle.pc_text.specs.Places.{place_of}
use Rattle.pc_text.specs.Lexemes.{word_kind, with_token}
use Rattle.pc_text.specs.Longest.{longest}

-- the kind of a lexeme's token, if it is one, or the fault of a lexeme that is past a limit
abbrev pub kind_at : Place → Form → Bytes → Result (Option Kind) LexFault
kind_at p form.Blank w = Ok None
kind_at p form.Comment w = Ok None
kind_at p form.Word w = if nat_lt NAME_BYTES (length w) then Err (NameTooLong p) else Ok (Some (word_kind w))
kind_at p form.Number w = if nat_lt LARGEST (natural_of w) then Err (LiteralTooBig p) else Ok (Some (kind.Number (pos (natural_of w))))
kind_at p form.Sign w = Ok (Some kind.Sign)

-- a piece's kind and length
abbrev pub with_length : ℕ → Result (Option Kind) LexFault → Result (Option Kind × ℕ) LexFault
with_length n (Ok k) = Ok (k, n)
with_length n (Err e) = Err e

-- what stands at a place whose longest lexeme is known
abbrev pub piece_of : Place → Bytes → Option (Form × ℕ) → Result (Option Kind × ℕ) LexFault
piece_of p i None = Err (BadByte p (slice_index i 0))
piece_of p i (Some x) = with_length x.1 (kind_at p x.0 (take x.1 i))

-- what stands at an offset of the text `s`, where its rest is given: the kind of a token, if it is one, and a length
abbrev pub piece_at : Bytes → ℕ → Bytes → Result (Option Kind × ℕ) LexFault
piece_at s at i = piece_of (place_of s at) i (longest i)

abbrev pub with_front : Option Kind → ℕ → ℕ → Result (List Token) LexFault → Result (List Token) LexFault
with_front k at to (Ok ts) = Ok (with_token k at to ts)
with_front k at to (Err e) = Err e

-- a piece, and what is read behind it
abbrev pub with_piece : ℕ → Result (Option Kind × ℕ) LexFault → (ℕ → Result (List Token) LexFault) → Result (List Token) LexFault
with_piece at (Ok x) again = with_front x.0 at (at + x.1) (again (x.1 - 1))
with_piece at (Err e) again = Err e

-- the tokens of the rest of the text `s` at an offset, behind so many bytes of a piece that is read
abbrev pub lex_from : Bytes → ℕ → ℕ → Bytes → Result (List Token) LexFault
lex_from s k at [] = Ok []
lex_from s (suc k) at (b ∷ r) = lex_from s k (at + 1) r
lex_from s zero at (b ∷ r) = with_piece at (piece_at s at (b ∷ r)) (λ k. lex_from s k (at + 1) r)

-- the tokens of a text, or its fault
unfoldable pub lex : Bytes → Result (List Token) LexFault
lex s = lex_from s 0 0 s

-- ---- in the lexer's loop: what was found, then a piece and the rest

abbrev pub more : List Token → Option Kind → ℕ → ℕ → List Token
more found None at to = found
more found (Some k) at to = found ++ record { kind = k; «from» = at; to = to } ∷ []

abbrev pub with_found : List Token → Result (List Token) LexFault → Result (List Token) LexFault
with_found found (Ok ts) = Ok (found ++ ts)
with_found found (Err e) = Err e
