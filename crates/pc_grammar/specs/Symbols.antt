-- What tokens stand for in the grammar.
use Rattle.std.specs.Prelude.{ℕ, ℤ, pos, cond, nat_eq, List, [], ◌∷◌, map, bytes_eq, codes, slice_range}
use Rattle.pc_text.specs.declared.token.Kind.{Kind}
use Rattle.pc_text.specs.declared.token.Kind.TheVariants as kind
use Rattle.pc_text.specs.declared.token.Token.{Token}
use Rattle.pc_text.specs.Bytes.{Bytes}
use Rattle.pc_text.specs.Places.{place_of}
use Rattle.pc_grammar.specs.declared.symbol.Symbol.{Symbol}
use Rattle.pc_language.specs.declared.terminal.Terminal.{Terminal}
use Rattle.pc_language.specs.declared.terminal.Terminal.TheVariants as terminal

-- the terminal of a keyword's text
unfoldable pub keyword_of : Bytes → Terminal
keyword_of w =
    cond (bytes_eq w (codes "entry")) terminal.Entry
    (cond (bytes_eq w (codes "var")) terminal.Var
    (cond (bytes_eq w (codes "if")) terminal.If
    (cond (bytes_eq w (codes "else")) terminal.Else
    (cond (bytes_eq w (codes "while")) terminal.While
    (cond (bytes_eq w (codes "try")) terminal.Try
    (cond (bytes_eq w (codes "assert")) terminal.Assert terminal.Assume))))))

-- the terminal of a sign of one byte: ( ) { } [ ] , ; = < > + - *
unfoldable pub byte_sign : ℕ → Terminal
byte_sign b =
    cond (nat_eq b 40) terminal.OpenParen
    (cond (nat_eq b 41) terminal.CloseParen
    (cond (nat_eq b 123) terminal.OpenBrace
    (cond (nat_eq b 125) terminal.CloseBrace
    (cond (nat_eq b 91) terminal.OpenBracket
    (cond (nat_eq b 93) terminal.CloseBracket
    (cond (nat_eq b 44) terminal.Comma
    (cond (nat_eq b 59) terminal.Semicolon
    (cond (nat_eq b 61) terminal.Assign
    (cond (nat_eq b 60) terminal.Less
    (cond (nat_eq b 62) terminal.Greater
    (cond (nat_eq b 43) terminal.Plus
    (cond (nat_eq b 45) terminal.Minus terminal.Star))))))))))))

-- the terminal of a sign of two bytes
unfoldable pub pair_sign : Bytes → Terminal
pair_sign w =
    cond (bytes_eq w (codes "==")) terminal.Equal
    (cond (bytes_eq w (codes "!=")) terminal.Unequal
    (cond (bytes_eq w (codes "<=")) terminal.AtMost
    (cond (bytes_eq w (codes ">=")) terminal.AtLeast terminal.And)))

abbrev pub sign_of : Bytes → Terminal
sign_of (b ∷ []) = byte_sign b
sign_of w = pair_sign w

abbrev pub terminal_of : Kind → Bytes → Terminal
terminal_of kind.Keyword w = keyword_of w
terminal_of kind.Name w = terminal.Name
terminal_of (kind.Number n) w = terminal.Number
terminal_of kind.Sign w = sign_of w

-- the value of a number, and 0 of every other token
abbrev pub value_of : Kind → ℤ
value_of (kind.Number n) = n
value_of _ = pos 0

-- a token of the text `s`
abbrev pub symbol_of : Bytes → Token → Symbol
symbol_of s t = record {
  terminal = terminal_of t.kind (slice_range s t.«from» t.to);
  number = value_of t.kind;
  «from» = t.«from»;
  to = t.to;
  place = place_of s t.«from»;
}

abbrev pub symbols_of : Bytes → List Token → List Symbol
symbols_of s ts = map (symbol_of s) ts
