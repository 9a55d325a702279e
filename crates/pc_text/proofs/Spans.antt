-- The spans of a text's tokens lie in order.
use Rattle.std.proofs.Common.{◌≡◌, ◌≤◌, ◌<◌, ℕ, ◌+◌, List, [], ◌∷◌, length, Option, Some, None, ap, arith, length-append}
use Rattle.pc_text.specs.declared.lexeme.Form.{Form}
use Rattle.pc_text.specs.declared.token.Kind.{Kind}
use Rattle.pc_text.specs.declared.token.Token.{Token}
use Rattle.pc_text.specs.Bytes.{Bytes}
use Rattle.pc_text.specs.Lexemes.{HasForm, Lexeme, IsSplit, kind_of, with_token, tokens_from, AreSpans}

some_text : (f : Form) (w : Bytes) → HasForm f w → 0 < length w
some_text f [] h = absurd h
some_text f (b ∷ w) h = omega arith

pub wider : (low at high : ℕ) (ts : List Token) → low ≤ at → AreSpans at high ts → AreSpans low high ts
wider low at high [] h s = omega arith
wider low at high (t ∷ ts) h (a, b, s) = (omega arith, b, s)

pub ends_within : (low high : ℕ) (ts : List Token) → AreSpans low high ts → low ≤ high
ends_within low high [] h = h
ends_within low high (t ∷ ts) (a, b, s) = let e = ends_within t.to high ts s in omega arith

with_more : (k : Option Kind) (at to high : ℕ) (ts : List Token) → at < to → AreSpans to high ts → AreSpans at high (with_token k at to ts)
with_more None at to high ts h s = wider at to high ts (omega arith) s
with_more (Some k) at to high ts h s = (omega arith, h, s)

pub spans : (ls : List Lexeme) (b : Bytes) (at high : ℕ) → IsSplit b ls [] → high ≡ at + length b → AreSpans at high (tokens_from at ls)
spans [] b at high c e = omega arith
spans (l ∷ ls) b at high (x, c) e =
    let some = some_text l.form l.text x.formed in
    let sum : high ≡ at + length l.text + length x.rest = omega (arith, ap length x.split, length-append l.text x.rest) in
    with_more (kind_of l.form l.text) at (at + length l.text) high (tokens_from (at + length l.text) ls) (omega arith) (spans ls x.rest (at + length l.text) high c sum)
