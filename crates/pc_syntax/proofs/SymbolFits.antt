-- The symbols of a text lie within it, and their numbers are in range.
use Rattle.std.proofs.Common.{◌≡◌, ℕ, ◌+◌, ◌≤◌, pos, refl, arith, List, [], ◌∷◌, length, Bool, true, false, cond, Some, Ok}
use Rattle.std.specs.Prelude.{◌&&◌, nat_le}
use Rattle.std.specs.List.{list_all}
use Rattle.std.proofs.lemmas.Bool.Decides.{nat_tests}
use Rattle.pc_text.specs.Bytes.{Bytes}
use Rattle.pc_text.specs.Lexemes.{Lexeme, AllFit, Fits, kind_of, is_keyword, with_token, tokens_from, AreSpans}
use Rattle.pc_text.specs.Digits.{natural_of}
use Rattle.pc_text.specs.declared.token.Token.{Token}
use Rattle.pc_text.specs.declared.token.Kind.TheVariants as kind
use Rattle.pc_text.specs.declared.token.TheConstants.{LARGEST}
use Rattle.pc_text.specs.declared.lexeme.Form.{Form}
use Rattle.pc_text.specs.declared.lexeme.Form.TheVariants as form
use Rattle.pc_text.specs.Answers.{Means}
use Rattle.pc_text.proofs.Spans.{ends_within, spans}
use Rattle.pc_grammar.specs.Symbols.{value_of, symbol_of, symbols_of}
use Rattle.pc_grammar.specs.declared.symbol.Symbol.{Symbol}
use Rattle.pc_rows.specs.Linear.{in_range}
use Rattle.pc_syntax.specs.Trees.{fit_symbol}
use Rattle.pc_program.proofs.Results.{and_is, and_of, at_most}

-- a symbol of a text of n bytes whose number is in range
abbrev pub fits : ℕ → Symbol → Bool
fits n s = fit_symbol n s && in_range s.number

in_range_of : (n : ℕ) → n ≤ LARGEST → in_range (pos n) ≡ true
in_range_of n h = grind (arith, nat_tests)

number_fits : (f : Form) (w : Bytes) → Fits f w → (at to : ℕ) (ts : List Token) → list_all (λ t. in_range (value_of t.kind)) ts ≡ true →
    list_all (λ t. in_range (value_of t.kind)) (with_token (kind_of f w) at to ts) ≡ true
number_fits form.Blank w h at to ts k = k
number_fits form.Comment w h at to ts k = k
number_fits form.Number w h at to ts k = and_of (in_range (pos (natural_of w))) (list_all (λ t. in_range (value_of t.kind)) ts) (in_range_of (natural_of w) h) k
number_fits form.Sign w h at to ts k = k
number_fits form.Word w h at to ts k = by (is_keyword w)
  where
    by : (b : Bool) → list_all (λ t. in_range (value_of t.kind)) (with_token (Some (cond b kind.Keyword kind.Name)) at to ts) ≡ true
    by true = k
    by false = k

numbers_fit : (ls : List Lexeme) (at : ℕ) → AllFit ls → list_all (λ t. in_range (value_of t.kind)) (tokens_from at ls) ≡ true
numbers_fit [] at h = refl
numbers_fit (l ∷ ls) at (h, more) = number_fits l.form l.text h at (at + length l.text) (tokens_from (at + length l.text) ls) (numbers_fit ls (at + length l.text) more)

symbols_fit_by : (src : Bytes) (low high : ℕ) (ts : List Token) → AreSpans low high ts → list_all (λ t. in_range (value_of t.kind)) ts ≡ true → list_all (fits high) (symbols_of src ts) ≡ true
symbols_fit_by src low high [] h k = refl
symbols_fit_by src low high (t ∷ ts) (a, b, h) k =
    let p = and_is (in_range (value_of t.kind)) (list_all (λ t. in_range (value_of t.kind)) ts) k in
    let w = ends_within t.to high ts h in
    and_of (fits high (symbol_of src t)) (list_all (fits high) (symbols_of src ts))
    (and_of (nat_le t.from t.to && nat_le t.to high) (in_range (value_of t.kind)) (and_of (nat_le t.from t.to) (nat_le t.to high) (at_most t.from t.to (omega arith)) (at_most t.to high w)) p.0)
    (symbols_fit_by src t.to high ts h p.1)

pub symbols_fit : (src : Bytes) (ts : List Token) → Means src (Ok ts) → list_all (fits (length src)) (symbols_of src ts) ≡ true
symbols_fit src ts (ls, splits, fit, is) =
    rw is (symbols_fit_by src 0 (length src) (tokens_from 0 ls) (spans ls src 0 (length src) splits (omega arith)) (numbers_fit ls 0 fit))
