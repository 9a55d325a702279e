-- Tokens in order, and the symbols of one token more.
use Rattle.std.proofs.Common.{◌≡◌, ◌+◌, ◌≤◌, ◌<◌, ℕ, List, [], ◌∷◌, length, take, drop, get_or, ◌++◌, ap, ◌∙◌, subst, arith}
use Rattle.std.proofs.lemmas.List.{drop_more, take_more, map-append}
use Rattle.pc_text.specs.declared.token.Token.{Token}
use Rattle.pc_text.specs.Bytes.{Bytes}
use Rattle.pc_text.specs.Lexemes.{AreSpans}
use Rattle.pc_text.proofs.Spans.{ends_within, wider}
use Rattle.pc_grammar.specs.Symbols.{symbol_of, symbols_of}

-- a token that stands first
pub record First (low high : ℕ) (t : Token) (ts : List Token) : Type 0 where
  pub begins : low ≤ t.«from»
  pub inside : t.«from» ≤ high
  pub within : t.to ≤ high
  pub holds : t.«from» < t.to
  pub rest : AreSpans t.«from» high ts

first_of : (low high : ℕ) (t : Token) (ts : List Token) → AreSpans low high (t ∷ ts) → First low high t ts
first_of low high t ts (a, b, c) = let e = ends_within t.to high ts c in record { begins = a; inside = omega arith; within = e; holds = b; rest = wider t.«from» t.to high ts (omega arith) c }

pub first_at : (low high k : ℕ) (ts : List Token) (d : Token) → k < length ts → AreSpans low high (drop k ts) → First low high (get_or ts k d) (drop (k + 1) ts)
first_at low high k ts d l h = first_of low high (get_or ts k d) (drop (k + 1) ts) (subst (λ z. AreSpans low high z) (drop_more ts k d l) h)

pub one_more : (s : Bytes) (k : ℕ) (ts : List Token) (d : Token) → k < length ts → symbols_of s (take (k + 1) ts) ≡ symbols_of s (take k ts) ++ symbol_of s (get_or ts k d) ∷ []
one_more s k ts d l = ap (symbols_of s) (take_more ts k d l) ∙ map-append (symbol_of s) (take k ts) (get_or ts k d ∷ [])
