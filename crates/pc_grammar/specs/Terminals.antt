-- Classes of symbols: those that stand for one of some terminals.
use Rattle.std.specs.Prelude.{ℕ, Bool, false, ◌||◌, nat_eq, List, [], ◌∷◌}
use Rattle.pc_language.specs.declared.terminal.Terminal.{Terminal}
use Rattle.pc_language.specs.declared.terminal.Terminal.TheVariants as terminal
use Rattle.pc_grammar.specs.Combinators.{Parser, Lang, Class, token, is_token}
use Rattle.pc_grammar.specs.declared.symbol.Symbol.{Symbol}

-- a number for each terminal, so that a test of two computes
abbrev pub code : Terminal → ℕ
code terminal.Name = 0
code terminal.Number = 1
code terminal.Entry = 2
code terminal.Var = 3
code terminal.If = 4
code terminal.Else = 5
code terminal.While = 6
code terminal.Try = 7
code terminal.Assert = 8
code terminal.Assume = 9
code terminal.OpenParen = 10
code terminal.CloseParen = 11
code terminal.OpenBrace = 12
code terminal.CloseBrace = 13
code terminal.OpenBracket = 14
code terminal.CloseBracket = 15
code terminal.Comma = 16
code terminal.Semicolon = 17
code terminal.Assign = 18
code terminal.Equal = 19
code terminal.Unequal = 20
code terminal.Less = 21
code terminal.AtMost = 22
code terminal.Greater = 23
code terminal.AtLeast = 24
code terminal.Plus = 25
code terminal.Minus = 26
code terminal.Star = 27
code terminal.And = 28

abbrev pub has : List Terminal → Terminal → Bool
has [] k = false
has (j ∷ js) k = nat_eq (code k) (code j) || has js k

-- the symbols that stand for one of these
abbrev pub among : List Terminal → Class
among ks s = has ks s.terminal

-- the symbols that stand for this one
abbrev pub the : Terminal → Class
the k = among (k ∷ [])

abbrev pub one_of : List Terminal → Parser Symbol
one_of ks = token (among ks)

abbrev pub is_one_of : List Terminal → Lang Symbol
is_one_of ks = is_token (among ks)

abbrev pub one : Terminal → Parser Symbol
one k = token (the k)

abbrev pub is_one : Terminal → Lang Symbol
is_one k = is_token (the k)
