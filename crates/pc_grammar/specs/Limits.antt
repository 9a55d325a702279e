-- The limits on nesting and on lengths, as counts over the symbols, apart from the grammar:
-- no "{" where BRACES are open; no sign of an expression that has SIGNS already; no "&&" where the conjunction has COMPARISONS already;
-- and where a start symbol says how many blocks may stand directly in the outermost braces, no "{" of one more.
use Rattle.std.specs.Prelude.{◌≡◌, ◌+◌, ◌-◌, ℕ, Bool, true, false, not, cond, nat_lt, nat_eq, List, [], ◌∷◌, ◌++◌, Option, Some, None, Result, Ok, Err}
use Rattle.pc_grammar.specs.declared.symbol.Symbol.{Symbol}
use Rattle.pc_language.specs.declared.terminal.Terminal.{Terminal}
use Rattle.pc_language.specs.declared.terminal.Terminal.TheVariants as terminal
use Rattle.pc_grammar.specs.declared.fault.ParseFault.{ParseFault}
use Rattle.pc_grammar.specs.declared.fault.ParseFault.TheVariants.{TooDeep, TooLong, TooManyProcesses}
use Rattle.pc_grammar.specs.declared.limits.Counts.{Counts}
use Rattle.pc_grammar.specs.declared.limits.Past.{Past}
use Rattle.pc_language.specs.declared.limits.TheConstants.{BRACES, SIGNS, COMPARISONS}
use Rattle.pc_grammar.specs.Combinators.{Text, starts}
use Rattle.pc_grammar.specs.Terminals.{the, has}

abbrev pub keywords : List Terminal
keywords = terminal.Entry ∷ terminal.Var ∷ terminal.If ∷ terminal.Else ∷ terminal.While ∷ terminal.Try ∷ terminal.Assert ∷ terminal.Assume ∷ []

-- what may stand in an expression
abbrev pub of_expressions : List Terminal
of_expressions = terminal.Name ∷ terminal.Number ∷ terminal.OpenParen ∷ terminal.CloseParen ∷ terminal.Plus ∷ terminal.Minus ∷ terminal.Star ∷ []

-- the counted signs: "-", "*", a "+" that no choice follows, and a "(" that does not stand directly behind a keyword
abbrev pub is_sign : Terminal → Bool → Text → Bool
is_sign terminal.Plus behind_keyword r = not (starts (the terminal.OpenBracket) r)
is_sign terminal.Minus behind_keyword r = true
is_sign terminal.Star behind_keyword r = true
is_sign terminal.OpenParen behind_keyword r = not behind_keyword
is_sign _ behind_keyword r = false

-- one more, or nothing where the limit is reached
abbrev pub one_more : ℕ → ℕ → Option ℕ
one_more n limit = cond (nat_lt n limit) (Some (n + 1)) None

-- the open braces
abbrev pub braces_after : ℕ → Terminal → Option ℕ
braces_after n terminal.OpenBrace = one_more n BRACES
braces_after n terminal.CloseBrace = Some (n - 1)
braces_after n _ = Some n

-- the signs of the present expression, which ends at each symbol that cannot stand in one
abbrev pub signs_after : ℕ → Bool → Terminal → Option ℕ
signs_after n sign k = cond sign (one_more n SIGNS) (cond (has of_expressions k) (Some n) (Some 0))

-- the "&&" of the present conjunction, one fewer than its comparisons; a keyword begins another
abbrev pub ands_after : ℕ → Terminal → Option ℕ
ands_after n terminal.And = one_more n (COMPARISONS - 1)
ands_after n k = cond (has keywords k) (Some 0) (Some n)

-- the blocks directly in the outermost braces, where `most` of them may stand there; `braces` are open before the terminal
abbrev pub blocks_after : Option ℕ → ℕ → ℕ → Terminal → Option ℕ
blocks_after None n braces k = Some n
blocks_after (Some most) n braces terminal.OpenBrace = cond (nat_eq braces 1) (one_more n most) (Some n)
blocks_after (Some most) n braces _ = Some n

abbrev pub or_else : {A B : Type 0} → Option A → ParseFault → (A → Result B ParseFault) → Result B ParseFault
or_else None f k = Err f
or_else (Some a) f k = k a

abbrev pub start : Counts
start = record { braces = 0; signs = 0; ands = 0; blocks = 0; behind_keyword = false }

-- the counts after one more symbol, which stands before the text `r`; or its fault, where it is past a limit
abbrev pub counted : Option ℕ → Counts → Symbol → Text → Result Counts ParseFault
counted most c s r =
    or_else (braces_after c.braces s.terminal) (TooDeep s.place) (λ braces.
    or_else (signs_after c.signs (is_sign s.terminal c.behind_keyword r) s.terminal) (TooLong s.place) (λ signs.
    or_else (ands_after c.ands s.terminal) (TooLong s.place) (λ ands.
    or_else (blocks_after most c.blocks c.braces s.terminal) (TooManyProcesses s.place) (λ blocks.
    Ok (record { braces = braces; signs = signs; ands = ands; blocks = blocks; behind_keyword = has keywords s.terminal })))))

abbrev pub and_on : Result Counts ParseFault → (Counts → Result Counts ParseFault) → Result Counts ParseFault
and_on (Ok c) k = k c
and_on (Err f) k = Err f

-- the counts after the text `u`, which stands before `v`; or the fault of its first symbol that is past a limit
abbrev pub counts : Option ℕ → Counts → Text → Text → Result Counts ParseFault
counts most c [] v = Ok c
counts most c (s ∷ u) v = and_on (counted most c s (u ++ v)) (λ d. counts most d u v)

-- no symbol of `u`, which stands before `v`, is past a limit
abbrev pub Within : Option ℕ → Text → Text → Type 0
Within most u v = (c : Counts) × (counts most start u v ≡ Ok c)

-- the symbol `s` between `u` and `v` is the first past a limit, with this fault
abbrev pub FirstPast : Option ℕ → Text → Symbol → Text → ParseFault → Type 0
FirstPast most u s v f = (c : Counts) × (counts most start u (s ∷ v) ≡ Ok c) × (counted most c s v ≡ Err f)

-- ---- the same as an index

abbrev pub one_later : Option Past → Option Past
one_later None = None
one_later (Some p) = Some (record { at = p.at + 1; fault = p.fault })

abbrev pub past_or : Result Counts ParseFault → (Counts → Option Past) → Option Past
past_or (Err f) k = Some (record { at = 0; fault = f })
past_or (Ok c) k = one_later (k c)

abbrev pub first_past : Option ℕ → Counts → Text → Option Past
first_past most c [] = None
first_past most c (s ∷ r) = past_or (counted most c s r) (λ d. first_past most d r)
