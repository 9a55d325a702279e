-- The definitions at small sources: their trees, and their faults with the places.
use Rattle.std.proofs.Common.{◌≡◌, ◌-◌, ℕ, zero, suc, List, [], ◌∷◌, ◌++◌, length, codes, refl, Ok, Err, None, Some, Result, pos, negsuc}
use Rattle.pc_text.specs.declared.place.Place.{Place}
use Rattle.pc_text.specs.declared.token.Token.{Token}
use Rattle.pc_text.specs.declared.token.LexFault.{LexFault}
use Rattle.pc_text.specs.Bytes.{Bytes}
use Rattle.pc_text.specs.Lexemes.{class, is_keyword}
use Rattle.pc_text.specs.Places.{place_of}
use Rattle.pc_text.specs.Lex.{lex}
use Rattle.pc_grammar.specs.declared.symbol.Symbol.{Symbol}
use Rattle.pc_language.specs.declared.terminal.Terminal.TheVariants as terminal
use Rattle.pc_grammar.specs.declared.tree.ExprTree.TheVariants as expr_is
use Rattle.pc_language.specs.declared.choice.Bound.TheVariants.{At, Open}
use Rattle.pc_language.specs.declared.operator.Op.TheVariants as op_is
use Rattle.pc_grammar.specs.declared.tree.TestTree.TheVariants as test_is
use Rattle.pc_grammar.specs.declared.tree.StmtTree.{StmtTree}
use Rattle.pc_grammar.specs.declared.tree.StmtTree.TheVariants as stmt_is
use Rattle.pc_grammar.specs.declared.tree.ProgramTree.{ProgramTree}
use Rattle.pc_grammar.specs.declared.tree.ParallelTree.{ParallelTree}
use Rattle.pc_grammar.specs.declared.fault.ParseFault.{ParseFault}
use Rattle.pc_grammar.specs.declared.fault.ParseFault.TheVariants as fault
use Rattle.pc_grammar.specs.Symbols.{symbols_of, keyword_of, byte_sign, pair_sign}
use Rattle.pc_grammar.specs.Starts.{Start}
use Rattle.pc_grammar.specs.Programs.{programs}
use Rattle.pc_grammar.specs.Parallels.{parallels}
use Rattle.pc_grammar.specs.Parsing.{parsed}

-- ---- sources, and what their trees are made of

-- what the tokens of a text mean as this start symbol, where it has tokens
abbrev meaning_of : (S : Start) → Bytes → Result (List Token) LexFault → Result S.Tree ParseFault
meaning_of S s (Ok ts) = parsed S (symbols_of s ts) (place_of s (length s))
meaning_of S s (Err e) = Err fault.NoMemory

abbrev meaning : Bytes → Result ProgramTree ParseFault
meaning s = meaning_of programs s (lex s)

abbrev parallel_meaning : Bytes → Result ParallelTree ParseFault
parallel_meaning s = meaning_of parallels s (lex s)

-- a column of the first line
abbrev column : ℕ → Place
column c = record { line = 1; column = c }

-- a name of one letter
abbrev letter : ℕ → Symbol
letter c = record { terminal = terminal.Name; number = pos 0; «from» = c - 1; to = c; place = column c }

-- a program whose parameter is at column 8
abbrev with_body : List StmtTree → Result ProgramTree ParseFault
with_body body = Ok (record { place = column 1; params = letter 8 ∷ []; locals = []; body = body })

-- ---- trees

differences : meaning (codes "entry (x) { x = x - 1 - 2; }")
    ≡ with_body (stmt_is.Set (letter 13) (record {
      expr = expr_is.Sub (expr_is.Sub (expr_is.Name (letter 17)) (expr_is.Num (pos 1)) (column 19)) (expr_is.Num (pos 2)) (column 23);
      choice = None;
    }) ∷ [])
unfolding lex class is_keyword place_of keyword_of byte_sign pair_sign
differences = refl

-- a product binds closer than a sum, and a negation has the place of its sign
products : meaning (codes "entry (x) { x = 2 + -x * (x + 3); }")
    ≡ with_body (stmt_is.Set (letter 13) (record {
      expr = expr_is.Add
          (expr_is.Num (pos 2))
          (expr_is.Mul
          (expr_is.Neg (expr_is.Name (letter 22)) (column 21))
          (expr_is.Add (expr_is.Name (letter 27)) (expr_is.Num (pos 3)) (column 29))
          (column 24))
          (column 19);
      choice = None;
    }) ∷ [])
unfolding lex class is_keyword place_of keyword_of byte_sign pair_sign
products = refl

choices : meaning (codes "entry (x) { x = [-1, 7]; x = x - 1 + [0, 0]; }")
    ≡ with_body
    (stmt_is.Set (letter 13) (record {
      expr = expr_is.Num (pos 0);
      choice = Some (record { lo = At (negsuc 0); hi = At (pos 7); place = column 17 });
    })
    ∷ stmt_is.Set (letter 26) (record {
      expr = expr_is.Sub (expr_is.Name (letter 30)) (expr_is.Num (pos 1)) (column 32);
      choice = Some (record { lo = At (pos 0); hi = At (pos 0); place = column 38 });
    })
    ∷ [])
unfolding lex class is_keyword place_of keyword_of byte_sign pair_sign
choices = refl

-- an end of an interval may be open
open_end : meaning (codes "entry (x) { x = x + [0, *]; assert (x <= 5); }")
    ≡ with_body
    (stmt_is.Set (letter 13) (record {
      expr = expr_is.Name (letter 17);
      choice = Some (record { lo = At (pos 0); hi = Open; place = column 21 });
    })
    ∷ stmt_is.Assert (column 29) (record { op = op_is.AtMost; left = expr_is.Name (letter 37); right = expr_is.Num (pos 5); place = column 39 } ∷ [])
    ∷ [])
unfolding lex class is_keyword place_of keyword_of byte_sign pair_sign
open_end = refl

open_ends : meaning (codes "entry (x) { x = [*, -3]; x = [*,*]; }")
    ≡ with_body
    (stmt_is.Set (letter 13) (record {
      expr = expr_is.Num (pos 0);
      choice = Some (record { lo = Open; hi = At (negsuc 2); place = column 17 });
    })
    ∷ stmt_is.Set (letter 26) (record {
      expr = expr_is.Num (pos 0);
      choice = Some (record { lo = Open; hi = Open; place = column 30 });
    })
    ∷ [])
unfolding lex class is_keyword place_of keyword_of byte_sign pair_sign
open_ends = refl

-- without `else` the second block is empty, and without `try` no comparisons are tried
loops : meaning (codes "entry (x) { if (*) { } while (x != 0) try (x <= 9 && x >= 1) { } }")
    ≡ with_body
    (stmt_is.If (column 13) test_is.Any [] []
    ∷ stmt_is.While (column 24)
    (test_is.All (record { op = op_is.Unequal; left = expr_is.Name (letter 31); right = expr_is.Num (pos 0); place = column 33 } ∷ []))
    (record { op = op_is.AtMost; left = expr_is.Name (letter 44); right = expr_is.Num (pos 9); place = column 46 }
    ∷ record { op = op_is.AtLeast; left = expr_is.Name (letter 54); right = expr_is.Num (pos 1); place = column 56 }
    ∷ [])
    []
    ∷ [])
unfolding lex class is_keyword place_of keyword_of byte_sign pair_sign
loops = refl

-- two lines of locals
locals : meaning (codes "entry (x) { var i, j; var k; assert (i < j); }")
    ≡ Ok (record {
      place = column 1;
      params = letter 8 ∷ [];
      locals = letter 17 ∷ letter 20 ∷ letter 27 ∷ [];
      body = stmt_is.Assert (column 30) (record { op = op_is.Less; left = expr_is.Name (letter 38); right = expr_is.Name (letter 42); place = column 40 } ∷ []) ∷ [];
    })
unfolding lex class is_keyword place_of keyword_of byte_sign pair_sign
locals = refl

-- ---- faults

abbrev syntax_at : ℕ → ℕ → Result ProgramTree ParseFault
syntax_at l c = Err (fault.Syntax (record { line = l; column = c }))

nothing : meaning [] ≡ syntax_at 1 1
unfolding lex place_of
nothing = refl

cut_short : meaning (codes "entry (n) {\n  var i;\n  i = 0;\n  while (") ≡ syntax_at 4 10
unfolding lex class is_keyword place_of keyword_of byte_sign pair_sign
cut_short = refl

inner_choice : meaning (codes "entry (x) { x = (x + [0, 1]); }") ≡ syntax_at 1 22
unfolding lex class is_keyword place_of keyword_of byte_sign pair_sign
inner_choice = refl

-- an open end has no sign
negated_end : meaning (codes "entry (x) { x = [0, -*]; }") ≡ syntax_at 1 22
unfolding lex class is_keyword place_of keyword_of byte_sign pair_sign
negated_end = refl

else_if : meaning (codes "entry (x) { if (*) {} else if (*) {} }") ≡ syntax_at 1 28
unfolding lex class is_keyword place_of keyword_of byte_sign pair_sign
else_if = refl

-- the ninth comparison
comparisons : meaning (codes "entry (x) { assume (x<1&&x<1&&x<1&&x<1&&x<1&&x<1&&x<1&&x<1&&x<1); }") ≡ Err (fault.TooLong (column 59))
unfolding lex class is_keyword place_of keyword_of byte_sign pair_sign
comparisons = refl

-- ---- texts with a piece that is repeated

abbrev repeated : ℕ → Bytes → Bytes
repeated zero piece = []
repeated (suc n) piece = piece ++ repeated n piece

-- the 65th brace
braces : meaning (codes "entry () {" ++ repeated 64 (codes " if (*) {")) ≡ Err (fault.TooDeep (column 586))
unfolding lex class is_keyword place_of keyword_of byte_sign pair_sign
braces = refl

-- the 65th sign
signs : meaning (codes "entry (x) { x = x" ++ repeated 65 (codes " + 1") ++ codes "; }") ≡ Err (fault.TooLong (column 275))
unfolding lex class is_keyword place_of keyword_of byte_sign pair_sign
signs = refl

-- 64 signs, and the "+" before a choice
choice_behind : meaning (codes "entry (x) { x = x" ++ repeated 64 (codes " + 1") ++ codes " + [0, 1] }") ≡ syntax_at 1 284
unfolding lex class is_keyword place_of keyword_of byte_sign pair_sign
choice_behind = refl

-- ---- several processes

two_processes : parallel_meaning (codes "entry (x) { { x = 1; } { } }")
    ≡ Ok (record {
      place = column 1;
      params = letter 8 ∷ [];
      locals = [];
      bodies = (stmt_is.Set (letter 15) (record { expr = expr_is.Num (pos 1); choice = None }) ∷ []) ∷ [] ∷ [];
    })
unfolding lex class is_keyword place_of keyword_of byte_sign pair_sign
two_processes = refl

-- where a second process is missing, at what stands in its place
one_process : parallel_meaning (codes "entry (x) { { x = 1; } }") ≡ Err (fault.Syntax (column 24))
unfolding lex class is_keyword place_of keyword_of byte_sign pair_sign
one_process = refl

-- no block stands for a statement
process_alone : meaning (codes "entry (x) { { x = 1; } }") ≡ syntax_at 1 13
unfolding lex class is_keyword place_of keyword_of byte_sign pair_sign
process_alone = refl

-- the fifth process; blocks of statements are none
five_processes : parallel_meaning (codes "entry () { {} { if (*) {} } {} {} {} }") ≡ Err (fault.TooManyProcesses (column 35))
unfolding lex class is_keyword place_of keyword_of byte_sign pair_sign
five_processes = refl
