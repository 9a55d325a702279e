-- What every program keeps beside the context rules, so that its canonical text can be read: a test of its names and of its body.
use Rattle.std.specs.Prelude.{ℕ, ◌+◌, ℤ, pos, negsuc, nat_le, max, List, [], ◌∷◌, ◌++◌, length, map, Bool, true, false, ◌&&◌, not, is_some}
use Rattle.std.specs.List.{list_all}
use Rattle.pc_text.specs.Bytes.{Bytes}
use Rattle.pc_text.specs.Named.{Named, number_of}
use Rattle.pc_text.specs.Lexemes.{class, in_word, is_keyword}
use Rattle.pc_text.specs.declared.lexeme.Class.{Class}
use Rattle.pc_text.specs.declared.lexeme.Class.TheVariants.{Letter}
use Rattle.pc_text.specs.declared.token.TheConstants.{NAME_BYTES}
use Rattle.pc_rows.specs.Linear.{in_range}
use Rattle.pc_language.specs.declared.terminal.Terminal.{Terminal}
use Rattle.pc_language.specs.declared.terminal.Terminal.TheVariants as terminal
use Rattle.pc_language.specs.declared.limits.TheConstants.{BRACES, SIGNS}
use Rattle.pc_program.specs.declared.tree.Expr.{Expr, Expr-F, fold-Expr}
use Rattle.pc_program.specs.declared.tree.Expr.TheOpen as expr
use Rattle.pc_program.specs.declared.tree.Compare.{Compare}
use Rattle.pc_program.specs.declared.tree.Test.{Test}
use Rattle.pc_program.specs.declared.tree.Test.TheVariants as test
use Rattle.pc_program.specs.declared.tree.Stmt.{Stmt, Stmt-F, fold-Stmt}
use Rattle.pc_program.specs.declared.tree.Stmt.TheOpen as stmt
use Rattle.pc_show.specs.declared.showing.level.Level.TheVariants as level
use Rattle.pc_show.specs.Pieces.{Piece, Mark}
use Rattle.pc_show.specs.Canonical.{expr_pieces}
use Rattle.pc_program.specs.Sane.{all_true}

-- ---- names

abbrev pub is_letter : Class → Bool
is_letter Letter = true
is_letter _ = false

-- a letter, and letters and digits behind it
abbrev pub is_word : Bytes → Bool
is_word [] = false
is_word (b ∷ w) = is_letter (class b) && list_all in_word w

-- a name of the language: a word that is no keyword and not too long
abbrev pub is_name : Bytes → Bool
is_name w = is_word w && (nat_le (length w) NAME_BYTES && not (is_keyword w))

-- names of which none is among those before it
abbrev pub differ_after : List Bytes → List Bytes → Bool
differ_after before [] = true
differ_after before (w ∷ ws) = not (is_some (number_of before w)) && differ_after (before ++ w ∷ []) ws

abbrev pub all_differ : List Bytes → Bool
all_differ ws = differ_after [] ws

-- ---- numbers

abbrev pub is_natural : ℤ → Bool
is_natural (pos n) = true
is_natural (negsuc n) = false

-- the number of a token: in range, and with no sign
abbrev pub is_literal : ℤ → Bool
is_literal z = in_range z && is_natural z

abbrev pub literal_step : Expr-F Bool → Bool
literal_step (expr.Num z) = is_literal z
literal_step (expr.Name v) = true
literal_step (expr.Neg a p) = a
literal_step (expr.Add a b p) = a && b
literal_step (expr.Sub a b p) = a && b
literal_step (expr.Mul a b p) = a && b

-- each number of an expression is that of a token
abbrev pub has_literals : Expr → Bool
has_literals e = fold-Expr Bool literal_step e

-- ---- the limits of expressions

-- the signs that are counted in an expression
abbrev pub sign_weight : Terminal → ℕ
sign_weight terminal.Plus = 1
sign_weight terminal.Minus = 1
sign_weight terminal.Star = 1
sign_weight terminal.OpenParen = 1
sign_weight _ = 0

abbrev pub piece_weight : Piece → ℕ
piece_weight (Mark t) = sign_weight t
piece_weight _ = 0

-- how many signs pieces have
abbrev pub signs_in : List Piece → ℕ
signs_in [] = 0
signs_in (p ∷ ps) = piece_weight p + signs_in ps

module _ (names : List Bytes) where
  -- the signs of the canonical text of an expression
  abbrev pub signs_of : Expr → ℕ
  signs_of e = signs_in (expr_pieces names e level.Expression)

  -- an expression that can be read: its numbers are those of tokens, and its canonical text has no sign too many
  abbrev pub shown_expr : Expr → Bool
  shown_expr e = has_literals e && nat_le (signs_of e) SIGNS

  abbrev pub shown_compare : Compare → Bool
  shown_compare c = shown_expr c.left && shown_expr c.right

  abbrev pub shown_test : Test → Bool
  shown_test test.Any = true
  shown_test (test.All cs) = list_all shown_compare cs

  abbrev pub shown_step : Stmt-F Bool → Bool
  shown_step (stmt.Set p v r) = shown_expr r.expr
  shown_step (stmt.If p t xs ys) = shown_test t && (all_true xs && all_true ys)
  shown_step (stmt.While p t tried xs) = shown_test t && (list_all shown_compare tried && all_true xs)
  shown_step (stmt.Assert p cs) = list_all shown_compare cs
  shown_step (stmt.Assume p cs) = list_all shown_compare cs

  abbrev pub shown_stmt : Stmt → Bool
  shown_stmt s = fold-Stmt Bool shown_step s

  abbrev pub shown_stmts : List Stmt → Bool
  shown_stmts ss = all_true (map shown_stmt ss)

-- ---- the limit on nesting

abbrev pub deepest : List ℕ → ℕ
deepest [] = 0
deepest (n ∷ ns) = max n (deepest ns)

abbrev pub nesting_step : Stmt-F ℕ → ℕ
nesting_step (stmt.Set p v r) = 0
nesting_step (stmt.If p t xs ys) = 1 + max (deepest xs) (deepest ys)
nesting_step (stmt.While p t tried xs) = 1 + deepest xs
nesting_step (stmt.Assert p cs) = 0
nesting_step (stmt.Assume p cs) = 0

-- how many blocks of a statement are open at once
abbrev pub nesting : Stmt → ℕ
nesting s = fold-Stmt ℕ nesting_step s

abbrev pub nesting_of : List Stmt → ℕ
nesting_of ss = deepest (map nesting ss)

-- ---- programs

-- a program's names and body: names of the language that differ, expressions that can be read, and with the program's own
-- block no more open braces than there may be
abbrev pub is_showable : Named → List Stmt → Bool
is_showable names body =
    list_all is_name names.names && (all_differ names.names && (shown_stmts names.names body && nat_le (1 + nesting_of body) BRACES))
