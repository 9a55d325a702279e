-- What the grammar keeps of a parse tree, as a test, so that its program can be shown and read back.
use Rattle.std.specs.Prelude.{ℕ, ◌+◌, nat_le, max, List, map, Bool, true, false, ◌&&◌}
use Rattle.std.specs.List.{list_all}
use Rattle.pc_text.specs.Bytes.{Bytes}
use Rattle.pc_grammar.specs.declared.symbol.Symbol.{Symbol}
use Rattle.pc_language.specs.declared.limits.TheConstants.{BRACES, SIGNS}
use Rattle.pc_grammar.specs.declared.tree.ExprTree.{ExprTree, ExprTree-F, fold-ExprTree}
use Rattle.pc_grammar.specs.declared.tree.ExprTree.TheOpen as expr
use Rattle.pc_grammar.specs.declared.tree.CompareTree.{CompareTree}
use Rattle.pc_grammar.specs.declared.tree.TestTree.{TestTree}
use Rattle.pc_grammar.specs.declared.tree.TestTree.TheVariants as test
use Rattle.pc_grammar.specs.declared.tree.StmtTree.{StmtTree, StmtTree-F, fold-StmtTree}
use Rattle.pc_grammar.specs.declared.tree.StmtTree.TheOpen as stmt
use Rattle.pc_grammar.specs.declared.tree.ProgramTree.{ProgramTree}
use Rattle.pc_show.specs.declared.showing.level.Level.{Level}
use Rattle.pc_show.specs.declared.showing.level.Level.TheVariants as level
use Rattle.pc_show.specs.Canonical.{wraps_sum, wraps_product, wraps_negation}
use Rattle.pc_syntax.specs.Context.{word}
use Rattle.pc_program.specs.Sane.{all_true}
use Rattle.pc_readback.specs.Showable.{is_name, is_literal, deepest}

-- a symbol is spelled by a name of the language
abbrev pub spells_name : Bytes → Symbol → Bool
spells_name src s = is_name (word src s)

abbrev pub literal_step : ExprTree-F Bool → Bool
literal_step (expr.Num z) = is_literal z
literal_step (expr.Name s) = true
literal_step (expr.Neg a p) = a
literal_step (expr.Add a b p) = a && b
literal_step (expr.Sub a b p) = a && b
literal_step (expr.Mul a b p) = a && b

abbrev pub has_literals : ExprTree → Bool
has_literals tree = fold-ExprTree Bool literal_step tree

-- one sign more where there are parentheses
abbrev pub around : Bool → ℕ → ℕ
around true n = 1 + n
around false n = n

abbrev pub sign_step : ExprTree-F (Level → ℕ) → Level → ℕ
sign_step (expr.Num z) l = 0
sign_step (expr.Name s) l = 0
sign_step (expr.Neg a p) l = around (wraps_negation l) (1 + a level.Atom)
sign_step (expr.Add a b p) l = around (wraps_sum l) (a level.Expression + (1 + b level.Addend))
sign_step (expr.Sub a b p) l = around (wraps_sum l) (a level.Expression + (1 + b level.Addend))
sign_step (expr.Mul a b p) l = around (wraps_product l) (a level.Addend + (1 + b level.Factor))

-- the signs of the canonical text of an expression, where one of this level stands
abbrev pub signs : ExprTree → Level → ℕ
signs tree = fold-ExprTree (Level → ℕ) sign_step tree

abbrev pub short_expr : ExprTree → Bool
short_expr tree = has_literals tree && nat_le (signs tree level.Expression) SIGNS

abbrev pub short_compare : CompareTree → Bool
short_compare c = short_expr c.left && short_expr c.right

abbrev pub short_test : TestTree → Bool
short_test test.Any = true
short_test (test.All cs) = list_all short_compare cs

abbrev pub short_step : StmtTree-F Bool → Bool
short_step (stmt.Set name right) = short_expr right.expr
short_step (stmt.If p t xs ys) = short_test t && (all_true xs && all_true ys)
short_step (stmt.While p t tried xs) = short_test t && (list_all short_compare tried && all_true xs)
short_step (stmt.Assert p cs) = list_all short_compare cs
short_step (stmt.Assume p cs) = list_all short_compare cs

abbrev pub short_stmt : StmtTree → Bool
short_stmt tree = fold-StmtTree Bool short_step tree

abbrev pub short_stmts : List StmtTree → Bool
short_stmts trees = all_true (map short_stmt trees)

abbrev pub nesting_step : StmtTree-F ℕ → ℕ
nesting_step (stmt.Set name right) = 0
nesting_step (stmt.If p t xs ys) = 1 + max (deepest xs) (deepest ys)
nesting_step (stmt.While p t tried xs) = 1 + deepest xs
nesting_step (stmt.Assert p cs) = 0
nesting_step (stmt.Assume p cs) = 0

abbrev pub nesting : StmtTree → ℕ
nesting tree = fold-StmtTree ℕ nesting_step tree

abbrev pub nesting_of : List StmtTree → ℕ
nesting_of trees = deepest (map nesting trees)

-- the parse tree of a text whose program can be shown and read back
abbrev pub short_tree : Bytes → ProgramTree → Bool
short_tree src tree =
    list_all (spells_name src) tree.params && (list_all (spells_name src) tree.locals && (short_stmts tree.body && nat_le (1 + nesting_of tree.body) BRACES))
