-- The values that a step of the machine computes, in the order in which it computes them. Numbers of a program and values of
-- variables are not computed: they are in range, as those of the script and of the steps before are.
use Rattle.std.specs.Prelude.{ℤ, pos, ◌+ℤ◌, ◌-ℤ◌, ◌*ℤ◌, neg_ℤ, List, [], ◌∷◌, ◌++◌, slice_index_or, Option, Some, None, if◌then◌else◌}
use Rattle.pc_text.specs.declared.place.Place.{Place}
use Rattle.pc_language.specs.declared.choice.Choice.{Choice}
use Rattle.pc_program.specs.declared.tree.Expr.{Expr, Expr-F, fold-Expr}
use Rattle.pc_program.specs.declared.tree.Expr.TheOpen as expr
use Rattle.pc_program.specs.declared.tree.Compare.{Compare}
use Rattle.pc_program.specs.declared.tree.Right.{Right}
use Rattle.pc_program.specs.declared.tree.Test.{Test}
use Rattle.pc_program.specs.declared.tree.Test.TheVariants as test
use Rattle.pc_program.specs.declared.tree.Stmt.{Stmt, Stmt-F, out-Stmt}
use Rattle.pc_program.specs.declared.tree.Stmt.TheOpen as stmt
use Rattle.pc_program.specs.Values.{value_of, holds}
use Rattle.pc_rows.specs.Linear.{State}
use Rattle.pc_program.specs.Machine.{drawn}
use Rattle.pc_text.specs.Numerals.{is_in_range}

-- a value, and the place of the operator or of the choice that makes it
pub record Computed : Type 0 where
  pub place : Place
  pub value : ℤ

abbrev pub with_operator : List Computed → Place → ℤ → ℤ × List Computed
with_operator vs p z = (z, vs ++ record { place = p; value = z } ∷ [])

-- an expression's value, and the values of its operators: left before right, inner before outer
abbrev pub worked_step : State → Expr-F (ℤ × List Computed) → ℤ × List Computed
worked_step s (expr.Num n) = (n, [])
worked_step s (expr.Name v) = (slice_index_or s v (pos 0), [])
worked_step s (expr.Neg a p) = with_operator a.1 p (neg_ℤ a.0)
worked_step s (expr.Add a b p) = with_operator (a.1 ++ b.1) p (a.0 +ℤ b.0)
worked_step s (expr.Sub a b p) = with_operator (a.1 ++ b.1) p (a.0 -ℤ b.0)
worked_step s (expr.Mul a b p) = with_operator (a.1 ++ b.1) p (a.0 *ℤ b.0)

abbrev pub worked : State → Expr → ℤ × List Computed
worked s e = fold-Expr (ℤ × List Computed) (worked_step s) e

abbrev pub in_expr : State → Expr → List Computed
in_expr s e = (worked s e).1

-- comparisons are taken up to the first that fails
abbrev pub in_all : State → List Compare → List Computed
in_all s [] = []
in_all s (c ∷ cs) = (in_expr s c.left ++ in_expr s c.right) ++ (if holds c s then in_all s cs else [])

abbrev pub in_test : State → Test → List Computed
in_test s test.Any = []
in_test s (test.All cs) = in_all s cs

abbrev pub in_choice : Option Choice → ℤ → List Computed
in_choice None z = []
in_choice (Some choice) z = record { place = choice.place; value = z } ∷ []

-- the sum with a choice comes last
abbrev pub in_right : State → Right → ℤ → List Computed
in_right s r c = in_expr s r.expr ++ in_choice r.choice (value_of s r.expr +ℤ drawn r.choice c)

abbrev pub in_stmt : Stmt-F Stmt → State → ℤ → List Computed
in_stmt (stmt.Set p v r) s c = in_right s r c
in_stmt (stmt.If p t xs ys) s c = in_test s t
in_stmt (stmt.While p t tried xs) s c = in_test s t
in_stmt (stmt.Assert p cs) s c = in_all s cs
in_stmt (stmt.Assume p cs) s c = in_all s cs

-- the values of a step with the choice `c`
abbrev pub computed : List Stmt → State → ℤ → List Computed
computed [] s c = []
computed (x ∷ k) s c = in_stmt (out-Stmt x) s c

-- the place of the first of them that is not in range
abbrev pub first_past : List Computed → Option Place
first_past [] = None
first_past (v ∷ vs) = if is_in_range v.value then first_past vs else Some v.place
