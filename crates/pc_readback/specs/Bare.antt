-- Programs without their places: each place is made one and the same.
use Rattle.std.specs.Prelude.{◌≡◌, List, map, Option, Some, None}
use Rattle.pc_text.specs.declared.place.Place.{Place}
use Rattle.pc_language.specs.declared.choice.Choice.{Choice}
use Rattle.pc_program.specs.declared.tree.Expr.{Expr, Expr-F, fold-Expr}
use Rattle.pc_program.specs.declared.tree.Expr.TheOpen as expr
use Rattle.pc_program.specs.declared.tree.Expr.TheVariants as e
use Rattle.pc_program.specs.declared.tree.Compare.{Compare}
use Rattle.pc_program.specs.declared.tree.Test.{Test}
use Rattle.pc_program.specs.declared.tree.Test.TheVariants as test
use Rattle.pc_program.specs.declared.tree.Right.{Right}
use Rattle.pc_program.specs.declared.tree.Stmt.{Stmt, Stmt-F, fold-Stmt}
use Rattle.pc_program.specs.declared.tree.Stmt.TheOpen as stmt
use Rattle.pc_program.specs.declared.tree.Stmt.TheVariants as s
use Rattle.pc_program.specs.declared.program.Program.{Program}

-- the place that stands for all
abbrev pub nowhere : Place
nowhere = record { line = 0; column = 0 }

abbrev pub bare_expr_step : Expr-F Expr → Expr
bare_expr_step (expr.Num n) = e.Num n
bare_expr_step (expr.Name v) = e.Name v
bare_expr_step (expr.Neg a p) = e.Neg a nowhere
bare_expr_step (expr.Add a b p) = e.Add a b nowhere
bare_expr_step (expr.Sub a b p) = e.Sub a b nowhere
bare_expr_step (expr.Mul a b p) = e.Mul a b nowhere

abbrev pub bare_expr : Expr → Expr
bare_expr x = fold-Expr Expr bare_expr_step x

abbrev pub bare_compare : Compare → Compare
bare_compare c = record { op = c.op; left = bare_expr c.left; right = bare_expr c.right; place = nowhere }

abbrev pub bare_all : List Compare → List Compare
bare_all cs = map bare_compare cs

abbrev pub bare_test : Test → Test
bare_test test.Any = test.Any
bare_test (test.All cs) = test.All (bare_all cs)

abbrev pub bare_choice : Option Choice → Option Choice
bare_choice None = None
bare_choice (Some c) = Some (record { lo = c.lo; hi = c.hi; place = nowhere })

abbrev pub bare_right : Right → Right
bare_right r = record { expr = bare_expr r.expr; choice = bare_choice r.choice }

abbrev pub bare_stmt_step : Stmt-F Stmt → Stmt
bare_stmt_step (stmt.Set p v r) = s.Set nowhere v (bare_right r)
bare_stmt_step (stmt.If p t xs ys) = s.If nowhere (bare_test t) xs ys
bare_stmt_step (stmt.While p t tried xs) = s.While nowhere (bare_test t) (bare_all tried) xs
bare_stmt_step (stmt.Assert p cs) = s.Assert nowhere (bare_all cs)
bare_stmt_step (stmt.Assume p cs) = s.Assume nowhere (bare_all cs)

abbrev pub bare_stmt : Stmt → Stmt
bare_stmt x = fold-Stmt Stmt bare_stmt_step x

abbrev pub bare : List Stmt → List Stmt
bare xs = map bare_stmt xs

-- two programs are the same apart from their places
pub record SamePrograms (p q : Program) : Type 0 where
  pub names : p.names ≡ q.names
  pub body : bare p.body ≡ bare q.body
