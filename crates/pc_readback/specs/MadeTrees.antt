-- The program that a made source spells, at no place in particular.
use Rattle.std.specs.Prelude.{ℕ, zero, suc, pos, List, [], ◌∷◌, ◌++◌, None, codes}
use Rattle.pc_text.specs.Named.{Named}
use Rattle.pc_language.specs.declared.operator.Op.{Op}
use Rattle.pc_language.specs.declared.operator.Op.TheVariants as op
use Rattle.pc_program.specs.declared.tree.Expr.{Expr}
use Rattle.pc_program.specs.declared.tree.Expr.TheVariants as expr
use Rattle.pc_program.specs.declared.tree.Compare.{Compare}
use Rattle.pc_program.specs.declared.tree.Test.{Test}
use Rattle.pc_program.specs.declared.tree.Test.TheVariants as test
use Rattle.pc_program.specs.declared.tree.Stmt.{Stmt}
use Rattle.pc_program.specs.declared.tree.Stmt.TheVariants as stmt
use Rattle.pc_readback.specs.Bare.{nowhere}

-- one parameter and one local
abbrev pub names : Named
names = record { names = codes "a" ∷ codes "i" ∷ []; params = 1 }

abbrev pub parameter : Expr
parameter = expr.Name 0

abbrev pub counter : Expr
counter = expr.Name 1

abbrev pub number : ℕ → Expr
number n = expr.Num (pos n)

abbrev pub sum : Expr → Expr → Expr
sum x y = expr.Add x y nowhere

abbrev pub compared : Op → Expr → Expr → Compare
compared o x y = record { op = o; left = x; right = y; place = nowhere }

-- the counter becomes the value of an expression
abbrev pub set_counter : Expr → Stmt
set_counter x = stmt.Set nowhere 1 (record { expr = x; choice = None })

-- the counter is at most k above the parameter
abbrev pub bounded : ℕ → Stmt
bounded k = stmt.Assert nowhere (compared op.AtMost counter (sum parameter (number k)) ∷ [])

abbrev pub below_ten : Test
below_ten = test.All (compared op.Less counter (number 10) ∷ [])

-- while the counter is below 10, it is bounded and then one more
abbrev pub counting : ℕ → Stmt
counting k = stmt.While nowhere below_ten [] (bounded k ∷ set_counter (sum counter (number 1)) ∷ [])

-- the loop of a number, whose counter begins at 0
abbrev pub loop : ℕ → List Stmt
loop k = set_counter (number 0) ∷ counting k ∷ []

-- the loops of the numbers from 1 on
abbrev pub loops : ℕ → List Stmt
loops zero = []
loops (suc n) = loops n ++ loop (suc n)
