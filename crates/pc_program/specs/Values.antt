-- What expressions are worth and what comparisons say at a state, over unbounded integers.
use Rattle.std.specs.Prelude.{ℤ, pos, ◌+ℤ◌, ◌-ℤ◌, ◌*ℤ◌, neg_ℤ, int_le, int_lt, List, [], ◌∷◌, slice_index_or, Bool, true, not, ◌&&◌}
use Rattle.std.specs.Ordering.{int_eq}
use Rattle.pc_rows.specs.Linear.{State}
use Rattle.pc_language.specs.declared.operator.Op.{Op}
use Rattle.pc_language.specs.declared.operator.Op.TheVariants as op
use Rattle.pc_program.specs.declared.tree.Expr.{Expr, Expr-F, fold-Expr}
use Rattle.pc_program.specs.declared.tree.Expr.TheOpen as expr
use Rattle.pc_program.specs.declared.tree.Compare.{Compare}
use Rattle.pc_program.specs.declared.tree.Test.{Test}
use Rattle.pc_program.specs.declared.tree.Test.TheVariants as test

abbrev pub value_step : State → Expr-F ℤ → ℤ
value_step s (expr.Num n) = n
value_step s (expr.Name v) = slice_index_or s v (pos 0)
value_step s (expr.Neg a p) = neg_ℤ a
value_step s (expr.Add a b p) = a +ℤ b
value_step s (expr.Sub a b p) = a -ℤ b
value_step s (expr.Mul a b p) = a *ℤ b

-- what an expression is worth
abbrev pub value_of : State → Expr → ℤ
value_of s e = fold-Expr ℤ (value_step s) e

-- what a comparison says of the values of its sides
abbrev pub compared : Op → ℤ → ℤ → Bool
compared op.Less a b = int_lt a b
compared op.AtMost a b = int_le a b
compared op.Greater a b = int_lt b a
compared op.AtLeast a b = int_le b a
compared op.Equal a b = int_eq a b
compared op.Unequal a b = not (int_eq a b)

abbrev pub holds : Compare → State → Bool
holds c s = compared c.op (value_of s c.left) (value_of s c.right)

-- a conjunction
abbrev pub all_hold : List Compare → State → Bool
all_hold [] s = true
all_hold (c ∷ cs) s = holds c s && all_hold cs s

-- the outcome of a test: `*` holds where the step's choice is not 0
abbrev pub chosen : Test → State → ℤ → Bool
chosen test.Any s c = not (int_eq c (pos 0))
chosen (test.All cs) s c = all_hold cs s
