-- Steps that stop at the first value that is not in range, with its place.
use Rattle.std.specs.Prelude.{ℤ, pos, ◌+ℤ◌, ◌-ℤ◌, ◌*ℤ◌, neg_ℤ, List, [], ◌∷◌, ◌++◌, slice_index_or, slice_set, Option, Some, None, Result, Ok, Err, Bool, true, false, not, if◌then◌else◌}
use Rattle.std.specs.Ordering.{int_eq}
use Rattle.pc_text.specs.declared.place.Place.{Place}
use Rattle.pc_language.specs.declared.choice.Choice.{Choice}
use Rattle.pc_program.specs.declared.tree.Expr.{Expr, Expr-F, fold-Expr}
use Rattle.pc_program.specs.declared.tree.Expr.TheOpen as expr
use Rattle.pc_program.specs.declared.tree.Compare.{Compare}
use Rattle.pc_program.specs.declared.tree.Right.{Right}
use Rattle.pc_program.specs.declared.tree.Test.{Test}
use Rattle.pc_program.specs.declared.tree.Test.TheVariants as test
use Rattle.pc_program.specs.declared.tree.Stmt.{Stmt, Stmt-F, out-Stmt}
use Rattle.pc_program.specs.declared.tree.Stmt.TheOpen as stmt
use Rattle.pc_program.specs.Values.{compared}
use Rattle.pc_rows.specs.Linear.{State}
use Rattle.pc_program.specs.Machine.{Outcome, Going, Violated, Blocked, Ended, clamped}
use Rattle.pc_language.specs.Ends.{end_of}
use Rattle.pc_text.specs.Numerals.{is_in_range}

-- an answer handed on, or the place of a value that is past the range
abbrev pub then_with : {A B : Type 0} → Result A Place → (A → Result B Place) → Result B Place
then_with (Ok x) f = f x
then_with (Err p) f = Err p

abbrev pub fits : Place → ℤ → Result ℤ Place
fits p z = if is_in_range z then Ok z else Err p

abbrev pub evaluated_step : State → Expr-F (Result ℤ Place) → Result ℤ Place
evaluated_step s (expr.Num n) = Ok n
evaluated_step s (expr.Name v) = Ok (slice_index_or s v (pos 0))
evaluated_step s (expr.Neg a p) = then_with a (λ x. fits p (neg_ℤ x))
evaluated_step s (expr.Add a b p) = then_with a (λ x. then_with b (λ y. fits p (x +ℤ y)))
evaluated_step s (expr.Sub a b p) = then_with a (λ x. then_with b (λ y. fits p (x -ℤ y)))
evaluated_step s (expr.Mul a b p) = then_with a (λ x. then_with b (λ y. fits p (x *ℤ y)))

abbrev pub evaluated : State → Expr → Result ℤ Place
evaluated s e = fold-Expr (Result ℤ Place) (evaluated_step s) e

abbrev pub held : State → Compare → Result Bool Place
held s c = then_with (evaluated s c.left) (λ x. then_with (evaluated s c.right) (λ y. Ok (compared c.op x y)))

abbrev pub all_held : State → List Compare → Result Bool Place
all_held s [] = Ok true
all_held s (c ∷ cs) = then_with (held s c) (λ h. if h then all_held s cs else Ok false)

abbrev pub tested : State → Test → ℤ → Result Bool Place
tested s test.Any c = Ok (not (int_eq c (pos 0)))
tested s (test.All cs) c = all_held s cs

abbrev pub with_choice : Option Choice → ℤ → ℤ → Result ℤ Place
with_choice None z c = Ok z
with_choice (Some choice) z c = fits choice.place (z +ℤ clamped (end_of choice.lo) (end_of choice.hi) c)

abbrev pub assigned : State → Right → ℤ → Result ℤ Place
assigned s r c = then_with (evaluated s r.expr) (λ z. with_choice r.choice z c)

abbrev pub stepped_at : Stmt → Stmt-F Stmt → List Stmt → State → ℤ → Result Outcome Place
stepped_at x (stmt.Set p v r) k s c = then_with (assigned s r c) (λ z. Ok (Going k (slice_set s v z)))
stepped_at x (stmt.If p t xs ys) k s c = then_with (tested s t c) (λ h. Ok (Going ((if h then xs else ys) ++ k) s))
stepped_at x (stmt.While p t tried xs) k s c = then_with (tested s t c) (λ h. Ok (Going (if h then (xs ++ (x ∷ k)) else k) s))
stepped_at x (stmt.Assert p cs) k s c = then_with (all_held s cs) (λ h. Ok (if h then Going k s else Violated p))
stepped_at x (stmt.Assume p cs) k s c = then_with (all_held s cs) (λ h. Ok (if h then Going k s else Blocked p))

abbrev pub stepped : List Stmt → State → ℤ → Result Outcome Place
stepped [] s c = Ok Ended
stepped (x ∷ k) s c = stepped_at x (out-Stmt x) k s c
