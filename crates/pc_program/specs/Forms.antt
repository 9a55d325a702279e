-- Normal forms of expressions, and the rows of comparisons.
use Rattle.std.specs.Prelude.{ℕ, pos, negsuc, List, [], ◌∷◌, ◌++◌, Bool, true, false, ◌&&◌, not, nat_lt, is_ok, Result, Ok, Err, if◌then◌else◌}
use Rattle.std.specs.List.{list_all}
use Rattle.pc_text.specs.declared.place.Place.{Place}
use Rattle.pc_rows.specs.Linear.{Linear, sum_of, scaled_by, difference_of, above_of, negation, of_constant, with_coefficient, is_number, in_range, is_in_range, fits}
use Rattle.pc_rows.specs.declared.row.TheConstants.{VARIABLES}
use Rattle.pc_language.specs.declared.operator.Op.{Op}
use Rattle.pc_language.specs.declared.operator.Op.TheVariants as op
use Rattle.pc_program.specs.declared.tree.Expr.{Expr, Expr-F, fold-Expr}
use Rattle.pc_program.specs.declared.tree.Expr.TheOpen as expr
use Rattle.pc_program.specs.declared.tree.Compare.{Compare}
use Rattle.pc_program.specs.declared.normal.AffineFault.{AffineFault}
use Rattle.pc_program.specs.declared.normal.AffineFault.TheVariants.{NotAffine, Past}

-- a part's answer handed on, or its fault
abbrev pub bind : {A B E : Type 0} → Result A E → (A → Result B E) → Result B E
bind (Ok x) f = f x
bind (Err e) f = Err e

-- a variable alone
abbrev pub variable : ℕ → Linear
variable v = with_coefficient (of_constant (pos 0)) v (pos 1)

-- a product has a form where one of its sides is a number
abbrev pub product : Place → Linear → Linear → Result Linear AffineFault
product p a b = if is_number a then fits (Past p) (scaled_by a.constant b) else (if is_number b then fits (Past p) (scaled_by b.constant a) else Err (NotAffine p))

abbrev pub form_step : Expr-F (Result Linear AffineFault) → Result Linear AffineFault
form_step (expr.Num n) = Ok (of_constant n)
form_step (expr.Name v) = Ok (variable v)
form_step (expr.Neg a p) = bind a (λ x. fits (Past p) (scaled_by (negsuc 0) x))
form_step (expr.Add a b p) = bind a (λ x. bind b (λ y. fits (Past p) (sum_of x y)))
form_step (expr.Sub a b p) = bind a (λ x. bind b (λ y. fits (Past p) (difference_of x y)))
form_step (expr.Mul a b p) = bind a (λ x. bind b (λ y. product p x y))

-- the normal form of an expression, or the fault of its first part that has none, left before right and inner before outer
abbrev pub form_of : Expr → Result Linear AffineFault
form_of e = fold-Expr (Result Linear AffineFault) form_step e

abbrev pub fit_step : Expr-F Bool → Bool
fit_step (expr.Num n) = in_range n
fit_step (expr.Name v) = nat_lt v VARIABLES
fit_step (expr.Neg a p) = a
fit_step (expr.Add a b p) = a && b
fit_step (expr.Sub a b p) = a && b
fit_step (expr.Mul a b p) = a && b

-- what an expression needs so that it can be asked for its normal form: its numbers are in range, its names below the number of variables
abbrev pub is_fit : Expr → Bool
is_fit e = fold-Expr Bool fit_step e

-- an expression with a normal form
abbrev pub is_affine : Expr → Bool
is_affine e = is_fit e && is_ok (form_of e)

abbrev pub ok_or : {A E : Type 0} → A → Result A E → A
ok_or d (Ok x) = x
ok_or d (Err e) = d

-- the normal form of an expression that has one
abbrev pub form : Expr → Linear
form e = ok_or (of_constant (pos 0)) (form_of e)

-- the rows that are all at least 0 where a comparison of two forms holds
abbrev pub rows_by : Op → Linear → Linear → List Linear
rows_by op.Less l r = above_of r l ∷ []
rows_by op.AtMost l r = difference_of r l ∷ []
rows_by op.Greater l r = above_of l r ∷ []
rows_by op.AtLeast l r = difference_of l r ∷ []
rows_by op.Equal l r = difference_of l r ∷ difference_of r l ∷ []
rows_by op.Unequal l r = difference_of l r ∷ difference_of r l ∷ []

abbrev pub is_unequal : Op → Bool
is_unequal op.Unequal = true
is_unequal _ = false

abbrev pub rows_of : Compare → List Linear
rows_of c = rows_by c.op (form c.left) (form c.right)

-- the rows of a conjunction
abbrev pub rows_all : List Compare → List Linear
rows_all [] = []
rows_all (c ∷ cs) = rows_of c ++ rows_all cs

-- both sides of a comparison have a normal form
abbrev pub has_rows : Compare → Bool
has_rows c = is_affine c.left && is_affine c.right

-- a comparison whose rows say where it holds: `!=` is none, since it holds where one of two rows fails
abbrev pub is_plain : Compare → Bool
is_plain c = not (is_unequal c.op) && has_rows c

-- a row that is in range and whose negation is
abbrev pub row_fits : Linear → Bool
row_fits r = is_in_range r && is_in_range (negation r)

abbrev pub fit_rows : Place → List Linear → Result (List Linear) AffineFault
fit_rows p rs = if list_all row_fits rs then Ok rs else Err (Past p)

-- the rows of a comparison, or the fault of the first part of it that has no form, or no row in range
abbrev pub compared_rows : Compare → Result (List Linear) AffineFault
compared_rows c = bind (form_of c.left) (λ l. bind (form_of c.right) (λ r. fit_rows c.place (rows_by c.op l r)))
