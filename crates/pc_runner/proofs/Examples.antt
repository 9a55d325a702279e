-- The definitions at worked texts.
use Rattle.std.proofs.Common.{◌≡◌, ℕ, ℤ, refl, ap, get_or, pos, negsuc, List, [], ◌∷◌, Option, Some, None, Ok, Err, codes}
use Rattle.pc_text.specs.declared.place.Place.{Place}
use Rattle.pc_text.specs.Lexemes.{class}
use Rattle.pc_language.specs.declared.operator.Op.TheVariants as op
use Rattle.pc_language.specs.declared.choice.Bound.TheVariants.{At, Open}
use Rattle.pc_program.specs.declared.tree.Expr.{roll-Expr, fold-roll-Expr}
use Rattle.pc_program.specs.declared.tree.Expr.TheOpen as e
use Rattle.pc_program.specs.declared.tree.Stmt.{Stmt, roll-Stmt, out-roll-Stmt}
use Rattle.pc_program.specs.declared.tree.Stmt.TheOpen as s
use Rattle.pc_rows.specs.Linear.{State}
use Rattle.pc_program.specs.Values.{value_step, value_of}
use Rattle.pc_program.specs.Machine.{clamped}
use Rattle.pc_runner.specs.declared.fault.ScriptFault.TheVariants as fault
use Rattle.pc_runner.specs.declared.verdict.Verdict.TheVariants as verdict
use Rattle.pc_runner.specs.Computed.{Computed, worked_step, in_expr}
use Rattle.pc_runner.specs.Scripts.{script_of}
use Rattle.pc_runner.specs.Verdicts.{verdict_from}

-- ---- scripts

repeated : script_of 1 (codes "entry 6\nchoose 1 3\nchoose 0\n") ≡ Ok (record { entry = pos 6 ∷ []; choices = pos 1 ∷ pos 1 ∷ pos 1 ∷ pos 0 ∷ [] })
unfolding script_of
repeated = refl

no_choices : script_of 1 (codes "entry 6\n") ≡ Ok (record { entry = pos 6 ∷ []; choices = [] })
unfolding script_of
no_choices = refl

two_values : script_of 1 (codes "entry 6 7\n") ≡ Err (fault.Values 2 1)
unfolding script_of
two_values = refl

other_word : script_of 1 (codes "enter 6\n") ≡ Err (fault.Form 1)
unfolding script_of
other_word = refl

nothing : script_of 1 [] ≡ Err (fault.Form 1)
unfolding script_of
nothing = refl

no_line_feed : script_of 1 (codes "entry 6\nchoose 1") ≡ Err (fault.Form 2)
unfolding script_of
no_line_feed = refl

two_spaces : script_of 1 (codes "entry 6\nchoose  1\n") ≡ Err (fault.Form 2)
unfolding script_of
two_spaces = refl

leading_zero : script_of 1 (codes "entry 6\nchoose 01\n") ≡ Err (fault.Form 2)
unfolding script_of class
leading_zero = refl

never : script_of 1 (codes "entry 6\nchoose 1 0\n") ≡ Err (fault.Number 2)
unfolding script_of
never = refl

-- 2^127 is told before the number of values
too_large : script_of 1 (codes "entry 170141183460469231731687303715884105728 1\n") ≡ Err (fault.Number 1)
unfolding script_of class
too_large = refl

-- ---- choices from intervals

below_its_end : clamped (Some (pos 2)) None (negsuc 3) ≡ pos 2
below_its_end = refl

above_its_end : clamped None (Some (pos 2)) (pos 7) ≡ pos 2
above_its_end = refl

beyond_open_ends : clamped None None (negsuc 3) ≡ negsuc 3
beyond_open_ends = refl

-- ---- runs of: entry (x) { x = x + [0, *]; assert (x <= 5); }

abbrev column : ℕ → Place
column c = record { line = 1; column = c }

abbrev body : List Stmt
body =
    roll-Stmt (s.Set (column 13) 0 (record { expr = roll-Expr (e.Name 0); choice = Some (record { lo = At (pos 0); hi = Open; place = column 21 }) }))
    ∷ roll-Stmt (s.Assert (column 29) (record { op = op.AtMost; left = roll-Expr (e.Name 0); right = roll-Expr (e.Num (pos 5)); place = column 39 } ∷ []))
    ∷ []

-- a name or a number alone computes nothing
in_name : (s : State) (v : ℕ) → in_expr s (roll-Expr (e.Name v)) ≡ []
in_name s v = ap (λ (z : ℤ × List Computed). z.1) (fold-roll-Expr (ℤ × List Computed) (worked_step s) (e.Name v))

in_number : (s : State) (n : ℤ) → in_expr s (roll-Expr (e.Num n)) ≡ []
in_number s n = ap (λ (z : ℤ × List Computed). z.1) (fold-roll-Expr (ℤ × List Computed) (worked_step s) (e.Num n))

value_of_name : (s : State) (v : ℕ) → value_of s (roll-Expr (e.Name v)) ≡ get_or s v (pos 0)
value_of_name s v = fold-roll-Expr ℤ (value_step s) (e.Name v)

value_of_number : (s : State) (n : ℤ) → value_of s (roll-Expr (e.Num n)) ≡ n
value_of_number s n = fold-roll-Expr ℤ (value_step s) (e.Num n)

above_the_number : verdict_from body (pos 0 ∷ []) (pos 6 ∷ pos 6 ∷ []) ≡ verdict.Violated 2 (column 29)
above_the_number = simp (out-roll-Stmt, in_name, in_number, value_of_name, value_of_number)

below_the_number : verdict_from body (pos 0 ∷ []) (negsuc 3 ∷ negsuc 3 ∷ []) ≡ verdict.Going (pos 0 ∷ [])
below_the_number = simp (out-roll-Stmt, in_name, in_number, value_of_name, value_of_number)
