-- Programs of assertions and assumptions alone.
use Rattle.std.specs.Prelude.{◌≡◌, ◌≤◌, ◌+◌, ℕ, Bool, true, false, List, [], ◌∷◌, length, map}
use Rattle.pc_rows.specs.declared.rows.TheConstants.{ROWS}
use Rattle.pc_program.specs.Forms.{rows_all}
use Rattle.pc_program.specs.Sane.{all_true}
use Rattle.pc_program.specs.declared.program.Program.{Program}
use Rattle.pc_program.specs.declared.tree.Stmt.{Stmt, Stmt-F, fold-Stmt}
use Rattle.pc_program.specs.declared.tree.Stmt.TheOpen as stmt

abbrev pub check_step : Stmt-F Bool → Bool
check_step (stmt.Set p v r) = false
check_step (stmt.If p t xs ys) = false
check_step (stmt.While p t tried xs) = false
check_step (stmt.Assert p cs) = true
check_step (stmt.Assume p cs) = true

-- an assertion or an assumption
abbrev pub is_check : Stmt → Bool
is_check x = fold-Stmt Bool check_step x

abbrev pub are_checks : List Stmt → Bool
are_checks xs = all_true (map is_check xs)

abbrev pub rows_step : Stmt-F ℕ → ℕ
rows_step (stmt.Set p v r) = 0
rows_step (stmt.If p t xs ys) = 0
rows_step (stmt.While p t tried xs) = 0
rows_step (stmt.Assert p cs) = length (rows_all cs)
rows_step (stmt.Assume p cs) = length (rows_all cs)

-- how many rows it has
abbrev pub rows_of : Stmt → ℕ
rows_of x = fold-Stmt ℕ rows_step x

abbrev pub rows_count : List Stmt → ℕ
rows_count [] = 0
rows_count (x ∷ xs) = rows_of x + rows_count xs

-- no locals, and assertions and assumptions alone, with at most ROWS rows together
pub record AreChecks (p : Program) : Type 0 where
  pub locals : p.names.params ≡ length p.names.names
  pub checks : are_checks p.body ≡ true
  pub few : rows_count p.body ≤ ROWS
