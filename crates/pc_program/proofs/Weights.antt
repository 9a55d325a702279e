-- The number of statements, by which the recursion over statements ends.
use Rattle.std.proofs.Common.{◌≡◌, ℕ, zero, suc, ◌+◌, ◌<◌, ◌≤◌, List, [], ◌∷◌, length, get_or, map, ap, arith}
use Rattle.pc_program.specs.declared.tree.Stmt.{Stmt, Stmt-F, fold-Stmt}
use Rattle.pc_program.specs.declared.tree.Stmt.TheOpen as stmt

abbrev total : List ℕ → ℕ
total [] = 0
total (n ∷ ns) = n + total ns

abbrev pub weight_step : Stmt-F ℕ → ℕ
weight_step (stmt.Set p v r) = 1
weight_step (stmt.If p t xs ys) = 2 + (total xs + total ys)
weight_step (stmt.While p t tried xs) = 2 + total xs
weight_step (stmt.Assert p cs) = 1
weight_step (stmt.Assume p cs) = 1

-- the number of statements of one, and of those of a list
abbrev pub weight : Stmt → ℕ
weight x = fold-Stmt ℕ weight_step x

abbrev pub weights : List Stmt → ℕ
weights xs = 1 + total (map weight xs)

weight_at : (xs : List Stmt) (i : ℕ) (x : Stmt) → i < length xs → weight (get_or xs i x) ≤ total (map weight xs)
weight_at [] i x l = absurd (omega arith)
weight_at (y ∷ ys) zero x l = omega arith
weight_at (y ∷ ys) (suc i) x l = let h = weight_at ys i x (omega arith) in omega arith

pub item_smaller : (xs : List Stmt) (i : ℕ) (x : Stmt) → i < length xs → x ≡ get_or xs i x → weight x < weights xs
item_smaller xs i x l e = let h = weight_at xs i x l in let w = ap weight e in omega arith
