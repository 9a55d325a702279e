-- Induction over statements.
use Rattle.std.proofs.Common.{◌≡◌, ℕ, subst, List, [], ◌∷◌, map}
use Rattle.std.specs.List.{AllByRecursion}
use Rattle.pc_text.specs.declared.place.Place.{Place}
use Rattle.pc_program.specs.declared.tree.Compare.{Compare}
use Rattle.pc_program.specs.declared.tree.Test.{Test}
use Rattle.pc_program.specs.declared.tree.Right.{Right}
use Rattle.pc_program.specs.declared.tree.Stmt.{Stmt, Stmt-F, ind-Stmt, roll-Stmt, map-Stmt}
use Rattle.pc_program.specs.declared.tree.Stmt.TheOpen as stmt

each_of : (P : Stmt → Type 0) (xs : List ((d : Stmt) × P d)) → AllByRecursion P (map (λ x. x.0) xs)
each_of P [] = tt
each_of P (x ∷ xs) = (x.1, each_of P xs)

module _ (P : Stmt → Type 0)
    (set : (p : Place) (v : ℕ) (r : Right) → P (roll-Stmt (stmt.Set p v r)))
    (split : (p : Place) (t : Test) (xs ys : List Stmt) → AllByRecursion P xs → AllByRecursion P ys → P (roll-Stmt (stmt.If p t xs ys)))
    (loop : (p : Place) (t : Test) (tried : List Compare) (xs : List Stmt) → AllByRecursion P xs → P (roll-Stmt (stmt.While p t tried xs)))
    (check : (p : Place) (cs : List Compare) → P (roll-Stmt (stmt.Assert p cs)))
    (assume : (p : Place) (cs : List Compare) → P (roll-Stmt (stmt.Assume p cs))) where
  layer : (x : Stmt-F Stmt) (y : Stmt-F ((d : Stmt) × P d)) → map-Stmt ((d : Stmt) × P d) Stmt (λ d. d.0) y ≡ x → P (roll-Stmt x)
  layer x (stmt.Set p v r) m = subst (λ x. P (roll-Stmt x)) m (set p v r)
  layer x (stmt.If p t xs ys) m = subst (λ x. P (roll-Stmt x)) m (split p t (map (λ d. d.0) xs) (map (λ d. d.0) ys) (each_of P xs) (each_of P ys))
  layer x (stmt.While p t tried xs) m = subst (λ x. P (roll-Stmt x)) m (loop p t tried (map (λ d. d.0) xs) (each_of P xs))
  layer x (stmt.Assert p cs) m = subst (λ x. P (roll-Stmt x)) m (check p cs)
  layer x (stmt.Assume p cs) m = subst (λ x. P (roll-Stmt x)) m (assume p cs)

  pub by_stmt : (x : Stmt) → P x
  by_stmt x = ind-Stmt P layer x

-- what holds of all things holds of each of a list
pub all_by : {A : Type 0} (P : A → Type 0) → ((x : A) → P x) → (xs : List A) → AllByRecursion P xs
all_by P f [] = tt
all_by P f (x ∷ xs) = (f x, all_by P f xs)
