-- Induction over expressions.
use Rattle.std.proofs.Common.{◌≡◌, ℕ, ℤ, subst}
use Rattle.pc_text.specs.declared.place.Place.{Place}
use Rattle.pc_program.specs.declared.tree.Expr.{Expr, Expr-F, ind-Expr, roll-Expr, map-Expr}
use Rattle.pc_program.specs.declared.tree.Expr.TheOpen as e

module _ (P : Expr → Type 0)
    (num : (n : ℤ) → P (roll-Expr (e.Num n)))
    (name : (v : ℕ) → P (roll-Expr (e.Name v)))
    (neg : (a : Expr) (p : Place) → P a → P (roll-Expr (e.Neg a p)))
    (add : (a b : Expr) (p : Place) → P a → P b → P (roll-Expr (e.Add a b p)))
    (sub : (a b : Expr) (p : Place) → P a → P b → P (roll-Expr (e.Sub a b p)))
    (mul : (a b : Expr) (p : Place) → P a → P b → P (roll-Expr (e.Mul a b p))) where
  by_layer : (x : Expr-F Expr) (y : Expr-F ((d : Expr) × P d)) → map-Expr ((d : Expr) × P d) Expr (λ d. d.0) y ≡ x → P (roll-Expr x)
  by_layer x (e.Num n) m = subst (λ x. P (roll-Expr x)) m (num n)
  by_layer x (e.Name v) m = subst (λ x. P (roll-Expr x)) m (name v)
  by_layer x (e.Neg a p) m = subst (λ x. P (roll-Expr x)) m (neg a.0 p a.1)
  by_layer x (e.Add a b p) m = subst (λ x. P (roll-Expr x)) m (add a.0 b.0 p a.1 b.1)
  by_layer x (e.Sub a b p) m = subst (λ x. P (roll-Expr x)) m (sub a.0 b.0 p a.1 b.1)
  by_layer x (e.Mul a b p) m = subst (λ x. P (roll-Expr x)) m (mul a.0 b.0 p a.1 b.1)

  pub by_cases : (x : Expr) → P x
  by_cases x = ind-Expr P by_layer x
