-- Folds and induction over parse trees.
use Rattle.std.proofs.Common.{◌≡◌, ℤ, ap, sym, ◌∙◌, subst, List, [], ◌∷◌, map}
use Rattle.std.specs.List.{AllByRecursion}
use Rattle.pc_text.specs.declared.place.Place.{Place}
use Rattle.pc_grammar.specs.declared.symbol.Symbol.{Symbol}
use Rattle.pc_grammar.specs.declared.tree.ExprTree.{ExprTree, ExprTree-F, fold-ExprTree, fold-roll-ExprTree, ind-ExprTree, roll-ExprTree, map-ExprTree}
use Rattle.pc_grammar.specs.declared.tree.ExprTree.TheVariants as expr_is
use Rattle.pc_grammar.specs.declared.tree.ExprTree.TheOpen as expr
use Rattle.pc_grammar.specs.declared.tree.CompareTree.{CompareTree}
use Rattle.pc_grammar.specs.declared.tree.TestTree.{TestTree}
use Rattle.pc_grammar.specs.declared.tree.RightTree.{RightTree}
use Rattle.pc_grammar.specs.declared.tree.StmtTree.{StmtTree, StmtTree-F, fold-StmtTree, fold-roll-StmtTree, ind-StmtTree, roll-StmtTree, map-StmtTree}
use Rattle.pc_grammar.specs.declared.tree.StmtTree.TheVariants as stmt_is
use Rattle.pc_grammar.specs.declared.tree.StmtTree.TheOpen as stmt

-- ---- a fold at each kind of tree

module _ (A : Type 0) (step : ExprTree-F A → A) where
  abbrev expr_worth : ExprTree → A
  expr_worth t = fold-ExprTree A step t

  pub at-num : (z : ℤ) → expr_worth (expr_is.Num z) ≡ step (expr.Num z)
  at-num z = ap expr_worth (sym (expr_is.rolls-Num z)) ∙ fold-roll-ExprTree A step (expr.Num z)

  pub at-name : (s : Symbol) → expr_worth (expr_is.Name s) ≡ step (expr.Name s)
  at-name s = ap expr_worth (sym (expr_is.rolls-Name s)) ∙ fold-roll-ExprTree A step (expr.Name s)

  pub at-neg : (a : ExprTree) (p : Place) → expr_worth (expr_is.Neg a p) ≡ step (expr.Neg (expr_worth a) p)
  at-neg a p = ap expr_worth (sym (expr_is.rolls-Neg a p)) ∙ fold-roll-ExprTree A step (expr.Neg a p)

  pub at-add : (a b : ExprTree) (p : Place) → expr_worth (expr_is.Add a b p) ≡ step (expr.Add (expr_worth a) (expr_worth b) p)
  at-add a b p = ap expr_worth (sym (expr_is.rolls-Add a b p)) ∙ fold-roll-ExprTree A step (expr.Add a b p)

  pub at-sub : (a b : ExprTree) (p : Place) → expr_worth (expr_is.Sub a b p) ≡ step (expr.Sub (expr_worth a) (expr_worth b) p)
  at-sub a b p = ap expr_worth (sym (expr_is.rolls-Sub a b p)) ∙ fold-roll-ExprTree A step (expr.Sub a b p)

  pub at-mul : (a b : ExprTree) (p : Place) → expr_worth (expr_is.Mul a b p) ≡ step (expr.Mul (expr_worth a) (expr_worth b) p)
  at-mul a b p = ap expr_worth (sym (expr_is.rolls-Mul a b p)) ∙ fold-roll-ExprTree A step (expr.Mul a b p)

module _ (A : Type 0) (step : StmtTree-F A → A) where
  abbrev stmt_worth : StmtTree → A
  stmt_worth t = fold-StmtTree A step t

  pub at-set : (s : Symbol) (r : RightTree) → stmt_worth (stmt_is.Set s r) ≡ step (stmt.Set s r)
  at-set s r = ap stmt_worth (sym (stmt_is.rolls-Set s r)) ∙ fold-roll-StmtTree A step (stmt.Set s r)

  pub at-if : (p : Place) (t : TestTree) (xs ys : List StmtTree) → stmt_worth (stmt_is.If p t xs ys) ≡ step (stmt.If p t (map stmt_worth xs) (map stmt_worth ys))
  at-if p t xs ys = ap stmt_worth (sym (stmt_is.rolls-If p t xs ys)) ∙ fold-roll-StmtTree A step (stmt.If p t xs ys)

  pub at-while : (p : Place) (t : TestTree) (cs : List CompareTree) (xs : List StmtTree) → stmt_worth (stmt_is.While p t cs xs) ≡ step (stmt.While p t cs (map stmt_worth xs))
  at-while p t cs xs = ap stmt_worth (sym (stmt_is.rolls-While p t cs xs)) ∙ fold-roll-StmtTree A step (stmt.While p t cs xs)

  pub at-assert : (p : Place) (cs : List CompareTree) → stmt_worth (stmt_is.Assert p cs) ≡ step (stmt.Assert p cs)
  at-assert p cs = ap stmt_worth (sym (stmt_is.rolls-Assert p cs)) ∙ fold-roll-StmtTree A step (stmt.Assert p cs)

  pub at-assume : (p : Place) (cs : List CompareTree) → stmt_worth (stmt_is.Assume p cs) ≡ step (stmt.Assume p cs)
  at-assume p cs = ap stmt_worth (sym (stmt_is.rolls-Assume p cs)) ∙ fold-roll-StmtTree A step (stmt.Assume p cs)

-- ---- induction

module _ (P : ExprTree → Type 0)
    (num : (n : ℤ) → P (roll-ExprTree (expr.Num n)))
    (name : (s : Symbol) → P (roll-ExprTree (expr.Name s)))
    (neg : (a : ExprTree) (p : Place) → P a → P (roll-ExprTree (expr.Neg a p)))
    (add : (a b : ExprTree) (p : Place) → P a → P b → P (roll-ExprTree (expr.Add a b p)))
    (sub : (a b : ExprTree) (p : Place) → P a → P b → P (roll-ExprTree (expr.Sub a b p)))
    (mul : (a b : ExprTree) (p : Place) → P a → P b → P (roll-ExprTree (expr.Mul a b p))) where
  expr_layer : (x : ExprTree-F ExprTree) (y : ExprTree-F ((d : ExprTree) × P d)) → map-ExprTree ((d : ExprTree) × P d) ExprTree (λ d. d.0) y ≡ x → P (roll-ExprTree x)
  expr_layer x (expr.Num n) m = subst (λ x. P (roll-ExprTree x)) m (num n)
  expr_layer x (expr.Name s) m = subst (λ x. P (roll-ExprTree x)) m (name s)
  expr_layer x (expr.Neg a p) m = subst (λ x. P (roll-ExprTree x)) m (neg a.0 p a.1)
  expr_layer x (expr.Add a b p) m = subst (λ x. P (roll-ExprTree x)) m (add a.0 b.0 p a.1 b.1)
  expr_layer x (expr.Sub a b p) m = subst (λ x. P (roll-ExprTree x)) m (sub a.0 b.0 p a.1 b.1)
  expr_layer x (expr.Mul a b p) m = subst (λ x. P (roll-ExprTree x)) m (mul a.0 b.0 p a.1 b.1)

  pub by_expr : (x : ExprTree) → P x
  by_expr x = ind-ExprTree P expr_layer x

each_of : (P : StmtTree → Type 0) (xs : List ((d : StmtTree) × P d)) → AllByRecursion P (map (λ x. x.0) xs)
each_of P [] = tt
each_of P (x ∷ xs) = (x.1, each_of P xs)

module _ (P : StmtTree → Type 0)
    (set : (name : Symbol) (r : RightTree) → P (roll-StmtTree (stmt.Set name r)))
    (split : (p : Place) (t : TestTree) (xs ys : List StmtTree) → AllByRecursion P xs → AllByRecursion P ys → P (roll-StmtTree (stmt.If p t xs ys)))
    (loop : (p : Place) (t : TestTree) (tried : List CompareTree) (xs : List StmtTree) → AllByRecursion P xs → P (roll-StmtTree (stmt.While p t tried xs)))
    (check : (p : Place) (cs : List CompareTree) → P (roll-StmtTree (stmt.Assert p cs)))
    (assume : (p : Place) (cs : List CompareTree) → P (roll-StmtTree (stmt.Assume p cs))) where
  stmt_layer : (x : StmtTree-F StmtTree) (y : StmtTree-F ((d : StmtTree) × P d)) → map-StmtTree ((d : StmtTree) × P d) StmtTree (λ d. d.0) y ≡ x → P (roll-StmtTree x)
  stmt_layer x (stmt.Set name r) m = subst (λ x. P (roll-StmtTree x)) m (set name r)
  stmt_layer x (stmt.If p t xs ys) m = subst (λ x. P (roll-StmtTree x)) m (split p t (map (λ d. d.0) xs) (map (λ d. d.0) ys) (each_of P xs) (each_of P ys))
  stmt_layer x (stmt.While p t tried xs) m = subst (λ x. P (roll-StmtTree x)) m (loop p t tried (map (λ d. d.0) xs) (each_of P xs))
  stmt_layer x (stmt.Assert p cs) m = subst (λ x. P (roll-StmtTree x)) m (check p cs)
  stmt_layer x (stmt.Assume p cs) m = subst (λ x. P (roll-StmtTree x)) m (assume p cs)

  pub by_stmt : (x : StmtTree) → P x
  by_stmt x = ind-StmtTree P stmt_layer x
