-- The pieces of each kind of expression and statement.
use Rattle.std.proofs.Common.{◌≡◌, ℕ, ℤ, ap, List, [], ◌∷◌, map}
use Rattle.pc_text.specs.Bytes.{Bytes}
use Rattle.pc_text.specs.declared.place.Place.{Place}
use Rattle.pc_language.specs.declared.terminal.Terminal.TheVariants as terminal
use Rattle.pc_program.specs.declared.tree.Expr.{Expr, Expr-F, map-Expr, roll-Expr, fold-roll-Expr}
use Rattle.pc_program.specs.declared.tree.Expr.TheVariants as e
use Rattle.pc_program.specs.declared.tree.Compare.{Compare}
use Rattle.pc_program.specs.declared.tree.Test.{Test}
use Rattle.pc_program.specs.declared.tree.Right.{Right}
use Rattle.pc_program.specs.declared.tree.Stmt.{Stmt, Stmt-F, map-Stmt, roll-Stmt, fold-roll-Stmt}
use Rattle.pc_program.specs.declared.tree.Stmt.TheOpen as stmt
use Rattle.pc_program.specs.declared.tree.Stmt.TheVariants as s
use Rattle.pc_show.specs.declared.showing.level.Level.{Level}
use Rattle.pc_show.specs.declared.showing.level.Level.TheVariants as level
use Rattle.pc_show.specs.Pieces.{Piece, Mark, Name, Number}
use Rattle.pc_show.specs.Canonical.{wraps_sum, wraps_product, wraps_negation, wrapped, joined, name_at, expr_step, expr_pieces, stmt_step, stmt_pieces}
use Rattle.pc_program.proofs.Folds.{fold-num, fold-name, fold-neg, fold-add, fold-sub, fold-mul, fold-set, fold-if, fold-while, fold-assert, fold-assume}

module _ (names : List Bytes) where
  pub expr_laid : (x : Expr-F Expr) (l : Level) → expr_pieces names (roll-Expr x) l ≡ expr_step names (map-Expr Expr (Level → List Piece) (expr_pieces names) x) l
  expr_laid x l = ap (λ (f : Level → List Piece). f l) (fold-roll-Expr (Level → List Piece) (expr_step names) x)

  pub stmt_laid : (x : Stmt-F Stmt) (n : ℕ) → stmt_pieces names (roll-Stmt x) n ≡ stmt_step names (map-Stmt Stmt (ℕ → List Piece) (stmt_pieces names) x) n
  stmt_laid x n = ap (λ (f : ℕ → List Piece). f n) (fold-roll-Stmt (ℕ → List Piece) (stmt_step names) x)

  pub num_laid : (z : ℤ) (l : Level) → expr_pieces names (e.Num z) l ≡ Number z ∷ []
  num_laid z l = ap (λ (f : Level → List Piece). f l) (fold-num (Level → List Piece) (expr_step names) z)

  pub name_laid : (v : ℕ) (l : Level) → expr_pieces names (e.Name v) l ≡ Name (name_at names v) ∷ []
  name_laid v l = ap (λ (f : Level → List Piece). f l) (fold-name (Level → List Piece) (expr_step names) v)

  pub neg_laid : (a : Expr) (p : Place) (l : Level) → expr_pieces names (e.Neg a p) l ≡ wrapped (wraps_negation l) (Mark terminal.Minus ∷ expr_pieces names a level.Atom)
  neg_laid a p l = ap (λ (f : Level → List Piece). f l) (fold-neg (Level → List Piece) (expr_step names) a p)

  pub add_laid : (a b : Expr) (p : Place) (l : Level) →
      expr_pieces names (e.Add a b p) l ≡ wrapped (wraps_sum l) (joined (expr_pieces names a level.Expression) terminal.Plus (expr_pieces names b level.Addend))
  add_laid a b p l = ap (λ (f : Level → List Piece). f l) (fold-add (Level → List Piece) (expr_step names) a b p)

  pub sub_laid : (a b : Expr) (p : Place) (l : Level) →
      expr_pieces names (e.Sub a b p) l ≡ wrapped (wraps_sum l) (joined (expr_pieces names a level.Expression) terminal.Minus (expr_pieces names b level.Addend))
  sub_laid a b p l = ap (λ (f : Level → List Piece). f l) (fold-sub (Level → List Piece) (expr_step names) a b p)

  pub mul_laid : (a b : Expr) (p : Place) (l : Level) →
      expr_pieces names (e.Mul a b p) l ≡ wrapped (wraps_product l) (joined (expr_pieces names a level.Addend) terminal.Star (expr_pieces names b level.Factor))
  mul_laid a b p l = ap (λ (f : Level → List Piece). f l) (fold-mul (Level → List Piece) (expr_step names) a b p)

-- ---- statements

module _ (names : List Bytes) where
  pub set_laid : (p : Place) (v : ℕ) (r : Right) (n : ℕ) → stmt_pieces names (s.Set p v r) n ≡ stmt_step names (stmt.Set p v r) n
  set_laid p v r n = ap (λ (f : ℕ → List Piece). f n) (fold-set (ℕ → List Piece) (stmt_step names) p v r)

  pub if_laid : (p : Place) (t : Test) (xs ys : List Stmt) (n : ℕ) →
      stmt_pieces names (s.If p t xs ys) n ≡ stmt_step names (stmt.If p t (map (stmt_pieces names) xs) (map (stmt_pieces names) ys)) n
  if_laid p t xs ys n = ap (λ (f : ℕ → List Piece). f n) (fold-if (ℕ → List Piece) (stmt_step names) p t xs ys)

  pub while_laid : (p : Place) (t : Test) (tried : List Compare) (xs : List Stmt) (n : ℕ) →
      stmt_pieces names (s.While p t tried xs) n ≡ stmt_step names (stmt.While p t tried (map (stmt_pieces names) xs)) n
  while_laid p t tried xs n = ap (λ (f : ℕ → List Piece). f n) (fold-while (ℕ → List Piece) (stmt_step names) p t tried xs)

  pub assert_laid : (p : Place) (cs : List Compare) (n : ℕ) → stmt_pieces names (s.Assert p cs) n ≡ stmt_step names (stmt.Assert p cs) n
  assert_laid p cs n = ap (λ (f : ℕ → List Piece). f n) (fold-assert (ℕ → List Piece) (stmt_step names) p cs)

  pub assume_laid : (p : Place) (cs : List Compare) (n : ℕ) → stmt_pieces names (s.Assume p cs) n ≡ stmt_step names (stmt.Assume p cs) n
  assume_laid p cs n = ap (λ (f : ℕ → List Piece). f n) (fold-assume (ℕ → List Piece) (stmt_step names) p cs)
