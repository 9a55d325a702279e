-- What the walk makes of the parts of an expression, it makes of the whole: the same expression apart from places, with the same form.
use Rattle.std.proofs.Common.{◌≡◌, ℕ, refl, sym, ◌∙◌, ap, ℤ, negsuc, List, Bool, true, false, cond, Some, Result, Ok, Err}
use Rattle.pc_text.specs.Bytes.{Bytes}
use Rattle.pc_text.specs.declared.place.Place.{Place}
use Rattle.pc_text.specs.Named.{number_of}
use Rattle.pc_rows.specs.Linear.{Linear, sum_of, scaled_by, difference_of, of_constant, is_number, is_in_range, fits}
use Rattle.pc_grammar.specs.declared.symbol.Symbol.{Symbol}
use Rattle.pc_grammar.specs.declared.tree.ExprTree.{ExprTree, fold-roll-ExprTree}
use Rattle.pc_grammar.specs.declared.tree.ExprTree.TheOpen as tree_open
use Rattle.pc_grammar.specs.declared.tree.ExprTree.TheVariants as tree
use Rattle.pc_program.specs.declared.tree.Expr.{Expr}
use Rattle.pc_program.specs.declared.tree.Expr.TheVariants as e
use Rattle.pc_program.specs.declared.normal.AffineFault.{AffineFault}
use Rattle.pc_program.specs.declared.normal.AffineFault.TheVariants.{NotAffine, Past}
use Rattle.pc_syntax.specs.declared.fault.SourceFault.{SourceFault}
use Rattle.pc_syntax.specs.declared.walk.Formed.{Formed}
use Rattle.pc_program.specs.Forms.{bind, variable, product}
use Rattle.pc_syntax.specs.Context.{word, known, formed, expr_step, checked_expr}
use Rattle.pc_readback.specs.Bare.{nowhere, bare_expr_step, bare_expr}
use Rattle.pc_program.proofs.Folds.{fold-num, fold-name, fold-neg, fold-add, fold-sub, fold-mul}

-- a result that is handed on to one without fault
pub record Bound {A B E : Type 0} (r : Result A E) (k : A → Result B E) (z : B) : Type 0 where
  pub value : A
  pub first : r ≡ Ok value
  pub second : k value ≡ Ok z

pub bound : {A B E : Type 0} (r : Result A E) (k : A → Result B E) (z : B) → bind r k ≡ Ok z → Bound r k z
bound (Ok x) k z h = record { value = x; first = refl; second = h }
bound (Err f) k z h = absurd (cc)

-- ---- where there is a form, the place of its operator does not matter

pub fits_anywhere : (p q : Place) (a b : Linear) → fits (Past p) a ≡ Ok b → fits (Past q) a ≡ Ok b
fits_anywhere p q a b = by (is_in_range a)
  where
    by : (c : Bool) → cond c (Ok a) (Err (Past p)) ≡ Ok b → cond c (Ok a) (Err (Past q)) ≡ Ok b
    by true h = ap Ok (cc h)
    by false h = absurd (cc)

pub product_anywhere : (p q : Place) (a b c : Linear) → product p a b ≡ Ok c → product q a b ≡ Ok c
product_anywhere p q a b c = by (is_number a) (is_number b)
  where
    by : (m n : Bool) → cond m (fits (Past p) (scaled_by a.constant b)) (cond n (fits (Past p) (scaled_by b.constant a)) (Err (NotAffine p))) ≡ Ok c →
        cond m (fits (Past q) (scaled_by a.constant b)) (cond n (fits (Past q) (scaled_by b.constant a)) (Err (NotAffine q))) ≡ Ok c
    by true n h = fits_anywhere p q (scaled_by a.constant b) c h
    by false true h = fits_anywhere p q (scaled_by b.constant a) c h
    by false false h = absurd (cc)

formed_ok : (x : Expr) (r : Result Linear AffineFault) (f : Linear) → r ≡ Ok f → formed x r ≡ Ok (record { expr = x; form = f })
formed_ok x r f h = rw h refl

module _ (src : Bytes) (names : List Bytes) where
  -- the walk makes of a tree an expression with this form, which is this one without its places
  pub record IsExpr (b : Expr) (f : Linear) (t : ExprTree) : Type 0 where
    pub expr : Expr
    pub walked : checked_expr src names t ≡ Ok (record { expr = expr; form = f })
    pub same : bare_expr expr ≡ b

  pub number_again : (z : ℤ) → IsExpr (e.Num z) (of_constant z) (tree.Num z)
  number_again z = record {
    expr = e.Num z;
    walked = ap (checked_expr src names) (sym (tree.rolls-Num z)) ∙ fold-roll-ExprTree (Result Formed SourceFault) (expr_step src names) (tree_open.Num z);
    same = fold-num Expr bare_expr_step z;
  }

  pub name_again : (s : Symbol) (v : ℕ) → number_of names (word src s) ≡ Some v → IsExpr (e.Name v) (variable v) (tree.Name s)
  name_again s v h = record {
    expr = e.Name v;
    walked = ap (checked_expr src names) (sym (tree.rolls-Name s)) ∙ fold-roll-ExprTree (Result Formed SourceFault) (expr_step src names) (tree_open.Name s)
        ∙ ap (λ o. bind (known o s.place) (λ v. Ok (record { expr = e.Name v; form = variable v }))) h;
    same = fold-name Expr bare_expr_step v;
  }

  pub neg_again : (p q : Place) (b : Expr) (g f : Linear) (t : ExprTree) → fits (Past p) (scaled_by (negsuc 0) g) ≡ Ok f → IsExpr b g t → IsExpr (e.Neg b nowhere) f (tree.Neg t q)
  neg_again p q b g f t h x = record {
    expr = e.Neg x.expr q;
    walked = ap (checked_expr src names) (sym (tree.rolls-Neg t q)) ∙ fold-roll-ExprTree (Result Formed SourceFault) (expr_step src names) (tree_open.Neg t q)
        ∙ ap (λ r. expr_step src names (tree_open.Neg r q)) x.walked ∙ formed_ok (e.Neg x.expr q) _ f (fits_anywhere p q (scaled_by (negsuc 0) g) f h);
    same = fold-neg Expr bare_expr_step x.expr q ∙ ap (λ y. e.Neg y nowhere) x.same;
  }

  module _ (p q : Place) (a b : Expr) (f g k : Linear) (t u : ExprTree) (x : IsExpr a f t) (y : IsExpr b g u) where
    pub add_again : fits (Past p) (sum_of f g) ≡ Ok k → IsExpr (e.Add a b nowhere) k (tree.Add t u q)
    add_again h = record {
      expr = e.Add x.expr y.expr q;
      walked = ap (checked_expr src names) (sym (tree.rolls-Add t u q)) ∙ fold-roll-ExprTree (Result Formed SourceFault) (expr_step src names) (tree_open.Add t u q)
          ∙ ap (λ r. expr_step src names (tree_open.Add r (checked_expr src names u) q)) x.walked ∙ ap (λ r. expr_step src names (tree_open.Add (Ok (record { expr = x.expr; form = f })) r q)) y.walked
          ∙ formed_ok (e.Add x.expr y.expr q) _ k (fits_anywhere p q (sum_of f g) k h);
      same = fold-add Expr bare_expr_step x.expr y.expr q ∙ ap (λ z. e.Add z (bare_expr y.expr) nowhere) x.same ∙ ap (λ z. e.Add a z nowhere) y.same;
    }

    pub sub_again : fits (Past p) (difference_of f g) ≡ Ok k → IsExpr (e.Sub a b nowhere) k (tree.Sub t u q)
    sub_again h = record {
      expr = e.Sub x.expr y.expr q;
      walked = ap (checked_expr src names) (sym (tree.rolls-Sub t u q)) ∙ fold-roll-ExprTree (Result Formed SourceFault) (expr_step src names) (tree_open.Sub t u q)
          ∙ ap (λ r. expr_step src names (tree_open.Sub r (checked_expr src names u) q)) x.walked ∙ ap (λ r. expr_step src names (tree_open.Sub (Ok (record { expr = x.expr; form = f })) r q)) y.walked
          ∙ formed_ok (e.Sub x.expr y.expr q) _ k (fits_anywhere p q (difference_of f g) k h);
      same = fold-sub Expr bare_expr_step x.expr y.expr q ∙ ap (λ z. e.Sub z (bare_expr y.expr) nowhere) x.same ∙ ap (λ z. e.Sub a z nowhere) y.same;
    }

    pub mul_again : product p f g ≡ Ok k → IsExpr (e.Mul a b nowhere) k (tree.Mul t u q)
    mul_again h = record {
      expr = e.Mul x.expr y.expr q;
      walked = ap (checked_expr src names) (sym (tree.rolls-Mul t u q)) ∙ fold-roll-ExprTree (Result Formed SourceFault) (expr_step src names) (tree_open.Mul t u q)
          ∙ ap (λ r. expr_step src names (tree_open.Mul r (checked_expr src names u) q)) x.walked ∙ ap (λ r. expr_step src names (tree_open.Mul (Ok (record { expr = x.expr; form = f })) r q)) y.walked
          ∙ formed_ok (e.Mul x.expr y.expr q) _ k (product_anywhere p q f g k h);
      same = fold-mul Expr bare_expr_step x.expr y.expr q ∙ ap (λ z. e.Mul z (bare_expr y.expr) nowhere) x.same ∙ ap (λ z. e.Mul a z nowhere) y.same;
    }
