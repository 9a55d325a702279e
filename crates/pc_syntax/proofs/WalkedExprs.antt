-- The walk gives expressions with their normal forms.
use Rattle.std.proofs.Common.{◌≡◌, ℕ, ◌+◌, ◌<◌, ◌≤◌, ℤ, negsuc, ◌∙◌, ap, arith, List, [], ◌∷◌, length, Bool, true, false, cond, Option, Some, None, Result, Ok, Err}
use Rattle.std.specs.Prelude.{◌&&◌, IfOk, IfSome, nat_lt, is_ok, option_map}
use Rattle.std.specs.Str.{bytes_eq}
use Rattle.std.proofs.lemmas.Bool.{lt-ltb}
use Rattle.pc_text.specs.declared.place.Place.{Place}
use Rattle.pc_rows.specs.Linear.{Linear, sum_of, difference_of, scaled_by, of_constant, in_range, fits}
use Rattle.pc_rows.specs.declared.row.TheConstants.{VARIABLES}
use Rattle.pc_grammar.specs.declared.symbol.Symbol.{Symbol}
use Rattle.pc_grammar.specs.declared.tree.ExprTree.{ExprTree, fold-roll-ExprTree}
use Rattle.pc_grammar.specs.declared.tree.ExprTree.TheOpen as expr_open
use Rattle.pc_program.specs.declared.tree.Expr.{Expr}
use Rattle.pc_program.specs.declared.tree.Expr.TheVariants as e
use Rattle.pc_program.specs.declared.tree.Expr.TheOpen as expr
use Rattle.pc_program.specs.declared.normal.AffineFault.{AffineFault}
use Rattle.pc_program.specs.declared.normal.AffineFault.TheVariants.{Past}
use Rattle.pc_syntax.specs.declared.fault.SourceFault.{SourceFault}
use Rattle.pc_syntax.specs.declared.walk.Formed.{Formed}
use Rattle.pc_text.specs.Named.{number_of}
use Rattle.pc_text.specs.Bytes.{Bytes}
use Rattle.pc_program.specs.Forms.{bind, variable, product, form_step, form_of, fit_step, is_fit, is_affine}
use Rattle.pc_program.specs.Sane.{below_step, names_below, sane_expr}
use Rattle.pc_syntax.specs.Context.{word, known, resolved, formed, expr_step, checked_expr}
use Rattle.pc_syntax.specs.Trees.{fit_expr}
use Rattle.pc_program.proofs.Results.{and_is, and_of, bind_keeps}
use Rattle.pc_syntax.proofs.Trees.{by_expr}
use Rattle.pc_program.proofs.Folds.{fold-num, fold-name, fold-neg, fold-add, fold-sub, fold-mul}

-- ---- names

-- the number of a name is below their count
pub number_below : (names : List Bytes) (w : Bytes) → IfSome (number_of names w) (λ v. v < length names)
number_below [] w = tt
number_below (name ∷ names) w = by (bytes_eq name w) (number_of names w) (number_below names w)
  where
    by : (b : Bool) (o : Option ℕ) → IfSome o (λ v. v < length names) → IfSome (cond b (Some 0) (option_map (λ (v : ℕ). v + 1) o)) (λ v. v < length (name ∷ names))
    by true o h = omega arith
    by false None h = tt
    by false (Some v) h = omega arith

resolved_below : (src : Bytes) (names : List Bytes) (s : Symbol) → IfOk (resolved src names s) (λ v. v < length names)
resolved_below src names s = by (number_of names (word src s)) (number_below names (word src s))
  where
    by : (o : Option ℕ) → IfSome o (λ v. v < length names) → IfOk (known o s.place) (λ v. v < length names)
    by None h = tt
    by (Some v) h = h

pub resolved_test : (src : Bytes) (names : List Bytes) (s : Symbol) → IfOk (resolved src names s) (λ v. nat_lt v (length names) ≡ true)
resolved_test src names s = by (resolved src names s) (resolved_below src names s)
  where
    by : (r : Result ℕ SourceFault) → IfOk r (λ v. v < length names) → IfOk r (λ v. nat_lt v (length names) ≡ true)
    by (Ok v) h = lt-ltb v (length names) h
    by (Err e) h = tt

-- ---- expressions

-- an expression over n variables, and its normal form
pub record IsFormed (n : ℕ) (x : Formed) : Type 0 where
  pub fit : is_fit x.expr ≡ true
  pub found : form_of x.expr ≡ Ok x.form
  pub below : names_below n x.expr ≡ true

pub formed_sane : (n : ℕ) (x : Formed) → IsFormed n x → sane_expr n x.expr ≡ true
formed_sane n x h = and_of (is_affine x.expr) (names_below n x.expr) (and_of (is_fit x.expr) (is_ok (form_of x.expr)) h.fit (ap is_ok h.found)) h.below

formed_keeps : (n : ℕ) (x : Expr) (r : Result Linear AffineFault) → is_fit x ≡ true → form_of x ≡ r → names_below n x ≡ true → IfOk (formed x r) (IsFormed n)
formed_keeps n x (Ok r) h k b = record { fit = h; found = k; below = b }
formed_keeps n x (Err f) h k b = tt

-- a tree that the grammar keeps, as a claim over its test and the walk's answer
Claim : ℕ → Bool → Result Formed SourceFault → Type 0
Claim n fit r = fit ≡ true → IfOk r (IsFormed n)

each_claim : (n : ℕ) (f : Formed → Result Formed SourceFault) → ((x : Formed) → IsFormed n x → IfOk (f x) (IsFormed n)) →
    (fit : Bool) (r : Result Formed SourceFault) → Claim n fit r → Claim n fit (bind r f)
unfolding Claim
each_claim n f step fit r h k = bind_keeps (IsFormed n) (IsFormed n) r f step (h k)

both_claim : (n : ℕ) (f : Formed → Formed → Result Formed SourceFault) → ((x y : Formed) → IsFormed n x → IsFormed n y → IfOk (f x y) (IsFormed n)) →
    (fit fit' : Bool) (r q : Result Formed SourceFault) → Claim n fit r → Claim n fit' q → Claim n (fit && fit') (bind r (λ x. bind q (λ y. f x y)))
unfolding Claim
both_claim n f step fit fit' r q h k e =
    let p = and_is fit fit' e in
    bind_keeps (IsFormed n) (IsFormed n) r (λ x. bind q (λ y. f x y)) (λ x i. bind_keeps (IsFormed n) (IsFormed n) q (λ y. f x y) (λ y j. step x y i j) (k p.1)) (h p.0)

module _ (n : ℕ) (p : Place) (x : Formed) (i : IsFormed n x) where
  neg_formed : IfOk (formed (e.Neg x.expr p) (fits (Past p) (scaled_by (negsuc 0) x.form))) (IsFormed n)
  neg_formed = formed_keeps n (e.Neg x.expr p) (fits (Past p) (scaled_by (negsuc 0) x.form))
      (fold-neg Bool fit_step x.expr p ∙ i.fit)
      (fold-neg (Result Linear AffineFault) form_step x.expr p ∙ ap (λ r. form_step (expr.Neg r p)) i.found)
      (fold-neg Bool (below_step n) x.expr p ∙ i.below)

  module _ (y : Formed) (j : IsFormed n y) where
    add_formed : IfOk (formed (e.Add x.expr y.expr p) (fits (Past p) (sum_of x.form y.form))) (IsFormed n)
    add_formed = formed_keeps n (e.Add x.expr y.expr p) (fits (Past p) (sum_of x.form y.form))
        (fold-add Bool fit_step x.expr y.expr p ∙ and_of (is_fit x.expr) (is_fit y.expr) i.fit j.fit)
        (fold-add (Result Linear AffineFault) form_step x.expr y.expr p ∙ ap (λ r. form_step (expr.Add r (form_of y.expr) p)) i.found ∙ ap (λ r. form_step (expr.Add (Ok x.form) r p)) j.found)
        (fold-add Bool (below_step n) x.expr y.expr p ∙ and_of (names_below n x.expr) (names_below n y.expr) i.below j.below)

    sub_formed : IfOk (formed (e.Sub x.expr y.expr p) (fits (Past p) (difference_of x.form y.form))) (IsFormed n)
    sub_formed = formed_keeps n (e.Sub x.expr y.expr p) (fits (Past p) (difference_of x.form y.form))
        (fold-sub Bool fit_step x.expr y.expr p ∙ and_of (is_fit x.expr) (is_fit y.expr) i.fit j.fit)
        (fold-sub (Result Linear AffineFault) form_step x.expr y.expr p ∙ ap (λ r. form_step (expr.Sub r (form_of y.expr) p)) i.found ∙ ap (λ r. form_step (expr.Sub (Ok x.form) r p)) j.found)
        (fold-sub Bool (below_step n) x.expr y.expr p ∙ and_of (names_below n x.expr) (names_below n y.expr) i.below j.below)

    mul_formed : IfOk (formed (e.Mul x.expr y.expr p) (product p x.form y.form)) (IsFormed n)
    mul_formed = formed_keeps n (e.Mul x.expr y.expr p) (product p x.form y.form)
        (fold-mul Bool fit_step x.expr y.expr p ∙ and_of (is_fit x.expr) (is_fit y.expr) i.fit j.fit)
        (fold-mul (Result Linear AffineFault) form_step x.expr y.expr p ∙ ap (λ r. form_step (expr.Mul r (form_of y.expr) p)) i.found ∙ ap (λ r. form_step (expr.Mul (Ok x.form) r p)) j.found)
        (fold-mul Bool (below_step n) x.expr y.expr p ∙ and_of (names_below n x.expr) (names_below n y.expr) i.below j.below)

number_formed : (n : ℕ) (z : ℤ) → in_range z ≡ true → IsFormed n (record { expr = e.Num z; form = of_constant z })
number_formed n z h = record {
  fit = fold-num Bool fit_step z ∙ h;
  found = fold-num (Result Linear AffineFault) form_step z;
  below = fold-num Bool (below_step n) z;
}

name_formed : (n : ℕ) → n ≤ VARIABLES → (v : ℕ) → v < n → IsFormed n (record { expr = e.Name v; form = variable v })
name_formed n few v h = record {
  fit = fold-name Bool fit_step v ∙ lt-ltb v VARIABLES (omega arith);
  found = fold-name (Result Linear AffineFault) form_step v;
  below = fold-name Bool (below_step n) v ∙ lt-ltb v n h;
}

module _ (src : Bytes) (names : List Bytes) (few : length names ≤ VARIABLES) (n : ℕ) where
  name_claim : (s : Symbol) → IfOk (expr_step src names (expr_open.Name s)) (IsFormed (length names))
  name_claim s = bind_keeps (λ v. v < length names) (IsFormed (length names)) (resolved src names s)
      (λ v. Ok (record { expr = e.Name v; form = variable v })) (name_formed (length names) few) (resolved_below src names s)

  expr_claims : (tree : ExprTree) → Claim (length names) (fit_expr n tree) (checked_expr src names tree)
  unfolding Claim
  expr_claims tree = by_expr (λ tree. Claim (length names) (fit_expr n tree) (checked_expr src names tree))
      (λ z. simp fold-roll-ExprTree (λ h. number_formed (length names) z h))
      (λ s. simp fold-roll-ExprTree (λ h. name_claim s))
      (λ a p h. simp fold-roll-ExprTree (each_claim (length names) (λ x. formed (e.Neg x.expr p) (fits (Past p) (scaled_by (negsuc 0) x.form))) (λ x i. neg_formed (length names) p x i) _ _ h))
      (λ a b p h k. simp fold-roll-ExprTree (both_claim (length names) (λ x y. formed (e.Add x.expr y.expr p) (fits (Past p) (sum_of x.form y.form))) (λ x y i j. add_formed (length names) p x i y j) _ _ _ _ h k))
      (λ a b p h k. simp fold-roll-ExprTree (both_claim (length names) (λ x y. formed (e.Sub x.expr y.expr p) (fits (Past p) (difference_of x.form y.form))) (λ x y i j. sub_formed (length names) p x i y j) _ _ _ _ h k))
      (λ a b p h k. simp fold-roll-ExprTree (both_claim (length names) (λ x y. formed (e.Mul x.expr y.expr p) (product p x.form y.form)) (λ x y i j. mul_formed (length names) p x i y j) _ _ _ _ h k))
      tree

  pub walked_expr : (tree : ExprTree) → fit_expr n tree ≡ true → IfOk (checked_expr src names tree) (IsFormed (length names))
  unfolding Claim
  walked_expr tree h = expr_claims tree h
