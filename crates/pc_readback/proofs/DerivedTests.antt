-- The symbols of the pieces of comparisons, conjunctions and tests derive trees, of which the walk makes them again.
use Rattle.std.proofs.Common.{◌≡◌, ℕ, ◌+◌, refl, ◌∙◌, ap, arith, List, [], ◌∷◌, ◌++◌, length, Bool, true, false}
use Rattle.std.specs.Prelude.{◌&&◌, ◌||◌, not, nat_le}
use Rattle.std.specs.List.{list_all}
use Rattle.pc_text.specs.Bytes.{Bytes}
use Rattle.pc_text.specs.Named.{AreDistinct}
use Rattle.pc_grammar.specs.declared.symbol.Symbol.{Symbol}
use Rattle.pc_language.specs.declared.terminal.Terminal.TheVariants as terminal
use Rattle.pc_language.specs.declared.operator.Op.{Op}
use Rattle.pc_language.specs.declared.operator.Op.TheVariants as op
use Rattle.pc_grammar.specs.declared.tree.ExprTree.{ExprTree}
use Rattle.pc_grammar.specs.declared.tree.CompareTree.{CompareTree}
use Rattle.pc_grammar.specs.declared.tree.TestTree.{TestTree}
use Rattle.pc_language.specs.declared.limits.TheConstants.{COMPARISONS}
use Rattle.pc_grammar.specs.Combinators.{Lang, is_map, is_both, is_many}
use Rattle.pc_grammar.specs.Terminals.{has, is_one, is_one_of}
use Rattle.pc_grammar.specs.Expressions.{is_expr_in, is_paren}
use Rattle.pc_grammar.specs.Statements as grammar
use Rattle.pc_program.specs.declared.tree.Expr.{Expr}
use Rattle.pc_program.specs.declared.tree.Compare.{Compare}
use Rattle.pc_program.specs.declared.tree.Test.{Test}
use Rattle.pc_program.specs.declared.tree.Test.TheVariants as test
use Rattle.pc_show.specs.declared.showing.level.Level.TheVariants as level
use Rattle.pc_show.specs.Pieces.{Piece, Mark}
use Rattle.pc_show.specs.Canonical.{spaced, sign_of, expr_pieces, compare_pieces, further_pieces, all_pieces, test_pieces}
use Rattle.pc_program.specs.Forms.{form, is_affine, is_unequal, rows_of, row_fits}
use Rattle.pc_program.specs.Sane.{names_below, sane_expr, sane_compare, sane_each, sane_test}
use Rattle.pc_program.proofs.Results.{and_is, and_of}
use Rattle.pc_program.proofs.FormLemmas.{forms_are_right}
use Rattle.pc_syntax.proofs.WalkedTests.{may_stand}
use Rattle.pc_readback.proofs.Derived.{Derive, Derivable, Both, Front, derive_as, derive_map, derive_both, derive_left, derive_right, derive_one, derive_one_of, derive_nil, derive_cons}
use Rattle.pc_readback.proofs.DerivedExprs.{Shown, shown_expr}
use Rattle.pc_readback.proofs.ComparesAgain.{IsCompare, AreCompares, IsTest, compare_again, none_again, more_again, any_again, one_again, several_again}

sign_is : (o : Op) → has grammar.operators (sign_of o) ≡ true
sign_is op.Less = refl
sign_is o = refl

-- a sign says its operator
sign_says : (o : Op) → grammar.op_of (sign_of o) ≡ o
sign_says op.Less = refl
sign_says o = refl

module _ (src : Bytes) (names : List Bytes) (distinct : AreDistinct names) where
  -- an expression that keeps the context rules
  pub sane_shown : (x : Expr) → sane_expr (length names) x ≡ true → Shown src names distinct x (form x) level.Expression
  sane_shown x h =
      let p = and_is (is_affine x) (names_below (length names) x) h in
      shown_expr src names distinct x (form x) (forms_are_right x p.0).found p.1 level.Expression

  -- ---- one comparison

  compare_derives : (P : Lang ExprTree) (ps qs : List Piece) (o : Op) (X Y : ExprTree → Type 0) (Q : CompareTree → Type 0) →
      ((s : Symbol) (x y : ExprTree) → grammar.op_of s.terminal ≡ o → X x → Y y → Q (grammar.compare_of (x, (s, y)))) →
      Derive src ps (is_expr_in P) X → Derive src qs (is_expr_in P) Y → Derive src (ps ++ (spaced (sign_of o) ++ qs)) (grammar.is_compare P) Q
  compare_derives P ps qs o X Y Q f d e = derive_map src grammar.compare_of _ _ Q (ps ++ (spaced (sign_of o) ++ qs)) (λ x h. f x.1.0 x.0 x.1.1 (ap grammar.op_of h.1.0 ∙ sign_says o) h.0 h.1.1) (derive_both src _ _ X _ ps (spaced (sign_of o) ++ qs) d
      (derive_both src _ _ _ Y (spaced (sign_of o)) qs (derive_one_of src grammar.operators (sign_of o) (sign_is o)) e))

  shown_compare : (alone : Bool) (c : Compare) → may_stand alone (length names) c ≡ true →
      Derivable src (compare_pieces names c) (λ n. grammar.is_compare (is_paren n)) (IsCompare src names alone c)
  shown_compare alone c h =
      let p = and_is (alone || not (is_unequal c.op)) (sane_compare (length names) c) h in
      let q = and_is (sane_expr (length names) c.left) (sane_expr (length names) c.right && list_all row_fits (rows_of c)) p.1 in
      let r = and_is (sane_expr (length names) c.right) (list_all row_fits (rows_of c)) q.1 in
      let x = sane_shown c.left q.0 in
      let y = sane_shown c.right r.0 in (
        x.0 + y.0,
        λ n i. compare_derives (is_paren n) (expr_pieces names c.left level.Expression) (expr_pieces names c.right level.Expression) c.op _ _ _
            (λ s t u o j k. compare_again src names alone c (grammar.compare_of (t, (s, u))) p.0 r.1 o j k) (x.1 n (omega arith)) (y.1 n (omega arith)),
      )

  -- ---- conjunctions

  abbrev further : ℕ → Lang (List (Symbol × CompareTree))
  further n = is_many (is_both (is_one terminal.And) (grammar.is_compare (is_paren n)))

  module _ (alone : Bool) where
    abbrev AreBehind : List Compare → List (Symbol × CompareTree) → Type 0
    AreBehind cs ys = AreCompares src names alone cs (grammar.seconds ys)

    behind_none : (ys : List (Symbol × CompareTree)) → ys ≡ [] → AreBehind [] ys
    behind_none ys e = rw e (none_again src names alone)

    abbrev IsBehind : Compare → Symbol × CompareTree → Type 0
    IsBehind c y = (y.0.terminal ≡ terminal.And) × IsCompare src names alone c y.1

    behind_more : (c : Compare) (cs : List Compare) (ys : List (Symbol × CompareTree)) → Front src (IsBehind c) (AreBehind cs) ys → AreBehind (c ∷ cs) ys
    behind_more c cs [] h = absurd h
    behind_more c cs (y ∷ ys) h = more_again src names alone c cs y.1 (grammar.seconds ys) h.0.1 h.1

    further_derives : (n : ℕ) (c : Compare) (cs : List Compare) → Derive src (compare_pieces names c) (grammar.is_compare (is_paren n)) (IsCompare src names alone c) →
        Derive src (further_pieces names cs) (further n) (AreBehind cs) → Derive src (further_pieces names (c ∷ cs)) (further n) (AreBehind (c ∷ cs))
    further_derives n c cs d e = derive_as src _ (Front src (IsBehind c) (AreBehind cs)) (AreBehind (c ∷ cs)) (further_pieces names (c ∷ cs)) (behind_more c cs)
        (derive_cons src _ (IsBehind c) (AreBehind cs) (spaced terminal.And ++ compare_pieces names c) (further_pieces names cs)
        (derive_both src _ _ _ (IsCompare src names alone c) (spaced terminal.And) (compare_pieces names c) (derive_one src terminal.And refl) d) e)

    shown_further : (cs : List Compare) → list_all (may_stand alone (length names)) cs ≡ true → Derivable src (further_pieces names cs) further (AreBehind cs)
    shown_further [] h = (0, λ n i. derive_as src _ (λ ys. ys ≡ []) (AreBehind []) [] behind_none (derive_nil src (is_both (is_one terminal.And) (grammar.is_compare (is_paren n)))))
    shown_further (c ∷ cs) h =
        let p = and_is (may_stand alone (length names) c) (list_all (may_stand alone (length names)) cs) h in
        let x = shown_compare alone c p.0 in
        let y = shown_further cs p.1 in
        (x.0 + y.0, λ n i. further_derives n c cs (x.1 n (omega arith)) (y.1 n (omega arith)))

    all_derives : (n : ℕ) (c : Compare) (cs : List Compare) → Derive src (compare_pieces names c) (grammar.is_compare (is_paren n)) (IsCompare src names alone c) →
        Derive src (further_pieces names cs) (further n) (AreBehind cs) → Derive src (all_pieces names (c ∷ cs)) (grammar.is_all (is_paren n)) (AreCompares src names alone (c ∷ cs))
    all_derives n c cs d e = derive_map src grammar.all_items _ (Both src (IsCompare src names alone c) (AreBehind cs)) (AreCompares src names alone (c ∷ cs))
        (all_pieces names (c ∷ cs)) (λ x h. more_again src names alone c cs x.0 (grammar.seconds x.1) h.0 h.1) (derive_both src _ _ (IsCompare src names alone c) (AreBehind cs) (compare_pieces names c) (further_pieces names cs) d e)

    shown_all : (c : Compare) (cs : List Compare) → list_all (may_stand alone (length names)) (c ∷ cs) ≡ true →
        Derivable src (all_pieces names (c ∷ cs)) (λ n. grammar.is_all (is_paren n)) (AreCompares src names alone (c ∷ cs))
    shown_all c cs h =
        let p = and_is (may_stand alone (length names) c) (list_all (may_stand alone (length names)) cs) h in
        let x = shown_compare alone c p.0 in
        let y = shown_further cs p.1 in
        (x.0 + y.0, λ n i. all_derives n c cs (x.1 n (omega arith)) (y.1 n (omega arith)))

  -- what is asserted, assumed or tried
  pub shown_conjunction : (c : Compare) (cs : List Compare) → sane_each (length names) (c ∷ cs) ≡ true →
      Derivable src (all_pieces names (c ∷ cs)) (λ n. grammar.is_all (is_paren n)) (AreCompares src names false (c ∷ cs))
  shown_conjunction c cs h = shown_all false c cs (and_is (nat_le (length (c ∷ cs)) COMPARISONS) (list_all (may_stand false (length names)) (c ∷ cs)) h).1

  -- ---- tests

  test_derives : (n : ℕ) (ps : List Piece) (Q : List CompareTree → Type 0) (R : TestTree → Type 0) → ((ts : List CompareTree) → Q ts → R (grammar.holds ts)) →
      Derive src ps (grammar.is_all (is_paren n)) Q → Derive src ps (grammar.is_test (is_paren n)) R
  test_derives n ps Q R f d = derive_right src _ _ R ps (derive_map src grammar.holds _ Q R ps f d)

  pub shown_test : (t : Test) → sane_test (length names) t ≡ true → Derivable src (test_pieces names t) (λ n. grammar.is_test (is_paren n)) (IsTest src names t)
  shown_test test.Any h = (
    0,
    λ n i. derive_left src _ _ (IsTest src names test.Any) (Mark terminal.Star ∷ [])
        (derive_map src grammar.any _ _ (IsTest src names test.Any) (Mark terminal.Star ∷ []) (λ s k. any_again src names) (derive_one src terminal.Star refl)),
  )
  shown_test (test.All []) h = absurd (cc)
  shown_test (test.All (c ∷ [])) h =
      let x = shown_all true c [] (and_of (sane_compare (length names) c) true h refl) in
      (x.0, λ n i. test_derives n (all_pieces names (c ∷ [])) _ _ (λ ts k. one_again src names c ts k) (x.1 n i))
  shown_test (test.All (c ∷ d ∷ cs)) h =
      let x = shown_conjunction c (d ∷ cs) h in
      (x.0, λ n i. test_derives n (all_pieces names (c ∷ d ∷ cs)) _ _ (λ ts k. several_again src names c d cs ts k) (x.1 n i))
