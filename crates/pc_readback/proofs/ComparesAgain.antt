-- What the walk makes of the trees of comparisons: the same comparisons apart from places, as many, with as many rows.
use Rattle.std.proofs.Common.{◌≡◌, ℕ, suc, ◌+◌, refl, ◌∙◌, ap, arith, List, [], ◌∷◌, length, Bool, true, false, cond, Result, Ok, Err}
use Rattle.std.specs.Prelude.{◌&&◌, ◌||◌, not}
use Rattle.std.specs.List.{list_all}
use Rattle.pc_text.specs.Bytes.{Bytes}
use Rattle.pc_grammar.specs.declared.tree.CompareTree.{CompareTree}
use Rattle.pc_grammar.specs.declared.tree.TestTree.{TestTree}
use Rattle.pc_grammar.specs.declared.tree.TestTree.TheVariants as tree_test
use Rattle.pc_program.specs.declared.tree.Compare.{Compare}
use Rattle.pc_program.specs.declared.tree.Test.{Test}
use Rattle.pc_program.specs.declared.tree.Test.TheVariants as test
use Rattle.pc_syntax.specs.declared.fault.SourceFault.{SourceFault}
use Rattle.pc_syntax.specs.declared.fault.SourceFault.TheVariants as fault
use Rattle.pc_syntax.specs.declared.walk.Formed.{Formed}
use Rattle.pc_program.specs.Forms.{form, is_unequal, rows_by, row_fits}
use Rattle.pc_program.specs.Sane as sane
use Rattle.pc_syntax.specs.Context as walk
use Rattle.pc_readback.specs.Bare.{bare_expr, bare_compare, bare_all, bare_test}
use Rattle.pc_readback.proofs.WalkedAgain.{IsExpr}

-- ---- one comparison

op_stands : (alone : Bool) (c : CompareTree) → (alone || not (is_unequal c.op)) ≡ true → walk.op_allowed alone c ≡ Ok tt
op_stands alone c = by alone (is_unequal c.op)
  where
    by : (a b : Bool) → (a || not b) ≡ true → ◌≡◌ {A = Result (Unit {0}) SourceFault} (cond (b && not a) (Err (fault.Unequal c.place)) (Ok tt)) (Ok tt)
    by true true h = refl
    by true false h = refl
    by false true h = absurd (cc)
    by false false h = refl

rows_stand : (c : CompareTree) (l r : Formed) → list_all row_fits (rows_by c.op l.form r.form) ≡ true →
    walk.with_rows c l r ≡ Ok (record { op = c.op; left = l.expr; right = r.expr; place = c.place })
rows_stand c l r h = rw h refl

module _ (src : Bytes) (names : List Bytes) where
  -- the walk makes this comparison of a tree, apart from places
  pub record IsCompare (alone : Bool) (c : Compare) (t : CompareTree) : Type 0 where
    pub compare : Compare
    pub walked : walk.checked_compare src names alone t ≡ Ok compare
    pub same : bare_compare compare ≡ bare_compare c
    pub op : t.op ≡ c.op

  pub compare_again : (alone : Bool) (c : Compare) (t : CompareTree) → (alone || not (is_unequal c.op)) ≡ true → list_all row_fits (rows_by c.op (form c.left) (form c.right)) ≡ true →
      t.op ≡ c.op → IsExpr src names (bare_expr c.left) (form c.left) t.left → IsExpr src names (bare_expr c.right) (form c.right) t.right → IsCompare alone c t
  compare_again alone c t stands rows op l r = record {
    compare = record { op = t.op; left = l.expr; right = r.expr; place = t.place };
    walked = rw (op_stands alone t (ap (λ o. alone || not (is_unequal o)) op ∙ stands), l.walked, r.walked)
        (rows_stand t (record { expr = l.expr; form = form c.left }) (record { expr = r.expr; form = form c.right }) (ap (λ o. list_all row_fits (rows_by o (form c.left) (form c.right))) op ∙ rows));
    same = rw (op, l.same, r.same) refl;
    op = op;
  }

  -- ---- comparisons in order

  pub record AreCompares (alone : Bool) (cs : List Compare) (ts : List CompareTree) : Type 0 where
    pub compares : List Compare
    pub walked : walk.checked_each src names alone ts ≡ Ok compares
    pub same : bare_all compares ≡ bare_all cs
    pub long : length ts ≡ length cs
    pub rows : walk.rows_in ts ≡ sane.rows_in cs

  pub none_again : (alone : Bool) → AreCompares alone [] []
  none_again alone = record { compares = []; walked = refl; same = refl; long = refl; rows = refl }

  pub more_again : (alone : Bool) (c : Compare) (cs : List Compare) (t : CompareTree) (ts : List CompareTree) → IsCompare alone c t → AreCompares alone cs ts → AreCompares alone (c ∷ cs) (t ∷ ts)
  more_again alone c cs t ts x xs = record {
    compares = x.compare ∷ xs.compares;
    walked = rw (x.walked, xs.walked) refl;
    same = rw (x.same, xs.same) refl;
    long = ap suc xs.long;
    rows = rw (x.op, xs.rows) refl;
  }

  -- ---- tests

  pub record IsTest (x : Test) (t : TestTree) : Type 0 where
    pub test : Test
    pub walked : walk.checked_test src names t ≡ Ok test
    pub same : bare_test test ≡ bare_test x
    pub edges : walk.test_edges t ≡ sane.test_edges x

  pub any_again : IsTest test.Any tree_test.Any
  any_again = record { test = test.Any; walked = refl; same = refl; edges = refl }

  conjunction_again : (cs : List Compare) (ts : List CompareTree) (alone : Bool) → walk.is_alone ts ≡ alone → AreCompares alone cs ts → IsTest (test.All cs) (tree_test.All ts)
  conjunction_again cs ts alone e x = record {
    test = test.All x.compares;
    walked = rw (e, x.walked) refl;
    same = ap (λ cs. test.All cs) x.same;
    edges = ap (λ (n : ℕ). 1 + n) x.rows;
  }

  pub one_again : (c : Compare) (ts : List CompareTree) → AreCompares true (c ∷ []) ts → IsTest (test.All (c ∷ [])) (tree_test.All ts)
  one_again c [] x = let l = x.long in absurd (omega arith)
  one_again c (t ∷ []) x = conjunction_again (c ∷ []) (t ∷ []) true refl x
  one_again c (t ∷ u ∷ ts) x = let l = x.long in absurd (omega arith)

  pub several_again : (c d : Compare) (cs : List Compare) (ts : List CompareTree) → AreCompares false (c ∷ d ∷ cs) ts → IsTest (test.All (c ∷ d ∷ cs)) (tree_test.All ts)
  several_again c d cs [] x = let l = x.long in absurd (omega arith)
  several_again c d cs (t ∷ []) x = let l = x.long in absurd (omega arith)
  several_again c d cs (t ∷ u ∷ ts) x = conjunction_again (c ∷ d ∷ cs) (t ∷ u ∷ ts) false refl x
