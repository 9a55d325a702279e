-- The walk keeps the signs, the numbers and the nesting of statements.
use Rattle.std.proofs.Common.{◌≡◌, ℕ, ◌+◌, refl, ap, sym, ◌∙◌, subst, List, [], ◌∷◌, Bool, false, Result, Ok, Err}
use Rattle.std.specs.Prelude.{◌&&◌, IfOk, max}
use Rattle.std.specs.List.{AllByRecursion, list_all}
use Rattle.pc_text.specs.Bytes.{Bytes}
use Rattle.pc_text.specs.declared.place.Place.{Place}
use Rattle.pc_rows.specs.Linear.{Linear}
use Rattle.pc_grammar.specs.declared.symbol.Symbol.{Symbol}
use Rattle.pc_grammar.specs.declared.tree.CompareTree.{CompareTree}
use Rattle.pc_grammar.specs.declared.tree.TestTree.{TestTree}
use Rattle.pc_grammar.specs.declared.tree.TestTree.TheVariants as tree_test
use Rattle.pc_grammar.specs.declared.tree.RightTree.{RightTree}
use Rattle.pc_grammar.specs.declared.tree.StmtTree.{StmtTree, StmtTree-F, map-StmtTree, roll-StmtTree, fold-roll-StmtTree}
use Rattle.pc_grammar.specs.declared.tree.StmtTree.TheOpen as tree
use Rattle.pc_program.specs.declared.tree.Test.TheVariants as test
use Rattle.pc_program.specs.declared.tree.Stmt.{Stmt}
use Rattle.pc_program.specs.declared.tree.Stmt.TheVariants as s
use Rattle.pc_syntax.specs.declared.fault.SourceFault.{SourceFault}
use Rattle.pc_syntax.specs.declared.walk.Formed.{Formed}
use Rattle.pc_syntax.specs.declared.walk.Counted.{Counted}
use Rattle.pc_program.specs.Forms.{bind, rows_by, fit_rows}
use Rattle.pc_syntax.specs.Context as walk
use Rattle.pc_readback.specs.Showable as shown
use Rattle.pc_readback.specs.ShownTrees as short
use Rattle.pc_program.proofs.Results.{bind_keeps}
use Rattle.pc_syntax.proofs.Trees.{by_stmt}
use Rattle.pc_program.proofs.Stmts.{all_by}
use Rattle.pc_program.proofs.Folds.{fold-set, fold-if, fold-while, fold-assert, fold-assume}
use Rattle.pc_readback.proofs.ShownExprs.{walked_like}

-- nothing is asked of a value
any_ok : {A : Type 0} (r : Result A SourceFault) → IfOk r (λ x. Unit {0})
any_ok (Ok x) = tt
any_ok (Err f) = tt

module _ (src : Bytes) (names : List Bytes) where
  -- ---- comparisons, tests and right sides

  compared : (c : CompareTree) (l r : Formed) → shown.shown_expr names l.expr ≡ short.short_expr c.left → shown.shown_expr names r.expr ≡ short.short_expr c.right →
      IfOk (walk.with_rows c l r) (λ x. shown.shown_compare names x ≡ short.short_compare c)
  compared c l r h k = by (walk.lifted (fit_rows c.place (rows_by c.op l.form r.form)))
    where
      by : (q : Result (List Linear) SourceFault) →
          IfOk (bind q (λ rs. Ok (record { op = c.op; left = l.expr; right = r.expr; place = c.place }))) (λ x. shown.shown_compare names x ≡ short.short_compare c)
      by (Ok rs) = ap (λ b. b && shown.shown_expr names r.expr) h ∙ ap (λ b. short.short_expr c.left && b) k
      by (Err f) = tt

  compare_walked : (alone : Bool) (c : CompareTree) → IfOk (walk.checked_compare src names alone c) (λ x. shown.shown_compare names x ≡ short.short_compare c)
  compare_walked alone c =
      bind_keeps (λ u. Unit {0}) (λ x. shown.shown_compare names x ≡ short.short_compare c) (walk.op_allowed alone c) _
      (λ u z. bind_keeps (λ y. shown.shown_expr names y.expr ≡ short.short_expr c.left) (λ x. shown.shown_compare names x ≡ short.short_compare c) (walk.checked_expr src names c.left) _
      (λ l h. bind_keeps (λ y. shown.shown_expr names y.expr ≡ short.short_expr c.right) (λ x. shown.shown_compare names x ≡ short.short_compare c) (walk.checked_expr src names c.right) _
      (λ r k. compared c l r h k) (walked_like src names c.right)) (walked_like src names c.left)) (any_ok (walk.op_allowed alone c))

  each_walked : (alone : Bool) (cs : List CompareTree) → IfOk (walk.checked_each src names alone cs) (λ xs. list_all (shown.shown_compare names) xs ≡ list_all short.short_compare cs)
  each_walked alone [] = refl
  each_walked alone (c ∷ cs) =
      bind_keeps (λ x. shown.shown_compare names x ≡ short.short_compare c) (λ xs. list_all (shown.shown_compare names) xs ≡ list_all short.short_compare (c ∷ cs)) (walk.checked_compare src names alone c) _
      (λ x h. bind_keeps (λ xs. list_all (shown.shown_compare names) xs ≡ list_all short.short_compare cs) (λ xs. list_all (shown.shown_compare names) xs ≡ list_all short.short_compare (c ∷ cs))
      (walk.checked_each src names alone cs) _
      (λ xs k. ap (λ b. b && list_all (shown.shown_compare names) xs) h ∙ ap (λ b. short.short_compare c && b) k) (each_walked alone cs))
      (compare_walked alone c)

  test_walked : (t : TestTree) → IfOk (walk.checked_test src names t) (λ x. shown.shown_test names x ≡ short.short_test t)
  test_walked tree_test.Any = refl
  test_walked (tree_test.All cs) =
      bind_keeps (λ xs. list_all (shown.shown_compare names) xs ≡ list_all short.short_compare cs) (λ x. shown.shown_test names x ≡ short.short_test (tree_test.All cs))
      (walk.checked_each src names (walk.is_alone cs) cs) (λ xs. Ok (test.All xs)) (λ xs h. h) (each_walked (walk.is_alone cs) cs)

  right_walked : (r : RightTree) → IfOk (walk.checked_right src names r) (λ x. shown.shown_expr names x.expr ≡ short.short_expr r.expr)
  right_walked r =
      bind_keeps (λ y. shown.shown_expr names y.expr ≡ short.short_expr r.expr) (λ x. shown.shown_expr names x.expr ≡ short.short_expr r.expr) (walk.checked_expr src names r.expr) _
      (λ y h. bind_keeps (λ c. Unit {0}) (λ x. shown.shown_expr names x.expr ≡ short.short_expr r.expr) (walk.checked_choice r.choice)
      (λ c. Ok (record { expr = y.expr; choice = c })) (λ c u. h) (any_ok (walk.checked_choice r.choice))) (walked_like src names r.expr)

  -- ---- statements

  -- a statement passes its test where its tree does, and has the nesting of its tree
  record IsLike (t : StmtTree) (x : Stmt) : Type 0 where
    test : shown.shown_stmt names x ≡ short.short_stmt t
    nests : shown.nesting x ≡ short.nesting t

  record IsLikeStep (t : StmtTree-F StmtTree) (x : Stmt) : Type 0 where
    test : shown.shown_stmt names x ≡ short.short_step (map-StmtTree StmtTree Bool short.short_stmt t)
    nests : shown.nesting x ≡ short.nesting_step (map-StmtTree StmtTree ℕ short.nesting t)

  pub record AreLike (ts : List StmtTree) (xs : List Stmt) : Type 0 where
    pub test : shown.shown_stmts names xs ≡ short.short_stmts ts
    pub nests : shown.nesting_of xs ≡ short.nesting_of ts

  Walked : StmtTree → Type 0
  Walked t = (k : ℕ) → IfOk (walk.checked_stmt src names t k) (λ y. IsLike t y.stmt)

  rolled : (t : StmtTree-F StmtTree) (x : Stmt) → IsLikeStep t x → IsLike (roll-StmtTree t) x
  rolled t x h = record {
    test = h.test ∙ sym (fold-roll-StmtTree Bool short.short_step t);
    nests = h.nests ∙ sym (fold-roll-StmtTree ℕ short.nesting_step t);
  }

  at_tree : (t : StmtTree-F StmtTree) → ((k : ℕ) → IfOk (walk.stmt_step src names (map-StmtTree StmtTree walk.Walk (walk.checked_stmt src names) t) k) (λ y. IsLikeStep t y.stmt)) → Walked (roll-StmtTree t)
  unfolding Walked
  at_tree t h k = subst (λ (w : walk.Walk). IfOk (w k) (λ y. IsLike (roll-StmtTree t) y.stmt)) (sym (fold-roll-StmtTree walk.Walk (walk.stmt_step src names) t))
      (by (walk.stmt_step src names (map-StmtTree StmtTree walk.Walk (walk.checked_stmt src names) t) k) (h k))
    where
      by : (r : Result Counted SourceFault) → IfOk r (λ y. IsLikeStep t y.stmt) → IfOk r (λ y. IsLike (roll-StmtTree t) y.stmt)
      by (Ok y) i = rolled t y.stmt i
      by (Err f) i = tt

  list_walked : (ts : List StmtTree) → AllByRecursion Walked ts → (k : ℕ) → IfOk (walk.checked_stmts src names ts k) (λ y. AreLike ts y.stmts)
  unfolding Walked
  list_walked [] h k = record { test = refl; nests = refl }
  list_walked (t ∷ ts) h k =
      bind_keeps (λ y. IsLike t y.stmt) (λ y. AreLike (t ∷ ts) y.stmts) (walk.checked_stmt src names t k) _
      (λ x i. bind_keeps (λ y. AreLike ts y.stmts) (λ y. AreLike (t ∷ ts) y.stmts) (walk.checked_stmts src names ts x.edges) _
      (λ xs is. record {
        test = ap (λ b. b && shown.shown_stmts names xs.stmts) i.test ∙ ap (λ b. short.short_stmt t && b) is.test;
        nests = ap (λ (n : ℕ). max n (shown.nesting_of xs.stmts)) i.nests ∙ ap (λ (n : ℕ). max (short.nesting t) n) is.nests;
      }) (list_walked ts h.1 x.edges)) (h.0 k)

  set_walked : (name : Symbol) (r : RightTree) (k : ℕ) → IfOk (walk.stmt_step src names (tree.Set name r) k) (λ y. IsLikeStep (tree.Set name r) y.stmt)
  set_walked name r k =
      bind_keeps (λ edges. Unit {0}) (λ y. IsLikeStep (tree.Set name r) y.stmt) (walk.counted 1 name.place k) _
      (λ edges u. bind_keeps (λ v. Unit {0}) (λ y. IsLikeStep (tree.Set name r) y.stmt) (walk.resolved src names name) _
      (λ v u. bind_keeps (λ x. shown.shown_expr names x.expr ≡ short.short_expr r.expr) (λ y. IsLikeStep (tree.Set name r) y.stmt) (walk.checked_right src names r)
      (λ x. Ok (record { stmt = s.Set name.place v x; edges = edges }))
      (λ x h. record { test = fold-set Bool (shown.shown_step names) name.place v x ∙ h; nests = fold-set ℕ shown.nesting_step name.place v x })
      (right_walked r)) (any_ok (walk.resolved src names name))) (any_ok (walk.counted 1 name.place k))

  if_walked : (p : Place) (t : TestTree) (xs ys : List StmtTree) → AllByRecursion Walked xs → AllByRecursion Walked ys → (k : ℕ) →
      IfOk (walk.split src names p t (walk.checked_stmts src names xs) (walk.checked_stmts src names ys) k) (λ y. IsLikeStep (tree.If p t xs ys) y.stmt)
  if_walked p t xs ys h h' k =
      bind_keeps (λ edges. Unit {0}) (λ y. IsLikeStep (tree.If p t xs ys) y.stmt) (walk.counted (walk.test_edges t + 2) p k) _
      (λ edges u. bind_keeps (λ x. shown.shown_test names x ≡ short.short_test t) (λ y. IsLikeStep (tree.If p t xs ys) y.stmt) (walk.checked_test src names t) _
      (λ u i. bind_keeps (λ y. AreLike xs y.stmts) (λ y. IsLikeStep (tree.If p t xs ys) y.stmt) (walk.checked_stmts src names xs edges) _
      (λ a j. bind_keeps (λ y. AreLike ys y.stmts) (λ y. IsLikeStep (tree.If p t xs ys) y.stmt) (walk.checked_stmts src names ys a.edges)
      (λ b. Ok (record { stmt = s.If p u a.stmts b.stmts; edges = b.edges }))
      (λ b l. record {
        test = fold-if Bool (shown.shown_step names) p u a.stmts b.stmts ∙ rw (i, j.test, l.test) refl;
        nests = fold-if ℕ shown.nesting_step p u a.stmts b.stmts ∙ rw (j.nests, l.nests) refl;
      })
      (list_walked ys h' a.edges)) (list_walked xs h edges)) (test_walked t)) (any_ok (walk.counted (walk.test_edges t + 2) p k))

  while_walked : (p : Place) (t : TestTree) (tried : List CompareTree) (xs : List StmtTree) → AllByRecursion Walked xs → (k : ℕ) →
      IfOk (walk.loop src names p t tried (walk.checked_stmts src names xs) k) (λ y. IsLikeStep (tree.While p t tried xs) y.stmt)
  while_walked p t tried xs h k =
      bind_keeps (λ edges. Unit {0}) (λ y. IsLikeStep (tree.While p t tried xs) y.stmt) (walk.counted (walk.test_edges t + 1) p k) _
      (λ edges u. bind_keeps (λ x. shown.shown_test names x ≡ short.short_test t) (λ y. IsLikeStep (tree.While p t tried xs) y.stmt) (walk.checked_test src names t) _
      (λ u i. bind_keeps (λ rs. list_all (shown.shown_compare names) rs ≡ list_all short.short_compare tried) (λ y. IsLikeStep (tree.While p t tried xs) y.stmt) (walk.checked_all src names tried) _
      (λ rs j. bind_keeps (λ y. AreLike xs y.stmts) (λ y. IsLikeStep (tree.While p t tried xs) y.stmt) (walk.checked_stmts src names xs edges)
      (λ a. Ok (record { stmt = s.While p u rs a.stmts; edges = a.edges }))
      (λ a l. record {
        test = fold-while Bool (shown.shown_step names) p u rs a.stmts ∙ rw (i, j, l.test) refl;
        nests = fold-while ℕ shown.nesting_step p u rs a.stmts ∙ rw l.nests refl;
      })
      (list_walked xs h edges)) (each_walked false tried)) (test_walked t)) (any_ok (walk.counted (walk.test_edges t + 1) p k))

  assert_walked : (p : Place) (cs : List CompareTree) (k : ℕ) → IfOk (walk.stmt_step src names (tree.Assert p cs) k) (λ y. IsLikeStep (tree.Assert p cs) y.stmt)
  assert_walked p cs k =
      bind_keeps (λ edges. Unit {0}) (λ y. IsLikeStep (tree.Assert p cs) y.stmt) (walk.counted 1 p k) _
      (λ edges u. bind_keeps (λ xs. list_all (shown.shown_compare names) xs ≡ list_all short.short_compare cs) (λ y. IsLikeStep (tree.Assert p cs) y.stmt) (walk.checked_all src names cs)
      (λ xs. Ok (record { stmt = s.Assert p xs; edges = edges }))
      (λ xs h. record { test = fold-assert Bool (shown.shown_step names) p xs ∙ h; nests = fold-assert ℕ shown.nesting_step p xs })
      (each_walked false cs)) (any_ok (walk.counted 1 p k))

  assume_walked : (p : Place) (cs : List CompareTree) (k : ℕ) → IfOk (walk.stmt_step src names (tree.Assume p cs) k) (λ y. IsLikeStep (tree.Assume p cs) y.stmt)
  assume_walked p cs k =
      bind_keeps (λ edges. Unit {0}) (λ y. IsLikeStep (tree.Assume p cs) y.stmt) (walk.counted 1 p k) _
      (λ edges u. bind_keeps (λ xs. list_all (shown.shown_compare names) xs ≡ list_all short.short_compare cs) (λ y. IsLikeStep (tree.Assume p cs) y.stmt) (walk.checked_all src names cs)
      (λ xs. Ok (record { stmt = s.Assume p xs; edges = edges }))
      (λ xs h. record { test = fold-assume Bool (shown.shown_step names) p xs ∙ h; nests = fold-assume ℕ shown.nesting_step p xs })
      (each_walked false cs)) (any_ok (walk.counted 1 p k))

  stmt_walked : (t : StmtTree) → Walked t
  stmt_walked t = by_stmt Walked
      (λ name r. at_tree (tree.Set name r) (set_walked name r))
      (λ p t xs ys h k. at_tree (tree.If p t xs ys) (if_walked p t xs ys h k))
      (λ p t tried xs h. at_tree (tree.While p t tried xs) (while_walked p t tried xs h))
      (λ p cs. at_tree (tree.Assert p cs) (assert_walked p cs))
      (λ p cs. at_tree (tree.Assume p cs) (assume_walked p cs))
      t

  pub stmts_walked : (ts : List StmtTree) (k : ℕ) → IfOk (walk.checked_stmts src names ts k) (λ y. AreLike ts y.stmts)
  stmts_walked ts k = list_walked ts (all_by Walked stmt_walked ts) k
