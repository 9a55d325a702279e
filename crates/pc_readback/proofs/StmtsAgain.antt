-- What the walk makes of the trees of statements: the same statements apart from places, with as many edges.
use Rattle.std.proofs.Common.{◌≡◌, ℕ, ◌+◌, ◌≤◌, refl, sym, ◌∙◌, ap, arith, List, [], ◌∷◌, false, Some, Ok}
use Rattle.std.proofs.lemmas.Bool.{le-ltb}
use Rattle.pc_text.specs.Bytes.{Bytes}
use Rattle.pc_text.specs.declared.place.Place.{Place}
use Rattle.pc_text.specs.Named.{number_of}
use Rattle.pc_grammar.specs.declared.symbol.Symbol.{Symbol}
use Rattle.pc_grammar.specs.declared.tree.CompareTree.{CompareTree}
use Rattle.pc_grammar.specs.declared.tree.TestTree.{TestTree}
use Rattle.pc_grammar.specs.declared.tree.RightTree.{RightTree}
use Rattle.pc_grammar.specs.declared.tree.StmtTree.{StmtTree, fold-roll-StmtTree}
use Rattle.pc_grammar.specs.declared.tree.StmtTree.TheOpen as tree_open
use Rattle.pc_grammar.specs.declared.tree.StmtTree.TheVariants as tree
use Rattle.pc_language.specs.declared.limits.TheConstants.{EDGES}
use Rattle.pc_program.specs.declared.tree.Compare.{Compare}
use Rattle.pc_program.specs.declared.tree.Test.{Test}
use Rattle.pc_program.specs.declared.tree.Right.{Right}
use Rattle.pc_program.specs.declared.tree.Stmt.{Stmt}
use Rattle.pc_program.specs.declared.tree.Stmt.TheVariants as s
use Rattle.pc_program.specs.Sane as sane
use Rattle.pc_syntax.specs.Context as walk
use Rattle.pc_readback.specs.Bare.{nowhere, bare_test, bare_all, bare_right, bare_stmt_step, bare_stmt, bare}
use Rattle.pc_program.proofs.Folds.{fold-set, fold-if, fold-while, fold-assert, fold-assume}
use Rattle.pc_readback.proofs.ComparesAgain.{AreCompares, IsTest}
use Rattle.pc_readback.proofs.DerivedRights.{IsRight}

-- edges that the limit leaves room for are counted
counted_stands : (n : ℕ) (p : Place) (k : ℕ) → k + n ≤ EDGES → walk.counted n p k ≡ Ok (k + n)
counted_stands n p k h = rw (le-ltb EDGES (k + n) h) refl

module _ (src : Bytes) (names : List Bytes) where
  -- the walk makes of a tree, after so many edges, a statement which is this one without its places, and counts n edges of it
  pub record Walked (b : Stmt) (n : ℕ) (t : StmtTree) (k : ℕ) : Type 0 where
    pub stmt : Stmt
    pub walked : walk.checked_stmt src names t k ≡ Ok (record { stmt = stmt; edges = k + n })
    pub same : bare_stmt stmt ≡ b

  pub record WalkedAll (bs : List Stmt) (n : ℕ) (ts : List StmtTree) (k : ℕ) : Type 0 where
    pub stmts : List Stmt
    pub walked : walk.checked_stmts src names ts k ≡ Ok (record { stmts = stmts; edges = k + n })
    pub same : bare stmts ≡ bs

  abbrev pub IsStmt : Stmt → ℕ → StmtTree → Type 0
  IsStmt b n t = (k : ℕ) → k + n ≤ EDGES → Walked b n t k

  abbrev pub AreStmts : List Stmt → ℕ → List StmtTree → Type 0
  AreStmts bs n ts = (k : ℕ) → k + n ≤ EDGES → WalkedAll bs n ts k

  pub nothing_again : AreStmts [] 0 []
  nothing_again k h = record { stmts = []; walked = (let e : k ≡ k + 0 = omega arith in ap (λ (k : ℕ). Ok (record { stmts = []; edges = k })) e); same = refl }

  pub then_again : (b : Stmt) (n : ℕ) (t : StmtTree) (bs : List Stmt) (m : ℕ) (ts : List StmtTree) → IsStmt b n t → AreStmts bs m ts → AreStmts (b ∷ bs) (n + m) (t ∷ ts)
  then_again b n t bs m ts f g k h =
      let x = f k (omega arith) in
      let y = g (k + n) (omega arith) in
      let e : k + n + m ≡ k + (n + m) = omega arith in
      record { stmts = x.stmt ∷ y.stmts; walked = rw (x.walked, y.walked, e) refl; same = rw (x.same, y.same) refl }

  -- ---- each kind of statement

  pub set_again : (name : Symbol) (v : ℕ) (r : Right) (t : RightTree) → number_of names (walk.word src name) ≡ Some v → IsRight src names r t →
      IsStmt (s.Set nowhere v (bare_right r)) 1 (tree.Set name t)
  set_again name v r t n x k h = record {
    stmt = s.Set name.place v x.right;
    walked = ap (λ t. walk.checked_stmt src names t k) (sym (tree.rolls-Set name t)) ∙ ap (λ (w : walk.Walk). w k) (fold-roll-StmtTree walk.Walk (walk.stmt_step src names) (tree_open.Set name t))
        ∙ rw (counted_stands 1 name.place k h, n, x.walked) refl;
    same = fold-set Stmt bare_stmt_step name.place v x.right ∙ ap (λ r. s.Set nowhere v r) x.same;
  }

  module _ (p : Place) (cs : List Compare) (ts : List CompareTree) (x : AreCompares src names false cs ts) where
    pub assert_again : IsStmt (s.Assert nowhere (bare_all cs)) 1 (tree.Assert p ts)
    assert_again k h = record {
      stmt = s.Assert p x.compares;
      walked = ap (λ t. walk.checked_stmt src names t k) (sym (tree.rolls-Assert p ts)) ∙ ap (λ (w : walk.Walk). w k) (fold-roll-StmtTree walk.Walk (walk.stmt_step src names) (tree_open.Assert p ts))
          ∙ rw (counted_stands 1 p k h, x.walked) refl;
      same = fold-assert Stmt bare_stmt_step p x.compares ∙ ap (λ cs. s.Assert nowhere cs) x.same;
    }

    pub assume_again : IsStmt (s.Assume nowhere (bare_all cs)) 1 (tree.Assume p ts)
    assume_again k h = record {
      stmt = s.Assume p x.compares;
      walked = ap (λ t. walk.checked_stmt src names t k) (sym (tree.rolls-Assume p ts)) ∙ ap (λ (w : walk.Walk). w k) (fold-roll-StmtTree walk.Walk (walk.stmt_step src names) (tree_open.Assume p ts))
          ∙ rw (counted_stands 1 p k h, x.walked) refl;
      same = fold-assume Stmt bare_stmt_step p x.compares ∙ ap (λ cs. s.Assume nowhere cs) x.same;
    }

  pub if_again : (p : Place) (c : Test) (t : TestTree) (xs ys : List Stmt) (n m : ℕ) (us vs : List StmtTree) → IsTest src names c t → AreStmts xs n us → AreStmts ys m vs →
      IsStmt (s.If nowhere (bare_test c) xs ys) (sane.test_edges c + 2 + n + m) (tree.If p t us vs)
  if_again p c t xs ys n m us vs x f g k h =
      let i = k + (sane.test_edges c + 2) in
      let a = f i (omega arith) in
      let b = g (i + n) (omega arith) in
      let e : i + n + m ≡ k + (sane.test_edges c + 2 + n + m) = omega arith in
      record {
        stmt = s.If p x.test a.stmts b.stmts;
        walked = ap (λ t. walk.checked_stmt src names t k) (sym (tree.rolls-If p t us vs)) ∙ ap (λ (w : walk.Walk). w k) (fold-roll-StmtTree walk.Walk (walk.stmt_step src names) (tree_open.If p t us vs))
            ∙ rw (x.edges, counted_stands (sane.test_edges c + 2) p k (omega arith), x.walked, a.walked, b.walked, e) refl;
        same = fold-if Stmt bare_stmt_step p x.test a.stmts b.stmts ∙ rw (x.same, a.same, b.same) refl;
      }

  pub while_again : (p : Place) (c : Test) (t : TestTree) (tried : List Compare) (rs : List CompareTree) (xs : List Stmt) (n : ℕ) (us : List StmtTree) →
      IsTest src names c t → AreCompares src names false tried rs → AreStmts xs n us → IsStmt (s.While nowhere (bare_test c) (bare_all tried) xs) (sane.test_edges c + 1 + n) (tree.While p t rs us)
  while_again p c t tried rs xs n us x r f k h =
      let i = k + (sane.test_edges c + 1) in
      let a = f i (omega arith) in
      let e : i + n ≡ k + (sane.test_edges c + 1 + n) = omega arith in
      record {
        stmt = s.While p x.test r.compares a.stmts;
        walked = ap (λ t. walk.checked_stmt src names t k) (sym (tree.rolls-While p t rs us)) ∙ ap (λ (w : walk.Walk). w k) (fold-roll-StmtTree walk.Walk (walk.stmt_step src names) (tree_open.While p t rs us))
            ∙ rw (x.edges, counted_stands (sane.test_edges c + 1) p k (omega arith), x.walked, r.walked, a.walked, e) refl;
        same = fold-while Stmt bare_stmt_step p x.test r.compares a.stmts ∙ rw (x.same, r.same, a.same) refl;
      }
