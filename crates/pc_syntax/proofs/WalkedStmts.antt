-- The walk gives statements that keep the context rules, and counts their edges.
use Rattle.std.proofs.Common.{◌≡◌, ℕ, ◌+◌, ◌≤◌, refl, sym, ◌∙◌, ap, subst, arith, List, [], ◌∷◌, ◌++◌, length, map, sum, Bool, true, false, cond, Result, Ok, Err, length-append}
use Rattle.std.specs.Prelude.{◌&&◌, IfOk, nat_lt, nat_le, is_some}
use Rattle.std.specs.List.{AllByRecursion, list_all}
use Rattle.std.proofs.lemmas.List.Sums.{sum-map, sum_by-cons}
use Rattle.std.proofs.lemmas.Bool.{ltb-true, ltb-false}
use Rattle.pc_text.specs.declared.place.Place.{Place}
use Rattle.pc_rows.specs.declared.row.TheConstants.{VARIABLES}
use Rattle.pc_grammar.specs.declared.symbol.Symbol.{Symbol}
use Rattle.pc_grammar.specs.declared.tree.CompareTree.{CompareTree}
use Rattle.pc_grammar.specs.declared.tree.TestTree.{TestTree}
use Rattle.pc_grammar.specs.declared.tree.RightTree.{RightTree}
use Rattle.pc_grammar.specs.declared.tree.StmtTree.{StmtTree, StmtTree-F, map-StmtTree, roll-StmtTree, fold-roll-StmtTree}
use Rattle.pc_grammar.specs.declared.tree.StmtTree.TheOpen as tree_stmt
use Rattle.pc_grammar.specs.declared.tree.ProgramTree.{ProgramTree}
use Rattle.pc_language.specs.declared.limits.TheConstants.{EDGES}
use Rattle.pc_program.specs.declared.tree.Compare.{Compare}
use Rattle.pc_program.specs.declared.tree.Stmt.{Stmt}
use Rattle.pc_program.specs.declared.tree.Stmt.TheVariants as s
use Rattle.pc_syntax.specs.declared.fault.SourceFault.{SourceFault}
use Rattle.pc_syntax.specs.declared.fault.SourceFault.TheVariants as fault
use Rattle.pc_syntax.specs.declared.walk.Counted.{Counted}
use Rattle.pc_syntax.specs.declared.walk.CountedList.{CountedList}
use Rattle.pc_text.specs.Named.{Named, number_of}
use Rattle.pc_text.specs.Bytes.{Bytes}
use Rattle.pc_program.specs.Forms.{bind}
use Rattle.pc_program.specs.Sane as sane
use Rattle.pc_syntax.specs.Context as walk
use Rattle.pc_syntax.specs.Trees as trees
use Rattle.pc_syntax.specs.Kept.{WalksAreSane}
use Rattle.pc_program.proofs.Results.{and_is, and_of, at_most, bind_keeps}
use Rattle.pc_syntax.proofs.Trees.{by_stmt}
use Rattle.pc_program.proofs.Stmts.{all_by}
use Rattle.pc_program.proofs.Folds.{fold-set, fold-if, fold-while, fold-assert, fold-assume}
use Rattle.pc_syntax.proofs.WalkedExprs.{resolved_test}
use Rattle.pc_syntax.proofs.WalkedTests.{IsConjunction, IsTest, walked_all, walked_test, walked_right}

-- ---- counts

record Adds (n k edges : ℕ) : Type 0 where
  sum : edges ≡ k + n
  within : edges ≤ EDGES

counted_adds : (n : ℕ) (p : Place) (k : ℕ) → IfOk (walk.counted n p k) (Adds n k)
counted_adds n p k = by (nat_lt EDGES (k + n)) refl
  where
    by : (b : Bool) → nat_lt EDGES (k + n) ≡ b → IfOk {T = ℕ} {E = SourceFault} (cond b (Err (fault.TooManyEdges p)) (Ok (k + n))) (Adds n k)
    by true e = tt
    by false e = record { sum = refl; within = ltb-false EDGES (k + n) e }

record IsCounted (n k : ℕ) (x : Counted) : Type 0 where
  kept : sane.sane_stmt n x.stmt ≡ true
  sum : x.edges ≡ k + sane.edges x.stmt
  within : x.edges ≤ EDGES

record AreCounted (n k : ℕ) (xs : CountedList) : Type 0 where
  kept : sane.sane_stmts n xs.stmts ≡ true
  total : xs.edges ≡ k + sum (map sane.edges xs.stmts)
  within : xs.edges ≤ EDGES

edges-cons : (x : Stmt) (xs : List Stmt) → sum (map sane.edges (x ∷ xs)) ≡ sane.edges x + sum (map sane.edges xs)
edges-cons x xs = sum-map sane.edges (x ∷ xs) ∙ sum_by-cons sane.edges x xs ∙ ap (λ (k : ℕ). sane.edges x + k) (sym (sum-map sane.edges xs))

-- a statement whose edges are counted first
one_counted : (n k edges : ℕ) (x : Stmt) → sane.sane_stmt n x ≡ true → sane.edges x ≡ 1 → Adds 1 k edges → IsCounted n k (record { stmt = x; edges = edges })
one_counted n k edges x h e a = record { kept = h; sum = (let b = a.sum in omega arith); within = a.within }

-- ---- statements

-- a tree that the grammar keeps, as a claim over its test and the walk over it
abbrev Claim : ℕ → Bool → walk.Walk → Type 0
Claim n fit w = fit ≡ true → (k : ℕ) → k ≤ EDGES → IfOk (w k) (IsCounted n k)

module _ (src : Bytes) (names : List Bytes) (few : length names ≤ VARIABLES) (n : ℕ) where
  abbrev Keeps : StmtTree → Type 0
  Keeps tree = Claim (length names) (trees.fit_stmt n tree) (walk.checked_stmt src names tree)

  list_counted : (xs : List StmtTree) → AllByRecursion Keeps xs → trees.fit_stmts n xs ≡ true → (k : ℕ) → k ≤ EDGES → IfOk (walk.checked_stmts src names xs k) (AreCounted (length names) k)
  list_counted [] h fit k small = record { kept = refl; total = omega arith; within = small }
  list_counted (x ∷ xs) h fit k small =
      let p = and_is (trees.fit_stmt n x) (trees.fit_stmts n xs) fit in
      bind_keeps (IsCounted (length names) k) (AreCounted (length names) k) (walk.checked_stmt src names x k) _
      (λ y i. bind_keeps (AreCounted (length names) y.edges) (AreCounted (length names) k) (walk.checked_stmts src names xs y.edges) _
      (λ ys is. record {
        kept = and_of (sane.sane_stmt (length names) y.stmt) (sane.sane_stmts (length names) ys.stmts) i.kept is.kept;
        total = (let a = i.sum in let b = is.total in let c = edges-cons y.stmt ys.stmts in omega arith);
        within = is.within;
      })
      (list_counted xs h.1 p.1 y.edges i.within))
      (h.0 p.0 k small)

  set_keeps : (name : Symbol) (r : RightTree) → Claim (length names) (trees.fit_symbol n name && trees.fit_right n r) (walk.stmt_step src names (tree_stmt.Set name r))
  set_keeps name r fit k small =
      let p = and_is (trees.fit_symbol n name) (trees.fit_right n r) fit in
      bind_keeps (Adds 1 k) (IsCounted (length names) k) (walk.counted 1 name.place k) _
      (λ edges a. bind_keeps (λ v. nat_lt v (length names) ≡ true) (IsCounted (length names) k) (walk.resolved src names name) _
      (λ v i. bind_keeps (λ x. sane.sane_right (length names) x ≡ true) (IsCounted (length names) k) (walk.checked_right src names r) _
      (λ x j. one_counted (length names) k edges (s.Set name.place v x)
      (fold-set Bool (sane.sane_step (length names)) name.place v x ∙ and_of (nat_lt v (length names)) (sane.sane_right (length names) x) i j)
      (fold-set ℕ sane.edges_step name.place v x) a)
      (walked_right src names few n r p.1))
      (resolved_test src names name))
      (counted_adds 1 name.place k)

  if_keeps : (p : Place) (t : TestTree) (xs ys : List StmtTree) → AllByRecursion Keeps xs → AllByRecursion Keeps ys →
      Claim (length names) (trees.fit_test n t && (trees.fit_stmts n xs && trees.fit_stmts n ys)) (λ k. walk.split src names p t (walk.checked_stmts src names xs) (walk.checked_stmts src names ys) k)
  if_keeps p t xs ys h h' fit k small =
      let f = and_is (trees.fit_test n t) (trees.fit_stmts n xs && trees.fit_stmts n ys) fit in
      let g = and_is (trees.fit_stmts n xs) (trees.fit_stmts n ys) f.1 in
      bind_keeps (Adds (walk.test_edges t + 2) k) (IsCounted (length names) k) (walk.counted (walk.test_edges t + 2) p k) _
      (λ edges a. bind_keeps (IsTest (length names) t) (IsCounted (length names) k) (walk.checked_test src names t) _
      (λ u i. bind_keeps (AreCounted (length names) edges) (IsCounted (length names) k) (walk.checked_stmts src names xs edges) _
      (λ b j. bind_keeps (AreCounted (length names) b.edges) (IsCounted (length names) k) (walk.checked_stmts src names ys b.edges) _
      (λ c l. record {
        kept = fold-if Bool (sane.sane_step (length names)) p u b.stmts c.stmts ∙
            and_of (sane.sane_test (length names) u) (sane.sane_stmts (length names) b.stmts && sane.sane_stmts (length names) c.stmts) i.kept
            (and_of (sane.sane_stmts (length names) b.stmts) (sane.sane_stmts (length names) c.stmts) j.kept l.kept);
        sum = (let e = fold-if ℕ sane.edges_step p u b.stmts c.stmts in let a' = a.sum in let i' = i.count in let j' = j.total in let l' = l.total in omega arith);
        within = l.within;
      })
      (list_counted ys h' g.1 b.edges j.within))
      (list_counted xs h g.0 edges a.within))
      (walked_test src names few n t f.0))
      (counted_adds (walk.test_edges t + 2) p k)

  while_keeps : (p : Place) (t : TestTree) (tried : List CompareTree) (xs : List StmtTree) → AllByRecursion Keeps xs →
      Claim (length names) (trees.fit_test n t && (trees.fit_each n tried && trees.fit_stmts n xs)) (λ k. walk.loop src names p t tried (walk.checked_stmts src names xs) k)
  while_keeps p t tried xs h fit k small =
      let f = and_is (trees.fit_test n t) (trees.fit_each n tried && trees.fit_stmts n xs) fit in
      let g = and_is (trees.fit_each n tried) (trees.fit_stmts n xs) f.1 in
      bind_keeps (Adds (walk.test_edges t + 1) k) (IsCounted (length names) k) (walk.counted (walk.test_edges t + 1) p k) _
      (λ edges a. bind_keeps (IsTest (length names) t) (IsCounted (length names) k) (walk.checked_test src names t) _
      (λ u i. bind_keeps (IsConjunction (length names) tried) (IsCounted (length names) k) (walk.checked_all src names tried) _
      (λ rs j. bind_keeps (AreCounted (length names) edges) (IsCounted (length names) k) (walk.checked_stmts src names xs edges) _
      (λ b l. record {
        kept = fold-while Bool (sane.sane_step (length names)) p u rs b.stmts ∙
            and_of (sane.sane_test (length names) u) (sane.sane_each (length names) rs && sane.sane_stmts (length names) b.stmts) i.kept
            (and_of (sane.sane_each (length names) rs) (sane.sane_stmts (length names) b.stmts) j.kept l.kept);
        sum = (let e = fold-while ℕ sane.edges_step p u rs b.stmts in let a' = a.sum in let i' = i.count in let l' = l.total in omega arith);
        within = l.within;
      })
      (list_counted xs h g.1 edges a.within))
      (walked_all src names few n tried g.0))
      (walked_test src names few n t f.0))
      (counted_adds (walk.test_edges t + 1) p k)

  -- a conjunction of at least one comparison
  some_kept : (cs : List CompareTree) → trees.fit_all n cs ≡ true → IfOk (walk.checked_all src names cs) (λ xs. sane.sane_all (length names) xs ≡ true)
  some_kept [] fit = absurd (cc)
  some_kept (c ∷ cs) fit = by (walk.checked_all src names (c ∷ cs)) (walked_all src names few n (c ∷ cs) fit)
    where
      by : (r : Result (List Compare) SourceFault) → IfOk r (IsConjunction (length names) (c ∷ cs)) → IfOk r (λ xs. sane.sane_all (length names) xs ≡ true)
      by (Ok []) h = let l = h.long in absurd (omega arith)
      by (Ok (x ∷ xs)) h = h.kept
      by (Err e) h = tt

  assert_keeps : (p : Place) (cs : List CompareTree) → Claim (length names) (trees.fit_all n cs) (walk.stmt_step src names (tree_stmt.Assert p cs))
  assert_keeps p cs fit k small =
      bind_keeps (Adds 1 k) (IsCounted (length names) k) (walk.counted 1 p k) _
      (λ edges a. bind_keeps (λ xs. sane.sane_all (length names) xs ≡ true) (IsCounted (length names) k) (walk.checked_all src names cs) _
      (λ xs i. one_counted (length names) k edges (s.Assert p xs) (fold-assert Bool (sane.sane_step (length names)) p xs ∙ i) (fold-assert ℕ sane.edges_step p xs) a)
      (some_kept cs fit))
      (counted_adds 1 p k)

  assume_keeps : (p : Place) (cs : List CompareTree) → Claim (length names) (trees.fit_all n cs) (walk.stmt_step src names (tree_stmt.Assume p cs))
  assume_keeps p cs fit k small =
      bind_keeps (Adds 1 k) (IsCounted (length names) k) (walk.counted 1 p k) _
      (λ edges a. bind_keeps (λ xs. sane.sane_all (length names) xs ≡ true) (IsCounted (length names) k) (walk.checked_all src names cs) _
      (λ xs i. one_counted (length names) k edges (s.Assume p xs) (fold-assume Bool (sane.sane_step (length names)) p xs ∙ i) (fold-assume ℕ sane.edges_step p xs) a)
      (some_kept cs fit))
      (counted_adds 1 p k)

  -- a claim over what the folds compute is one over the tree
  at_tree : (x : StmtTree-F StmtTree) → Claim (length names) (trees.fit_stmt_step n (map-StmtTree StmtTree Bool (trees.fit_stmt n) x)) (walk.stmt_step src names (map-StmtTree StmtTree walk.Walk (walk.checked_stmt src names) x)) → Keeps (roll-StmtTree x)
  at_tree x h =
      subst (λ b. Claim (length names) b (walk.checked_stmt src names (roll-StmtTree x))) (sym (fold-roll-StmtTree Bool (trees.fit_stmt_step n) x))
      (subst (λ w. Claim (length names) (trees.fit_stmt_step n (map-StmtTree StmtTree Bool (trees.fit_stmt n) x)) w) (sym (fold-roll-StmtTree walk.Walk (walk.stmt_step src names) x)) h)

  keeps : (tree : StmtTree) → Keeps tree
  keeps tree = by_stmt Keeps
      (λ name r. at_tree (tree_stmt.Set name r) (set_keeps name r))
      (λ p t xs ys h k. at_tree (tree_stmt.If p t xs ys) (if_keeps p t xs ys h k))
      (λ p t tried xs h. at_tree (tree_stmt.While p t tried xs) (while_keeps p t tried xs h))
      (λ p cs. at_tree (tree_stmt.Assert p cs) (assert_keeps p cs))
      (λ p cs. at_tree (tree_stmt.Assume p cs) (assume_keeps p cs))
      tree

  stmts_counted : (trees' : List StmtTree) → trees.fit_stmts n trees' ≡ true → (k : ℕ) → k ≤ EDGES → IfOk (walk.checked_stmts src names trees' k) (AreCounted (length names) k)
  stmts_counted xs fit k small = list_counted xs (all_by Keeps keeps xs) fit k small

-- ---- names

record AreDeclared (before : ℕ) (names : List Bytes) : Type 0 where
  count : length names ≡ before
  few : length names ≤ VARIABLES

declare_counts : (src : Bytes) (names : List Bytes) (symbol : Symbol) → IfOk (walk.declare src names symbol) (AreDeclared (length names + 1))
declare_counts src names symbol = by (is_some (number_of names (walk.word src symbol))) (nat_lt (length names) VARIABLES) refl
  where
    by : (a b : Bool) → nat_lt (length names) VARIABLES ≡ b →
        IfOk {T = List Bytes} {E = SourceFault} (bind {A = Unit {0}} (cond a (Err (fault.DuplicateName symbol.place)) (cond b (Ok tt) (Err (fault.TooManyNames symbol.place)))) (λ u. Ok (names ++ walk.word src symbol ∷ []))) (AreDeclared (length names + 1))
    by true b e = tt
    by false false e = tt
    by false true e =
        let l : length (names ++ walk.word src symbol ∷ []) ≡ length names + 1 = simp length-append in
        let f = ltb-true (length names) VARIABLES e in
        record { count = l; few = omega arith }

declared_counts : (src : Bytes) (names : List Bytes) (symbols : List Symbol) → length names ≤ VARIABLES → IfOk (walk.declared_after src names symbols) (AreDeclared (length names + length symbols))
declared_counts src names [] few = record { count = omega arith; few = few }
declared_counts src names (symbol ∷ symbols) few =
    bind_keeps (AreDeclared (length names + 1)) (AreDeclared (length names + length (symbol ∷ symbols))) (walk.declare src names symbol) (λ more. walk.declared_after src more symbols)
    (λ more h. by more h (walk.declared_after src more symbols) (declared_counts src more symbols h.few))
    (declare_counts src names symbol)
  where
    by : (more : List Bytes) → AreDeclared (length names + 1) more → (r : Result (List Bytes) SourceFault) → IfOk r (AreDeclared (length more + length symbols)) → IfOk r (AreDeclared (length names + length (symbol ∷ symbols)))
    by more h (Ok xs) k = let c = h.count in let d = k.count in record { count = omega arith; few = k.few }
    by more h (Err e) k = tt

names_declared : (src : Bytes) (tree : ProgramTree) → IfOk (walk.checked_names src tree) (AreDeclared (length tree.params + length tree.locals))
names_declared src tree =
    bind_keeps (AreDeclared (0 + length tree.params)) (AreDeclared (length tree.params + length tree.locals)) (walk.declared_after src [] tree.params) (λ names. walk.declared_after src names tree.locals)
    (λ names h. by names h (walk.declared_after src names tree.locals) (declared_counts src names tree.locals h.few))
    (declared_counts src [] tree.params (omega arith))
  where
    by : (names : List Bytes) → AreDeclared (0 + length tree.params) names → (r : Result (List Bytes) SourceFault) → IfOk r (AreDeclared (length names + length tree.locals)) → IfOk r (AreDeclared (length tree.params + length tree.locals))
    by names h (Ok xs) k = let c = h.count in let d = k.count in record { count = omega arith; few = k.few }
    by names h (Err e) k = tt

-- ---- programs

walked : (src : Bytes) (n : ℕ) (tree : ProgramTree) → trees.fit_tree n tree ≡ true → IfOk (walk.checked src tree) (λ c. sane.is_sane c.names c.body ≡ true)
walked src n tree fit =
    let f = and_is (list_all (trees.fit_symbol n) tree.params) (list_all (trees.fit_symbol n) tree.locals && trees.fit_stmts n tree.body) fit in
    let g = and_is (list_all (trees.fit_symbol n) tree.locals) (trees.fit_stmts n tree.body) f.1 in
    bind_keeps (AreDeclared (length tree.params + length tree.locals)) (λ c. sane.is_sane c.names c.body ≡ true) (walk.checked_names src tree) _
    (λ names d. bind_keeps (AreCounted (length names) 1) (λ c. sane.is_sane c.names c.body ≡ true) (walk.checked_stmts src names tree.body 1) _
    (λ body b.
    let few = d.few in
    let count = d.count in
    let total = b.total in
    let within = b.within in
    and_of (nat_le (length tree.params) (length names)) _ (at_most (length tree.params) (length names) (omega arith))
    (and_of (nat_le (length names) VARIABLES) _ (at_most (length names) VARIABLES few)
    (and_of (sane.sane_stmts (length names) body.stmts) _ b.kept (at_most (sane.edges_of body.stmts) EDGES (omega arith)))))
    (stmts_counted src names d.few n tree.body g.1 1 (omega arith)))
    (names_declared src tree)

pub walks_are_sane : WalksAreSane
walks_are_sane src n tree c fit e = subst (λ r. IfOk r (λ c. sane.is_sane c.names c.body ≡ true)) e (walked src n tree fit)

-- what is made of the names and of the statements of a tree
pub parts_are_sane : (src : Bytes) (n : ℕ) (tree : ProgramTree) (names : Named) (trees' : List StmtTree) (body : CountedList) → trees.fit_tree n tree ≡ true →
    walk.checked_names src tree ≡ Ok names.names → names.params ≡ length tree.params → trees' ≡ tree.body → walk.checked_stmts src names.names trees' 1 ≡ Ok body → sane.is_sane names body.stmts ≡ true
parts_are_sane src n tree names trees' body fit h p s k =
    let checks : walk.checked src tree ≡ Ok (record { place = tree.place; names = record { names = names.names; params = length tree.params }; body = body.stmts }) =
    rw (h, ← s, k) refl in
    ap (λ (z : ℕ). sane.is_sane (record { names = names.names; params = z }) body.stmts) p ∙ walks_are_sane src n tree (record { place = tree.place; names = record { names = names.names; params = length tree.params }; body = body.stmts }) fit checks
