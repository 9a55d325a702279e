-- The symbols of the pieces of statements derive trees, of which the walk makes them again.
use Rattle.std.proofs.Common.{◌≡◌, ℕ, zero, suc, ◌+◌, ◌≤◌, refl, sym, ◌∙◌, ap, arith, List, [], ◌∷◌, ◌++◌, length, map, sum, Bool, true, false}
use Rattle.std.specs.Prelude.{◌&&◌, nat_lt}
use Rattle.std.specs.List.{AllByRecursion}
use Rattle.std.proofs.lemmas.List.Sums.{sum-map, sum_by-cons}
use Rattle.std.proofs.lemmas.Bool.{ltb-true}
use Rattle.pc_text.specs.Bytes.{Bytes}
use Rattle.pc_text.specs.declared.place.Place.{Place}
use Rattle.pc_text.specs.Named.{number_of, AreDistinct}
use Rattle.pc_language.specs.declared.terminal.Terminal.TheVariants as terminal
use Rattle.pc_grammar.specs.declared.tree.StmtTree.{StmtTree}
use Rattle.pc_grammar.specs.Combinators.{Lang, is_many}
use Rattle.pc_grammar.specs.Expressions.{is_paren}
use Rattle.pc_grammar.specs.Statements as grammar
use Rattle.pc_program.specs.declared.tree.Compare.{Compare}
use Rattle.pc_program.specs.declared.tree.Test.{Test}
use Rattle.pc_program.specs.declared.tree.Right.{Right}
use Rattle.pc_program.specs.declared.tree.Stmt.{Stmt, fold-roll-Stmt, roll-Stmt}
use Rattle.pc_program.specs.declared.tree.Stmt.TheOpen as stmt
use Rattle.pc_program.specs.declared.tree.Stmt.TheVariants as s
use Rattle.pc_show.specs.Pieces.{Blank, LineEnd, Mark}
use Rattle.pc_show.specs.Canonical.{name_at, all_pieces, test_pieces, right_pieces, block, else_part, tried_pieces, stmt_step, stmt_pieces, stmts_pieces}
use Rattle.pc_program.specs.Sane.{sane_each, sane_all, sane_test, sane_right, sane_step, sane_stmt, sane_stmts, edges_step, edges, test_edges}
use Rattle.pc_readback.specs.Bare.{nowhere, bare_test, bare_all, bare_right, bare_stmt_step, bare_stmt, bare}
use Rattle.pc_program.proofs.Results.{and_is}
use Rattle.pc_program.proofs.Stmts.{by_stmt, all_by}
use Rattle.pc_show.proofs.Laid.{stmt_laid}
use Rattle.pc_readback.proofs.Derived.{Derive, Derivable, Front, derive_as, derive_one, derive_nil, derive_cons, derive_between, derive_missing, derive_after}
use Rattle.pc_readback.proofs.DerivedExprs.{numbered}
use Rattle.pc_readback.proofs.ComparesAgain.{AreCompares, IsTest, none_again}
use Rattle.pc_readback.proofs.DerivedTests.{shown_conjunction, shown_test}
use Rattle.pc_readback.proofs.DerivedRights.{IsRight, shown_right}
use Rattle.pc_readback.proofs.StmtsAgain.{IsStmt, AreStmts, nothing_again, then_again, set_again, assert_again, assume_again, if_again, while_again}
use Rattle.pc_readback.proofs.StmtPhrases.{set_derives, enclosed_derives, claim_derives, if_derives, while_derives, is_set, is_if, is_while, is_assert, is_assume}

edges-cons : (x : Stmt) (xs : List Stmt) → sum (map edges (x ∷ xs)) ≡ edges x + sum (map edges xs)
edges-cons x xs = sum-map edges (x ∷ xs) ∙ sum_by-cons edges x xs ∙ ap (λ (k : ℕ). edges x + k) (sym (sum-map edges xs))

module _ (src : Bytes) (names : List Bytes) (distinct : AreDistinct names) where
  abbrev is_stmt : ℕ → Lang StmtTree
  is_stmt n = grammar.is_stmt (is_paren n) (grammar.is_block n)

  abbrev Claim : Stmt → Type 0
  Claim x = sane_stmt (length names) x ≡ true → (m : ℕ) → Derivable src (stmt_pieces names x m) is_stmt (IsStmt src names (bare_stmt x) (edges x))

  -- ---- statements in order, and blocks

  abbrev Statements : List Stmt → List StmtTree → Type 0
  Statements xs ts = AreStmts src names (bare xs) (sum (map edges xs)) ts

  nothing_left : (ts : List StmtTree) → ts ≡ [] → Statements [] ts
  nothing_left ts e = rw e (nothing_again src names)

  one_before : (x : Stmt) (xs : List Stmt) (ts : List StmtTree) → Front src (IsStmt src names (bare_stmt x) (edges x)) (Statements xs) ts → Statements (x ∷ xs) ts
  one_before x xs [] h = absurd h
  one_before x xs (t ∷ ts) h = rw (edges-cons x xs) (then_again src names (bare_stmt x) (edges x) t (bare xs) (sum (map edges xs)) ts h.0 h.1)

  list_shown : (xs : List Stmt) → AllByRecursion Claim xs → sane_stmts (length names) xs ≡ true → (m : ℕ) → Derivable src (stmts_pieces names xs m) (λ n. is_many (is_stmt n)) (Statements xs)
  list_shown [] c h m = (0, λ n i. derive_as src _ (λ ts. ts ≡ []) (Statements []) [] nothing_left (derive_nil src (is_stmt n)))
  list_shown (x ∷ xs) c h m =
      let p = and_is (sane_stmt (length names) x) (sane_stmts (length names) xs) h in
      let d = c.0 p.0 m in
      let e = list_shown xs c.1 p.1 m in (
        d.0 + e.0,
        λ n i. derive_as src _ (Front src (IsStmt src names (bare_stmt x) (edges x)) (Statements xs)) (Statements (x ∷ xs)) (stmts_pieces names (x ∷ xs) m) (one_before x xs)
            (derive_cons src _ (IsStmt src names (bare_stmt x) (edges x)) (Statements xs) (stmt_pieces names x m) (stmts_pieces names xs m) (d.1 n (omega arith)) (e.1 n (omega arith))),
      )

  block_shown : (xs : List Stmt) (m : ℕ) → Derivable src (stmts_pieces names xs (m + 2)) (λ n. is_many (is_stmt n)) (Statements xs) → Derivable src (block (map (stmt_pieces names) xs) m) grammar.is_block (Statements xs)
  block_shown xs m (least, d) = (suc least, by)
    where
      by : (n : ℕ) → suc least ≤ n → Derive src (block (map (stmt_pieces names) xs) m) (grammar.is_block n) (Statements xs)
      by zero h = absurd (omega arith)
      by (suc n) h = derive_between src terminal.OpenBrace terminal.CloseBrace (is_many (is_stmt n)) _ _ (Statements xs) (Blank 1 ∷ Mark terminal.OpenBrace ∷ LineEnd ∷ []) (stmts_pieces names xs (m + 2))
          (Blank m ∷ Mark terminal.CloseBrace ∷ []) (derive_one src terminal.OpenBrace refl) (d n (omega arith)) (derive_one src terminal.CloseBrace refl)

  else_shown : (ys : List Stmt) (m : ℕ) → Derivable src (stmts_pieces names ys (m + 2)) (λ n. is_many (is_stmt n)) (Statements ys) →
      Derivable src (else_part (map (stmt_pieces names) ys) m) (λ n. grammar.is_after terminal.Else (grammar.is_block n)) (Statements ys)
  else_shown [] m d = (0, λ n i. derive_as src _ (λ ts. ts ≡ []) (Statements []) [] nothing_left (derive_missing src terminal.Else (grammar.is_block n)))
  else_shown (y ∷ ys) m d =
      let b = block_shown (y ∷ ys) m d in
      (b.0, λ n i. derive_after src terminal.Else (grammar.is_block n) _ (Statements (y ∷ ys)) (Blank 1 ∷ Mark terminal.Else ∷ []) (block (map (stmt_pieces names) (y ∷ ys)) m) (derive_one src terminal.Else refl) (b.1 n i))

  -- ---- each kind of statement

  set_case : (p : Place) (v : ℕ) (r : Right) → Claim (roll-Stmt (stmt.Set p v r))
  set_case p v r h m =
      let k = and_is (nat_lt v (length names)) (sane_right (length names) r) (sym (fold-roll-Stmt Bool (sane_step (length names)) (stmt.Set p v r)) ∙ h) in
      let named = numbered names distinct v (ltb-true v (length names) k.0) in
      let d = shown_right src names distinct r k.1 in
      rw (stmt_laid names (stmt.Set p v r) m, fold-roll-Stmt Stmt bare_stmt_step (stmt.Set p v r), fold-roll-Stmt ℕ edges_step (stmt.Set p v r)) (
        d.0,
        λ n i. is_set src (is_paren n) (grammar.is_block n) (stmt_step names (stmt.Set p v r) m) (IsStmt src names (s.Set nowhere v (bare_right r)) 1)
            (set_derives src (is_paren n) m (name_at names v) (right_pieces names r) (IsRight src names r) (IsStmt src names (s.Set nowhere v (bare_right r)) 1)
            (λ name t w x. set_again src names name v r t (ap (number_of names) w ∙ named) x) (d.1 n i)),
      )

  if_case : (p : Place) (t : Test) (xs ys : List Stmt) → AllByRecursion Claim xs → AllByRecursion Claim ys → Claim (roll-Stmt (stmt.If p t xs ys))
  if_case p t xs ys c d h m =
      let k = and_is (sane_test (length names) t) (sane_stmts (length names) xs && sane_stmts (length names) ys) (sym (fold-roll-Stmt Bool (sane_step (length names)) (stmt.If p t xs ys)) ∙ h) in
      let l = and_is (sane_stmts (length names) xs) (sane_stmts (length names) ys) k.1 in
      let q = shown_test src names distinct t k.0 in
      let a = block_shown xs m (list_shown xs c l.0 (m + 2)) in
      let b = else_shown ys m (list_shown ys d l.1 (m + 2)) in
      let Q = IsStmt src names (s.If nowhere (bare_test t) (bare xs) (bare ys)) (test_edges t + 2 + sum (map edges xs) + sum (map edges ys)) in
      rw (stmt_laid names (stmt.If p t xs ys) m, fold-roll-Stmt Stmt bare_stmt_step (stmt.If p t xs ys), fold-roll-Stmt ℕ edges_step (stmt.If p t xs ys)) (
        q.0 + (a.0 + b.0),
        λ n i. is_if src (is_paren n) (grammar.is_block n) (stmt_step names (stmt.If p t (map (stmt_pieces names) xs) (map (stmt_pieces names) ys)) m) Q
            (if_derives src (is_paren n) (grammar.is_block n) m (test_pieces names t) (block (map (stmt_pieces names) xs) m) (else_part (map (stmt_pieces names) ys) m) (IsTest src names t) (Statements ys) Q (Statements xs)
            (λ p u us vs x f g. if_again src names p t u (bare xs) (bare ys) (sum (map edges xs)) (sum (map edges ys)) us vs x f g) (q.1 n (omega arith)) (a.1 n (omega arith)) (b.1 n (omega arith))),
      )

  tried_shown : (cs : List Compare) → sane_each (length names) cs ≡ true → Derivable src (tried_pieces names cs) (λ n. grammar.is_tried (is_paren n)) (AreCompares src names false cs)
  tried_shown [] h = (0, λ n i. derive_as src _ (λ ts. ts ≡ []) (AreCompares src names false []) [] (λ ts e. rw e (none_again src names false)) (derive_missing src terminal.Try (grammar.is_enclosed (grammar.is_all (is_paren n)))))
  tried_shown (c ∷ cs) h =
      let d = shown_conjunction src names distinct c cs h in (
        d.0,
        λ n i. derive_after src terminal.Try (grammar.is_enclosed (grammar.is_all (is_paren n))) _ (AreCompares src names false (c ∷ cs)) (Blank 1 ∷ Mark terminal.Try ∷ Blank 1 ∷ [])
            (Mark terminal.OpenParen ∷ all_pieces names (c ∷ cs) ++ Mark terminal.CloseParen ∷ []) (derive_one src terminal.Try refl)
            (enclosed_derives src (is_paren n) (grammar.is_all (is_paren n)) (all_pieces names (c ∷ cs)) (AreCompares src names false (c ∷ cs)) (d.1 n i)),
      )

  while_case : (p : Place) (t : Test) (tried : List Compare) (xs : List Stmt) → AllByRecursion Claim xs → Claim (roll-Stmt (stmt.While p t tried xs))
  while_case p t tried xs c h m =
      let k = and_is (sane_test (length names) t) (sane_each (length names) tried && sane_stmts (length names) xs) (sym (fold-roll-Stmt Bool (sane_step (length names)) (stmt.While p t tried xs)) ∙ h) in
      let l = and_is (sane_each (length names) tried) (sane_stmts (length names) xs) k.1 in
      let q = shown_test src names distinct t k.0 in
      let r = tried_shown tried l.0 in
      let a = block_shown xs m (list_shown xs c l.1 (m + 2)) in
      let Q = IsStmt src names (s.While nowhere (bare_test t) (bare_all tried) (bare xs)) (test_edges t + 1 + sum (map edges xs)) in
      rw (stmt_laid names (stmt.While p t tried xs) m, fold-roll-Stmt Stmt bare_stmt_step (stmt.While p t tried xs), fold-roll-Stmt ℕ edges_step (stmt.While p t tried xs)) (
        q.0 + (r.0 + a.0),
        λ n i. is_while src (is_paren n) (grammar.is_block n) (stmt_step names (stmt.While p t tried (map (stmt_pieces names) xs)) m) Q
            (while_derives src (is_paren n) (grammar.is_block n) m (test_pieces names t) (tried_pieces names tried) (block (map (stmt_pieces names) xs) m) (IsTest src names t) (Statements xs) Q (AreCompares src names false tried)
            (λ p u ts us x y f. while_again src names p t u tried ts (bare xs) (sum (map edges xs)) us x y f) (q.1 n (omega arith)) (r.1 n (omega arith)) (a.1 n (omega arith))),
      )

  assert_case : (p : Place) (cs : List Compare) → Claim (roll-Stmt (stmt.Assert p cs))
  assert_case p cs h m = by cs (sym (fold-roll-Stmt Bool (sane_step (length names)) (stmt.Assert p cs)) ∙ h)
    where
      by : (cs : List Compare) → sane_all (length names) cs ≡ true → Derivable src (stmt_pieces names (roll-Stmt (stmt.Assert p cs)) m) is_stmt (IsStmt src names (bare_stmt (roll-Stmt (stmt.Assert p cs))) (edges (roll-Stmt (stmt.Assert p cs))))
      by [] h = absurd (cc)
      by (c ∷ cs) h =
          let d = shown_conjunction src names distinct c cs h in
          let Q = IsStmt src names (s.Assert nowhere (bare_all (c ∷ cs))) 1 in
          rw (stmt_laid names (stmt.Assert p (c ∷ cs)) m, fold-roll-Stmt Stmt bare_stmt_step (stmt.Assert p (c ∷ cs)), fold-roll-Stmt ℕ edges_step (stmt.Assert p (c ∷ cs))) (
            d.0,
            λ n i. is_assert src (is_paren n) (grammar.is_block n) (stmt_step names (stmt.Assert p (c ∷ cs)) m) Q
                (claim_derives src (is_paren n) terminal.Assert refl grammar.assert_of m (all_pieces names (c ∷ cs)) (AreCompares src names false (c ∷ cs)) Q
                (λ x k. assert_again src names x.0.place (c ∷ cs) x.1.0 k) (d.1 n i)),
          )

  assume_case : (p : Place) (cs : List Compare) → Claim (roll-Stmt (stmt.Assume p cs))
  assume_case p cs h m = by cs (sym (fold-roll-Stmt Bool (sane_step (length names)) (stmt.Assume p cs)) ∙ h)
    where
      by : (cs : List Compare) → sane_all (length names) cs ≡ true → Derivable src (stmt_pieces names (roll-Stmt (stmt.Assume p cs)) m) is_stmt (IsStmt src names (bare_stmt (roll-Stmt (stmt.Assume p cs))) (edges (roll-Stmt (stmt.Assume p cs))))
      by [] h = absurd (cc)
      by (c ∷ cs) h =
          let d = shown_conjunction src names distinct c cs h in
          let Q = IsStmt src names (s.Assume nowhere (bare_all (c ∷ cs))) 1 in
          rw (stmt_laid names (stmt.Assume p (c ∷ cs)) m, fold-roll-Stmt Stmt bare_stmt_step (stmt.Assume p (c ∷ cs)), fold-roll-Stmt ℕ edges_step (stmt.Assume p (c ∷ cs))) (
            d.0,
            λ n i. is_assume src (is_paren n) (grammar.is_block n) (stmt_step names (stmt.Assume p (c ∷ cs)) m) Q
                (claim_derives src (is_paren n) terminal.Assume refl grammar.assume_of m (all_pieces names (c ∷ cs)) (AreCompares src names false (c ∷ cs)) Q
                (λ x k. assume_again src names x.0.place (c ∷ cs) x.1.0 k) (d.1 n i)),
          )

  shown_stmt : (x : Stmt) → Claim x
  shown_stmt x = by_stmt Claim set_case if_case while_case assert_case assume_case x

  pub shown_stmts : (xs : List Stmt) → sane_stmts (length names) xs ≡ true → (m : ℕ) →
      Derivable src (stmts_pieces names xs m) (λ n. grammar.is_stmts n) (AreStmts src names (bare xs) (sum (map edges xs)))
  shown_stmts xs h m = list_shown xs (all_by Claim shown_stmt xs) h m
