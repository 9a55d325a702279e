-- The counts over the symbols of the pieces of statements.
use Rattle.std.proofs.Common.{◌≡◌, ℕ, ◌+◌, ◌<◌, ◌≤◌, refl, sym, ◌∙◌, arith, List, [], ◌∷◌, ◌++◌, length, map, Bool, true}
use Rattle.std.specs.Prelude.{◌&&◌}
use Rattle.std.specs.List.{AllByRecursion, list_all}
use Rattle.pc_text.specs.Bytes.{Bytes}
use Rattle.pc_text.specs.declared.place.Place.{Place}
use Rattle.pc_language.specs.declared.terminal.Terminal.{Terminal}
use Rattle.pc_language.specs.declared.terminal.Terminal.TheVariants as terminal
use Rattle.pc_grammar.specs.declared.limits.Counts.{Counts}
use Rattle.pc_language.specs.declared.limits.TheConstants.{BRACES}
use Rattle.pc_program.specs.declared.tree.Compare.{Compare}
use Rattle.pc_program.specs.declared.tree.Test.{Test}
use Rattle.pc_program.specs.declared.tree.Right.{Right}
use Rattle.pc_program.specs.declared.tree.Stmt.{Stmt, fold-roll-Stmt, roll-Stmt}
use Rattle.pc_program.specs.declared.tree.Stmt.TheOpen as stmt
use Rattle.pc_show.specs.Pieces.{Piece, Blank, LineEnd, Mark, Name}
use Rattle.pc_show.specs.Canonical.{name_at, spaced, opened, all_pieces, test_pieces, right_pieces, block, else_part, tried_pieces, stmt_step, stmt_pieces, stmts_pieces}
use Rattle.pc_program.specs.Sane.{sane_each, sane_all, sane_test, sane_step, sane_stmt, sane_stmts}
use Rattle.pc_readback.specs.Showable.{shown_compare, shown_test, shown_step, shown_stmt, shown_stmts, nesting_step, nesting, nesting_of}
use Rattle.pc_program.proofs.Results.{and_is}
use Rattle.pc_program.proofs.Stmts.{by_stmt, all_by}
use Rattle.pc_show.proofs.Laid.{stmt_laid}
use Rattle.pc_readback.proofs.CountedPieces.{Anything, NoChoice, Count, count_none, count_both, count_then, count_as, next_mark}
use Rattle.pc_readback.proofs.CountedExprs.{Within, Here}
use Rattle.pc_readback.proofs.CountedMarks.{Braces, Keyword, Begins, reset, closed, keyword, open_paren, close_paren, name_here, open_brace, close_brace}
use Rattle.pc_readback.proofs.CountedTests.{conjunction_counted, test_counted, right_counted}

module _ (src : Bytes) (names : List Bytes) where
  -- ---- what statements are made of

  pub opened_counted : (b : ℕ) (t : Terminal) → Begins t → (ps : List Piece) → Count src ps (Within b 0 0) (Braces b) NoChoice → Count src (opened t ps) (Braces b) (Braces b) Anything
  opened_counted b t f ps d =
      let inside = count_both src (Within b 0 0) (Braces b) (Braces b) NoChoice Anything ps (Mark terminal.CloseParen ∷ []) (λ w v i g. next_mark src terminal.CloseParen refl [] w v i) d (close_paren src b) in
      let paren = count_then src (Keyword b) (Within b 0 0) (Braces b) Anything (Mark terminal.OpenParen ∷ []) (ps ++ Mark terminal.CloseParen ∷ []) (open_paren src b) inside in
      count_then src (Braces b) (Keyword b) (Braces b) Anything (Mark t ∷ Blank 1 ∷ []) (Mark terminal.OpenParen ∷ ps ++ Mark terminal.CloseParen ∷ []) (keyword src b t f) paren

  -- the end of a statement
  pub semicolon : (b : ℕ) → Count src (Mark terminal.Semicolon ∷ LineEnd ∷ []) (Braces b) (Braces b) Anything
  semicolon b = closed src b terminal.Semicolon (λ c s r e. rw e refl)

  line_end : (b : ℕ) → Count src (LineEnd ∷ []) (Braces b) (Braces b) Anything
  line_end b = count_none src (Braces b) Anything

  -- where only the braces are known, the "&&" are so many
  with_ands : (b : ℕ) (ps : List Piece) (Q : Counts → Type 0) → ((n : ℕ) → Count src ps (Here b n) Q Anything) → Count src ps (Braces b) Q Anything
  with_ands b ps Q f c p u v h g = f c.ands c (record { braces_are = p; ands_are = refl }) u v h g

  block_counted : (b : ℕ) (xs : List Stmt) (m : ℕ) → b < BRACES → Count src (stmts_pieces names xs (m + 2)) (Braces (b + 1)) (Braces (b + 1)) Anything → Count src (block (map (stmt_pieces names) xs) m) (Braces b) (Braces b) Anything
  block_counted b xs m l d =
      let inside = count_then src (Braces (b + 1)) (Braces (b + 1)) (Braces b) Anything (stmts_pieces names xs (m + 2)) (Blank m ∷ Mark terminal.CloseBrace ∷ []) d (close_brace src b) in
      count_then src (Braces b) (Braces (b + 1)) (Braces b) Anything (Blank 1 ∷ Mark terminal.OpenBrace ∷ LineEnd ∷ []) (stmts_pieces names xs (m + 2) ++ Blank m ∷ Mark terminal.CloseBrace ∷ []) (open_brace src b l) inside

  -- ---- statements

  abbrev Claim : Stmt → Type 0
  Claim x = sane_stmt (length names) x ≡ true → shown_stmt names x ≡ true → (b : ℕ) → b + nesting x ≤ BRACES → (m : ℕ) → Count src (stmt_pieces names x m) (Braces b) (Braces b) Anything

  list_counted : (xs : List Stmt) → AllByRecursion Claim xs → sane_stmts (length names) xs ≡ true → shown_stmts names xs ≡ true → (b : ℕ) → b + nesting_of xs ≤ BRACES → (m : ℕ) →
      Count src (stmts_pieces names xs m) (Braces b) (Braces b) Anything
  list_counted [] c h k b l m = count_none src (Braces b) Anything
  list_counted (x ∷ xs) c h k b l m =
      let p = and_is (sane_stmt (length names) x) (sane_stmts (length names) xs) h in
      let q = and_is (shown_stmt names x) (shown_stmts names xs) k in
      count_then src (Braces b) (Braces b) (Braces b) Anything (stmt_pieces names x m) (stmts_pieces names xs m) (c.0 p.0 q.0 b (omega arith) m) (list_counted xs c.1 p.1 q.1 b (omega arith) m)

  set_case : (p : Place) (v : ℕ) (r : Right) → Claim (roll-Stmt (stmt.Set p v r))
  set_case p v r h k b l m =
      let x = sym (fold-roll-Stmt Bool (shown_step names) (stmt.Set p v r)) ∙ k in
      let ps = right_pieces names r in
      let tail = Mark terminal.Semicolon ∷ LineEnd ∷ [] in
      rw (stmt_laid names (stmt.Set p v r) m) (with_ands b (stmt_step names (stmt.Set p v r) m) (Braces b) (λ n.
      count_then src (Here b n) (Here b n) (Braces b) Anything (Blank m ∷ Name (name_at names v) ∷ []) (spaced terminal.Assign ++ (ps ++ tail)) (name_here src b n (name_at names v))
      (count_then src (Here b n) (Within b n 0) (Braces b) Anything (spaced terminal.Assign) (ps ++ tail) (reset src b n terminal.Assign (λ c s r e. rw e refl))
      (count_both src (Within b n 0) (Here b n) (Braces b) NoChoice Anything ps tail (λ w v i f. next_mark src terminal.Semicolon refl (LineEnd ∷ []) w v i) (right_counted src names b n r x)
      (count_as src (Braces b) (Here b n) (Braces b) (Braces b) Anything tail (λ c p. p.braces_are) (λ c p. p) (semicolon b))))))

  else_counted : (b : ℕ) (ys : List Stmt) (m : ℕ) → b < BRACES → Count src (stmts_pieces names ys (m + 2)) (Braces (b + 1)) (Braces (b + 1)) Anything → Count src (else_part (map (stmt_pieces names) ys) m) (Braces b) (Braces b) Anything
  else_counted b [] m l d = count_none src (Braces b) Anything
  else_counted b (y ∷ ys) m l d = count_then src (Braces b) (Braces b) (Braces b) Anything (Blank 1 ∷ Mark terminal.Else ∷ []) (block (map (stmt_pieces names) (y ∷ ys)) m)
      (count_as src (Braces b) (Braces b) (Keyword b) (Braces b) Anything (Blank 1 ∷ Mark terminal.Else ∷ []) (λ c p. p) (λ c p. p.braces_are) (keyword src b terminal.Else (λ c s r e. rw e refl))) (block_counted b (y ∷ ys) m l d)

  if_case : (p : Place) (t : Test) (xs ys : List Stmt) → AllByRecursion Claim xs → AllByRecursion Claim ys → Claim (roll-Stmt (stmt.If p t xs ys))
  if_case p t xs ys c d h k b l m =
      let s = and_is (sane_test (length names) t) (sane_stmts (length names) xs && sane_stmts (length names) ys) (sym (fold-roll-Stmt Bool (sane_step (length names)) (stmt.If p t xs ys)) ∙ h) in
      let s2 = and_is (sane_stmts (length names) xs) (sane_stmts (length names) ys) s.1 in
      let q = and_is (shown_test names t) (shown_stmts names xs && shown_stmts names ys) (sym (fold-roll-Stmt Bool (shown_step names) (stmt.If p t xs ys)) ∙ k) in
      let q2 = and_is (shown_stmts names xs) (shown_stmts names ys) q.1 in
      let n = fold-roll-Stmt ℕ nesting_step (stmt.If p t xs ys) in
      let first = block (map (stmt_pieces names) xs) m in
      let second = else_part (map (stmt_pieces names) ys) m in
      rw (stmt_laid names (stmt.If p t xs ys) m)
      (count_then src (Braces b) (Braces b) (Braces b) Anything (Blank m ∷ opened terminal.If (test_pieces names t)) (first ++ (second ++ LineEnd ∷ []))
      (opened_counted b terminal.If (λ c s r e. rw e refl) (test_pieces names t) (test_counted src names b (length names) t s.0 q.0))
      (count_then src (Braces b) (Braces b) (Braces b) Anything first (second ++ LineEnd ∷ []) (block_counted b xs m (omega arith) (list_counted xs c s2.0 q2.0 (b + 1) (omega arith) (m + 2)))
      (count_then src (Braces b) (Braces b) (Braces b) Anything second (LineEnd ∷ []) (else_counted b ys m (omega arith) (list_counted ys d s2.1 q2.1 (b + 1) (omega arith) (m + 2))) (line_end b))))

  tried_counted : (b : ℕ) (cs : List Compare) → sane_each (length names) cs ≡ true → list_all (shown_compare names) cs ≡ true → Count src (tried_pieces names cs) (Braces b) (Braces b) Anything
  tried_counted b [] s h = count_none src (Braces b) Anything
  tried_counted b (c ∷ cs) s h = opened_counted b terminal.Try (λ c s r e. rw e refl) (all_pieces names (c ∷ cs)) (conjunction_counted src names b (length names) (c ∷ cs) s h)

  while_case : (p : Place) (t : Test) (tried : List Compare) (xs : List Stmt) → AllByRecursion Claim xs → Claim (roll-Stmt (stmt.While p t tried xs))
  while_case p t tried xs c h k b l m =
      let s = and_is (sane_test (length names) t) (sane_each (length names) tried && sane_stmts (length names) xs) (sym (fold-roll-Stmt Bool (sane_step (length names)) (stmt.While p t tried xs)) ∙ h) in
      let s2 = and_is (sane_each (length names) tried) (sane_stmts (length names) xs) s.1 in
      let q = and_is (shown_test names t) (list_all (shown_compare names) tried && shown_stmts names xs) (sym (fold-roll-Stmt Bool (shown_step names) (stmt.While p t tried xs)) ∙ k) in
      let q2 = and_is (list_all (shown_compare names) tried) (shown_stmts names xs) q.1 in
      let n = fold-roll-Stmt ℕ nesting_step (stmt.While p t tried xs) in
      let first = tried_pieces names tried in
      let second = block (map (stmt_pieces names) xs) m in
      rw (stmt_laid names (stmt.While p t tried xs) m)
      (count_then src (Braces b) (Braces b) (Braces b) Anything (Blank m ∷ opened terminal.While (test_pieces names t)) (first ++ (second ++ LineEnd ∷ []))
      (opened_counted b terminal.While (λ c s r e. rw e refl) (test_pieces names t) (test_counted src names b (length names) t s.0 q.0))
      (count_then src (Braces b) (Braces b) (Braces b) Anything first (second ++ LineEnd ∷ []) (tried_counted b tried s2.0 q2.0)
      (count_then src (Braces b) (Braces b) (Braces b) Anything second (LineEnd ∷ []) (block_counted b xs m (omega arith) (list_counted xs c s2.1 q2.1 (b + 1) (omega arith) (m + 2))) (line_end b))))

  claim_counted : (b : ℕ) (t : Terminal) → Begins t → (m : ℕ) (cs : List Compare) → sane_all (length names) cs ≡ true → list_all (shown_compare names) cs ≡ true →
      Count src (Blank m ∷ opened t (all_pieces names cs) ++ Mark terminal.Semicolon ∷ LineEnd ∷ []) (Braces b) (Braces b) Anything
  claim_counted b t f m cs s h = count_then src (Braces b) (Braces b) (Braces b) Anything (Blank m ∷ opened t (all_pieces names cs)) (Mark terminal.Semicolon ∷ LineEnd ∷ [])
      (opened_counted b t f (all_pieces names cs) (conjunction_counted src names b (length names) cs s h)) (semicolon b)

  assert_case : (p : Place) (cs : List Compare) → Claim (roll-Stmt (stmt.Assert p cs))
  assert_case p cs h k b l m =
      let s = sym (fold-roll-Stmt Bool (sane_step (length names)) (stmt.Assert p cs)) ∙ h in
      let q = sym (fold-roll-Stmt Bool (shown_step names) (stmt.Assert p cs)) ∙ k in
      rw (stmt_laid names (stmt.Assert p cs) m) (claim_counted b terminal.Assert (λ c s r e. rw e refl) m cs s q)

  assume_case : (p : Place) (cs : List Compare) → Claim (roll-Stmt (stmt.Assume p cs))
  assume_case p cs h k b l m =
      let s = sym (fold-roll-Stmt Bool (sane_step (length names)) (stmt.Assume p cs)) ∙ h in
      let q = sym (fold-roll-Stmt Bool (shown_step names) (stmt.Assume p cs)) ∙ k in
      rw (stmt_laid names (stmt.Assume p cs) m) (claim_counted b terminal.Assume (λ c s r e. rw e refl) m cs s q)

  pub stmts_counted : (xs : List Stmt) → sane_stmts (length names) xs ≡ true → shown_stmts names xs ≡ true → (b : ℕ) → b + nesting_of xs ≤ BRACES → (m : ℕ) →
      Count src (stmts_pieces names xs m) (Braces b) (Braces b) Anything
  stmts_counted xs h k b l m = list_counted xs (all_by Claim (by_stmt Claim set_case if_case while_case assert_case assume_case) xs) h k b l m
