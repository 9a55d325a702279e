-- The counts over the symbols of the pieces of comparisons, tests and right sides.
use Rattle.std.proofs.Common.{◌≡◌, ℕ, suc, ◌+◌, ◌<◌, ◌≤◌, refl, ap, arith, pos, negsuc, List, [], ◌∷◌, ◌++◌, length, true, false, Option, Some, None}
use Rattle.std.specs.Prelude.{nat_le}
use Rattle.std.specs.List.{list_all}
use Rattle.std.proofs.lemmas.Bool.{leb-true}
use Rattle.pc_text.specs.Bytes.{Bytes}
use Rattle.pc_language.specs.declared.terminal.Terminal.TheVariants as terminal
use Rattle.pc_language.specs.declared.limits.TheConstants.{COMPARISONS}
use Rattle.pc_language.specs.declared.operator.Op.{Op}
use Rattle.pc_language.specs.declared.operator.Op.TheVariants as op
use Rattle.pc_language.specs.declared.choice.Bound.{Bound}
use Rattle.pc_language.specs.declared.choice.Bound.TheVariants as end
use Rattle.pc_language.specs.declared.choice.Choice.{Choice}
use Rattle.pc_grammar.specs.Combinators.{Text, starts}
use Rattle.pc_grammar.specs.Terminals.{the, has}
use Rattle.pc_program.specs.declared.tree.Compare.{Compare}
use Rattle.pc_program.specs.declared.tree.Test.{Test}
use Rattle.pc_program.specs.declared.tree.Test.TheVariants as test
use Rattle.pc_program.specs.declared.tree.Right.{Right}
use Rattle.pc_show.specs.declared.showing.level.Level.TheVariants as level
use Rattle.pc_show.specs.Pieces.{Piece, Blank, Mark, Number}
use Rattle.pc_show.specs.Canonical.{spaced, sign_of, expr_pieces, compare_pieces, further_pieces, all_pieces, test_pieces, bound_pieces, choice_pieces, right_pieces}
use Rattle.pc_readback.specs.Matched.{AreOf}
use Rattle.pc_program.specs.Sane.{sane_all, sane_test}
use Rattle.pc_readback.specs.Showable.{shown_expr, shown_compare, shown_test}
use Rattle.pc_program.proofs.Results.{and_is}
use Rattle.pc_readback.proofs.CountedPieces.{Anything, NoChoice, Count, count_none, count_both, count_then, count_mark, count_as, next_mark}
use Rattle.pc_readback.proofs.CountedExprs.{Within, Here, here, pieces_counted, expr_counted}
use Rattle.pc_readback.proofs.CountedMarks.{Braces, Resets, reset, one_and, any_test}

-- ---- comparisons

operator_resets : (o : Op) → Resets (sign_of o)
operator_resets op.Less c s r e = rw e refl
operator_resets o c s r e = rw e refl

operator_apart : (o : Op) → has (terminal.OpenBracket ∷ []) (sign_of o) ≡ false
operator_apart op.Less = refl
operator_apart o = refl

module _ (src : Bytes) (names : List Bytes) (b : ℕ) where
  compare_counted : (n : ℕ) (c : Compare) → shown_compare names c ≡ true → Count src (compare_pieces names c) (Within b n 0) (Here b n) NoChoice
  compare_counted n c h =
      let p = and_is (shown_expr names c.left) (shown_expr names c.right) h in
      count_both src (Within b n 0) (Here b n) (Here b n) NoChoice NoChoice (expr_pieces names c.left level.Expression) (spaced (sign_of c.op) ++ expr_pieces names c.right level.Expression)
      (λ w v i f. next_mark src (sign_of c.op) (operator_apart c.op) (Blank 1 ∷ expr_pieces names c.right level.Expression) w v i)
      (expr_counted names src b n c.left p.0)
      (count_then src (Here b n) (Within b n 0) (Here b n) NoChoice (spaced (sign_of c.op)) (expr_pieces names c.right level.Expression) (reset src b n (sign_of c.op) (operator_resets c.op)) (expr_counted names src b n c.right p.1))

  -- what follows a comparison
  further_no_choice : (cs : List Compare) (w v : Text) → AreOf src (further_pieces names cs) w → NoChoice v → NoChoice (w ++ v)
  further_no_choice [] [] v h f = f
  further_no_choice [] (s ∷ w) v h f = absurd h
  further_no_choice (c ∷ cs) w v h f = next_mark src terminal.And refl (Blank 1 ∷ compare_pieces names c ++ further_pieces names cs) w v h

  further_counted : (cs : List Compare) (n : ℕ) → list_all (shown_compare names) cs ≡ true → n + length cs < COMPARISONS → Count src (further_pieces names cs) (Here b n) (Braces b) NoChoice
  further_counted [] n h l = count_as src (Here b n) (Here b n) (Here b n) (Braces b) NoChoice [] (λ c p. p) (λ c p. p.braces_are) (count_none src (Here b n) NoChoice)
  further_counted (c ∷ cs) n h l =
      let p = and_is (shown_compare names c) (list_all (shown_compare names) cs) h in
      count_both src (Here b n) (Here b (n + 1)) (Braces b) NoChoice NoChoice (spaced terminal.And ++ compare_pieces names c) (further_pieces names cs) (further_no_choice cs)
      (count_then src (Here b n) (Within b (n + 1) 0) (Here b (n + 1)) NoChoice (spaced terminal.And) (compare_pieces names c) (one_and src b n (omega arith)) (compare_counted (n + 1) c p.0))
      (further_counted cs (n + 1) p.1 (omega arith))

  -- behind a keyword and its parenthesis
  all_counted : (c : Compare) (cs : List Compare) → list_all (shown_compare names) (c ∷ cs) ≡ true → length (c ∷ cs) ≤ COMPARISONS → Count src (all_pieces names (c ∷ cs)) (Within b 0 0) (Braces b) NoChoice
  all_counted c cs h l =
      let p = and_is (shown_compare names c) (list_all (shown_compare names) cs) h in
      count_both src (Within b 0 0) (Here b 0) (Braces b) NoChoice NoChoice (compare_pieces names c) (further_pieces names cs) (further_no_choice cs) (compare_counted 0 c p.0) (further_counted cs 0 p.1 (omega arith))

  pub conjunction_counted : (n : ℕ) (cs : List Compare) → sane_all n cs ≡ true → list_all (shown_compare names) cs ≡ true → Count src (all_pieces names cs) (Within b 0 0) (Braces b) NoChoice
  conjunction_counted n [] s h = absurd (cc)
  conjunction_counted n (c ∷ cs) s h = all_counted c cs h (leb-true (length (c ∷ cs)) COMPARISONS (and_is (nat_le (length (c ∷ cs)) COMPARISONS) _ s).0)

  pub test_counted : (n : ℕ) (t : Test) → sane_test n t ≡ true → shown_test names t ≡ true → Count src (test_pieces names t) (Within b 0 0) (Braces b) NoChoice
  test_counted n test.Any s h = λ c p u v i f. any_test src b c p u v i tt
  test_counted n (test.All []) s h = absurd (cc)
  test_counted n (test.All (c ∷ [])) s h = all_counted c [] h (omega arith)
  test_counted n (test.All (c ∷ d ∷ cs)) s h = conjunction_counted n (c ∷ d ∷ cs) s h

  -- ---- right sides

  bound_counted : (n : ℕ) (e : Bound) → Count src (bound_pieces e) (Within b n 0) (Here b n) NoChoice
  bound_counted n (end.At (pos m)) = count_as src (Within b n 0) (Within b n 0) (Within b n 0) (Here b n) NoChoice (Number (pos m) ∷ []) (λ c w. w) (here b n 0) (pieces_counted src b n (Number (pos m) ∷ []) refl 0 (omega arith))
  bound_counted n (end.At (negsuc m)) = count_as src (Within b n 0) (Within b n 0) (Within b n 1) (Here b n) NoChoice (Mark terminal.Minus ∷ Number (pos (suc m)) ∷ []) (λ c w. w) (here b n 1)
      (pieces_counted src b n (Mark terminal.Minus ∷ Number (pos (suc m)) ∷ []) refl 0 (omega arith))
  bound_counted n end.Open = count_as src (Within b n 0) (Within b n 0) (Within b n 1) (Here b n) NoChoice (Mark terminal.Star ∷ []) (λ c w. w) (here b n 1)
      (pieces_counted src b n (Mark terminal.Star ∷ []) refl 0 (omega arith))

  -- a "+" before a choice is no sign
  choice_plus : (n : ℕ) → Count src (Mark terminal.Plus ∷ []) (Here b n) (Here b n) (λ v. starts (the terminal.OpenBracket) v ≡ true)
  choice_plus n = count_mark src terminal.Plus (Here b n) (Here b n) (λ v. starts (the terminal.OpenBracket) v ≡ true) (λ c s r p e k. record {
    after = record { braces = c.braces; signs = c.signs; ands = c.ands; blocks = c.blocks; behind_keyword = false };
    runs = rw (e, k) refl;
    holds = record { braces_are = p.braces_are; ands_are = p.ands_are };
  })

  begins_choice : (ps : List Piece) (w v : Text) → AreOf src (Mark terminal.OpenBracket ∷ ps) w → starts (the terminal.OpenBracket) (w ++ v) ≡ true
  begins_choice ps [] v h = absurd h
  begins_choice ps (s ∷ w) v (e, h) = ap (has (terminal.OpenBracket ∷ [])) e

  interval_counted : (n : ℕ) (lo hi : Bound) →
      Count src (Mark terminal.OpenBracket ∷ bound_pieces lo ++ (Mark terminal.Comma ∷ Blank 1 ∷ bound_pieces hi ++ Mark terminal.CloseBracket ∷ [])) (Here b n) (Here b n) Anything
  interval_counted n lo hi =
      let shut = count_as src (Here b n) (Here b n) (Within b n 0) (Here b n) Anything (Mark terminal.CloseBracket ∷ []) (λ c p. p) (here b n 0) (reset src b n terminal.CloseBracket (λ c s r e. rw e refl)) in
      let high = count_both src (Within b n 0) (Here b n) (Here b n) NoChoice Anything (bound_pieces hi) (Mark terminal.CloseBracket ∷ []) (λ w v i f. next_mark src terminal.CloseBracket refl [] w v i) (bound_counted n hi) shut in
      let comma = count_then src (Here b n) (Within b n 0) (Here b n) Anything (Mark terminal.Comma ∷ Blank 1 ∷ []) (bound_pieces hi ++ Mark terminal.CloseBracket ∷ []) (reset src b n terminal.Comma (λ c s r e. rw e refl)) high in
      let low = count_both src (Within b n 0) (Here b n) (Here b n) NoChoice Anything (bound_pieces lo) (Mark terminal.Comma ∷ Blank 1 ∷ bound_pieces hi ++ Mark terminal.CloseBracket ∷ [])
      (λ w v i f. next_mark src terminal.Comma refl (Blank 1 ∷ bound_pieces hi ++ Mark terminal.CloseBracket ∷ []) w v i) (bound_counted n lo) comma in
      count_then src (Here b n) (Within b n 0) (Here b n) Anything (Mark terminal.OpenBracket ∷ []) (bound_pieces lo ++ (Mark terminal.Comma ∷ Blank 1 ∷ bound_pieces hi ++ Mark terminal.CloseBracket ∷ []))
      (reset src b n terminal.OpenBracket (λ c s r e. rw e refl)) low

  choice_counted : (n : ℕ) (o : Option Choice) → Count src (choice_pieces o) (Here b n) (Here b n) NoChoice
  choice_counted n None = count_none src (Here b n) NoChoice
  choice_counted n (Some c) =
      let ps = Mark terminal.OpenBracket ∷ bound_pieces c.lo ++ (Mark terminal.Comma ∷ Blank 1 ∷ bound_pieces c.hi ++ Mark terminal.CloseBracket ∷ []) in
      count_both src (Here b n) (Here b n) (Here b n) (λ v. starts (the terminal.OpenBracket) v ≡ true) NoChoice (spaced terminal.Plus) ps
      (λ w v i f. begins_choice (bound_pieces c.lo ++ (Mark terminal.Comma ∷ Blank 1 ∷ bound_pieces c.hi ++ Mark terminal.CloseBracket ∷ [])) w v i) (choice_plus n) (λ d p u v i f. interval_counted n c.lo c.hi d p u v i tt)

  choice_no_choice : (o : Option Choice) (w v : Text) → AreOf src (choice_pieces o) w → NoChoice v → NoChoice (w ++ v)
  choice_no_choice None [] v h f = f
  choice_no_choice None (s ∷ w) v h f = absurd h
  choice_no_choice (Some c) w v h f = next_mark src terminal.Plus refl (Blank 1 ∷ Mark terminal.OpenBracket ∷ bound_pieces c.lo ++ (Mark terminal.Comma ∷ Blank 1 ∷ bound_pieces c.hi ++ Mark terminal.CloseBracket ∷ [])) w v h

  pub right_counted : (n : ℕ) (r : Right) → shown_expr names r.expr ≡ true → Count src (right_pieces names r) (Within b n 0) (Here b n) NoChoice
  right_counted n r h = count_both src (Within b n 0) (Here b n) (Here b n) NoChoice NoChoice (expr_pieces names r.expr level.Expression) (choice_pieces r.choice) (choice_no_choice r.choice)
      (expr_counted names src b n r.expr h) (choice_counted n r.choice)
