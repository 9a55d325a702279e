-- The laws of tests, statements and blocks.
use Rattle.std.proofs.Common.{◌≡◌, ℕ, zero, suc, true, List, [], ◌∷◌, refl}
use Rattle.pc_grammar.specs.declared.symbol.Symbol.{Symbol}
use Rattle.pc_language.specs.declared.terminal.Terminal.{Terminal}
use Rattle.pc_language.specs.declared.terminal.Terminal.TheVariants as terminal
use Rattle.pc_grammar.specs.declared.tree.ExprTree.{ExprTree}
use Rattle.pc_grammar.specs.declared.tree.CompareTree.{CompareTree}
use Rattle.pc_grammar.specs.declared.tree.StmtTree.{StmtTree}
use Rattle.pc_grammar.specs.Combinators.{Text, Parser, Lang, none, both, is_both, is_either}
use Rattle.pc_grammar.specs.Terminals.{among, the, one, is_one, one_of, is_one_of}
use Rattle.pc_grammar.specs.Expressions.{inner, is_expr_in}
use Rattle.pc_grammar.specs.Statements.{operators, begins_stmt, all_items, separated, is_separated, optional, after, is_after, enclosed, is_enclosed, compare_of, any, holds, set_of, if_of, while_of, assert_of, assume_of, compare, all, test, set_stmt, assert_stmt, assume_stmt, if_stmt, while_stmt, stmt, stmts_in, block_in, block, is_compare, is_all, is_test, is_set_stmt, is_assert_stmt, is_assume_stmt, is_if_stmt, is_while_stmt, is_stmt, is_stmts_in, is_block_in, is_block, stmts, is_stmts}
use Rattle.pc_grammar.proofs.Combinators.{token_laws, map_laws, both_laws, either_laws, maybe_laws, shut_laws}
use Rattle.pc_grammar.proofs.Outcomes.{Laws, Begins}
use Rattle.pc_grammar.proofs.Repetition.{many_laws}
use Rattle.pc_grammar.proofs.Sets.{apart, within, parted, parts, fewer, none_ends, one_begins, map_begins, both_begins, either_begins, many_parts}
use Rattle.pc_grammar.proofs.Expressions.{any_of, only, after_expr, begins_expr, Opens, then_laws, closed_laws, one_laws, expr_begins, expr_laws, paren_laws, paren_begins}
use Rattle.pc_grammar.proofs.Rights.{right_laws}

-- ---- lists with separators, what may be left out, and what stands in parentheses

module _ {A : Type 0} (k : Terminal) (same : the k (any_of k) ≡ true) (cs : List Terminal) (L L' : Lang A) (p p' : Parser A) (laws : Laws (among cs) L L' p p') (free : apart (k ∷ []) cs ≡ true) where
  pub item_laws : Laws (among cs) (is_both (is_one k) L) (is_both (is_one k) L') (both (one k) p) (both (one k) p')
  item_laws = then_laws (among cs) _ _ _ _ _ _ _ _ (one_laws k same) laws

  -- after a list neither the separator may follow nor what may not follow an item
  pub separated_laws : (es : List Terminal) → within (k ∷ []) es ≡ true → within cs es ≡ true → Laws (among es) (is_separated k L) (is_separated k L') (separated k p) (separated k p')
  separated_laws es kept held = map_laws all_items _ _ _ _ _
      (both_laws (among cs) (among es) (among es) _ _ _ _ _ _ _ _ laws
      (many_laws (the k) (among cs) (among es) _ _ _ _ item_laws
      (both_begins _ (is_one k) L (one_begins (k ∷ []))) (parted (k ∷ []) cs free) (fewer (k ∷ []) es kept) (fewer cs es held))
      (many_parts (k ∷ []) _ _ _ (both_begins _ (is_one k) L (one_begins (k ∷ []))) (parted (k ∷ []) cs free) (fewer cs es held)) (λ r e. e))

module _ {A : Type 0} (k : Terminal) (same : the k (any_of k) ≡ true) (L L' : Lang (List A)) (p p' : Parser (List A)) (laws : Laws none L L' p p') where
  pub after_laws : Laws (the k) (is_after k L) (is_after k L') (after k p) (after k p')
  after_laws = map_laws optional _ _ _ _ _ (maybe_laws (the k) none (the k) _ _ _ _ (then_laws none _ _ _ _ _ _ _ _ (one_laws k same) laws)
      (both_begins _ (is_one k) L (one_begins (k ∷ []))) (λ r e. e) (λ r e. none_ends r))

module _ {A : Type 0} (cs : List Terminal) (free : apart (only terminal.CloseParen) cs ≡ true) (L L' : Lang A) (p p' : Parser A) (laws : Laws (among cs) L L' p p') where
  pub enclosed_laws : Laws none (is_enclosed L) (is_enclosed L') (enclosed p) (enclosed p')
  enclosed_laws = map_laws inner _ _ _ _ _ (then_laws none _ _ _ _ _ _ _ _ (one_laws terminal.OpenParen refl)
      (both_laws (among cs) none none _ _ _ _ _ _ _ _ laws (one_laws terminal.CloseParen refl)
      (λ b v r m e. parts (only terminal.CloseParen) cs free v r (one_begins (only terminal.CloseParen) b v m)) (λ r e. e)))

-- ---- comparisons and tests

abbrev pub after_all : List Terminal
after_all = terminal.And ∷ after_expr

compare_begins : (P : Lang ExprTree) → Opens P → (a : CompareTree) (w : Text) → is_compare P a w → Begins (among begins_expr) w
compare_begins P h = map_begins _ _ _ (both_begins _ _ _ (expr_begins P h))

all_begins : (P : Lang ExprTree) → Opens P → (a : List CompareTree) (w : Text) → is_all P a w → Begins (among begins_expr) w
all_begins P h = map_begins _ _ _ (both_begins _ _ _ (compare_begins P h))

module _ (P P' : Lang ExprTree) (p p' : Parser ExprTree) (laws : Laws none P P' p p') (opens : Opens P) where
  operator_laws : Laws none (is_one_of operators) (is_one_of operators) (one_of operators) (one_of operators)
  operator_laws = token_laws (among operators) (any_of terminal.Less) refl

  compare_laws : Laws (among after_expr) (is_compare P) (is_compare P') (compare p) (compare p')
  compare_laws = map_laws compare_of _ _ _ _ _
      (both_laws (among after_expr) (among after_expr) (among after_expr) _ _ _ _ _ _ _ _ (expr_laws _ _ _ _ laws opens)
      (then_laws (among after_expr) _ _ _ _ _ _ _ _ operator_laws (expr_laws _ _ _ _ laws opens))
      (λ b v r m e. parts operators after_expr refl v r (both_begins _ (is_one_of operators) (is_expr_in P) (one_begins operators) b v m)) (λ r e. e))

  pub and_compare_laws : Laws (among after_expr) (is_both (is_one terminal.And) (is_compare P)) (is_both (is_one terminal.And) (is_compare P')) (both (one terminal.And) (compare p)) (both (one terminal.And) (compare p'))
  and_compare_laws = item_laws terminal.And refl after_expr _ _ _ _ compare_laws refl

  all_laws : Laws (among after_all) (is_all P) (is_all P') (all p) (all p')
  all_laws = separated_laws terminal.And refl after_expr _ _ _ _ compare_laws refl after_all refl refl

  test_laws : Laws (among after_all) (is_test P) (is_test P') (test p) (test p')
  test_laws = either_laws (the terminal.Star) (among after_all) _ _ _ _ _ _ _ _
      (closed_laws (among after_all) _ _ _ _ (map_laws any none _ _ _ _ (one_laws terminal.Star refl)))
      (map_laws holds _ _ _ _ _ all_laws)
      (map_begins any _ _ (one_begins (only terminal.Star)))
      (λ a w l r e. parts begins_expr (only terminal.Star) refl w r (map_begins holds _ _ (all_begins P opens) a w l))

  enclosed_all_laws : Laws none (is_enclosed (is_all P)) (is_enclosed (is_all P')) (enclosed (all p)) (enclosed (all p'))
  enclosed_all_laws = enclosed_laws after_all refl _ _ _ _ all_laws

  enclosed_test_laws : Laws none (is_enclosed (is_test P)) (is_enclosed (is_test P')) (enclosed (test p)) (enclosed (test p'))
  enclosed_test_laws = enclosed_laws after_all refl _ _ _ _ test_laws

  -- ---- statements

  set_laws : Laws none (is_set_stmt P) (is_set_stmt P') (set_stmt p) (set_stmt p')
  set_laws = map_laws set_of _ _ _ _ _
      (then_laws none _ _ _ _ _ _ _ _ (one_laws terminal.Name refl)
      (then_laws none _ _ _ _ _ _ _ _ (one_laws terminal.Assign refl)
      (both_laws (among after_expr) none none _ _ _ _ _ _ _ _ (right_laws P P' p p' laws opens) (one_laws terminal.Semicolon refl)
      (λ b v r m e. parts (only terminal.Semicolon) after_expr refl v r (one_begins (only terminal.Semicolon) b v m)) (λ r e. e))))

  assert_laws : Laws none (is_assert_stmt P) (is_assert_stmt P') (assert_stmt p) (assert_stmt p')
  assert_laws = map_laws assert_of _ _ _ _ _ (then_laws none _ _ _ _ _ _ _ _ (one_laws terminal.Assert refl)
      (then_laws none _ _ _ _ _ _ _ _ enclosed_all_laws (one_laws terminal.Semicolon refl)))

  assume_laws : Laws none (is_assume_stmt P) (is_assume_stmt P') (assume_stmt p) (assume_stmt p')
  assume_laws = map_laws assume_of _ _ _ _ _ (then_laws none _ _ _ _ _ _ _ _ (one_laws terminal.Assume refl)
      (then_laws none _ _ _ _ _ _ _ _ enclosed_all_laws (one_laws terminal.Semicolon refl)))

abbrev begins_promise : List Terminal
begins_promise = terminal.Assert ∷ terminal.Assume ∷ []

abbrev begins_loop : List Terminal
begins_loop = terminal.While ∷ begins_promise

abbrev begins_branch : List Terminal
begins_branch = terminal.If ∷ begins_loop

module _ (P : Lang ExprTree) (B : Lang (List StmtTree)) where
  set_begins : (a : StmtTree) (w : Text) → is_set_stmt P a w → Begins (the terminal.Name) w
  set_begins = map_begins _ _ _ (both_begins _ _ _ (one_begins (only terminal.Name)))

  if_begins : (a : StmtTree) (w : Text) → is_if_stmt P B a w → Begins (the terminal.If) w
  if_begins = map_begins _ _ _ (both_begins _ _ _ (one_begins (only terminal.If)))

  while_begins : (a : StmtTree) (w : Text) → is_while_stmt P B a w → Begins (the terminal.While) w
  while_begins = map_begins _ _ _ (both_begins _ _ _ (one_begins (only terminal.While)))

  assert_begins : (a : StmtTree) (w : Text) → is_assert_stmt P a w → Begins (the terminal.Assert) w
  assert_begins = map_begins _ _ _ (both_begins _ _ _ (one_begins (only terminal.Assert)))

  assume_begins : (a : StmtTree) (w : Text) → is_assume_stmt P a w → Begins (the terminal.Assume) w
  assume_begins = map_begins _ _ _ (both_begins _ _ _ (one_begins (only terminal.Assume)))

  abbrev is_promise : Lang StmtTree
  is_promise = is_either (is_assert_stmt P) (is_assume_stmt P)

  abbrev is_loop : Lang StmtTree
  is_loop = is_either (is_while_stmt P B) is_promise

  abbrev is_branch : Lang StmtTree
  is_branch = is_either (is_if_stmt P B) is_loop

  promise_begins : (a : StmtTree) (w : Text) → is_promise a w → Begins (among begins_promise) w
  promise_begins = either_begins (only terminal.Assert) (only terminal.Assume) begins_promise _ _ refl refl assert_begins assume_begins

  loop_begins : (a : StmtTree) (w : Text) → is_loop a w → Begins (among begins_loop) w
  loop_begins = either_begins (only terminal.While) begins_promise begins_loop _ _ refl refl while_begins promise_begins

  branch_begins : (a : StmtTree) (w : Text) → is_branch a w → Begins (among begins_branch) w
  branch_begins = either_begins (only terminal.If) begins_loop begins_branch _ _ refl refl if_begins loop_begins

  pub stmt_begins : (a : StmtTree) (w : Text) → is_stmt P B a w → Begins (among begins_stmt) w
  stmt_begins = either_begins (only terminal.Name) begins_branch begins_stmt _ _ refl refl set_begins branch_begins

abbrev pub Braces : Lang (List StmtTree) → Type 0
Braces B = (a : List StmtTree) (w : Text) → B a w → Begins (the terminal.OpenBrace) w

abbrev pub after_stmt : List Terminal
after_stmt = only terminal.Else

abbrev pub after_stmts : List Terminal
after_stmts = terminal.Else ∷ begins_stmt

module _ (P P' : Lang ExprTree) (p p' : Parser ExprTree) (laws : Laws none P P' p p') (opens : Opens P)
    (B B' : Lang (List StmtTree)) (b b' : Parser (List StmtTree)) (blocks : Laws none B B' b b') (braces : Braces B) where
  if_laws : Laws (among after_stmt) (is_if_stmt P B) (is_if_stmt P' B') (if_stmt p b) (if_stmt p' b')
  if_laws = map_laws if_of _ _ _ _ _
      (then_laws (among after_stmt) _ _ _ _ _ _ _ _ (one_laws terminal.If refl)
      (then_laws (among after_stmt) _ _ _ _ _ _ _ _ (enclosed_test_laws P P' p p' laws opens)
      (then_laws (among after_stmt) _ _ _ _ _ _ _ _ blocks (after_laws terminal.Else refl _ _ _ _ blocks))))

  while_laws : Laws none (is_while_stmt P B) (is_while_stmt P' B') (while_stmt p b) (while_stmt p' b')
  while_laws = map_laws while_of _ _ _ _ _
      (then_laws none _ _ _ _ _ _ _ _ (one_laws terminal.While refl)
      (then_laws none _ _ _ _ _ _ _ _ (enclosed_test_laws P P' p p' laws opens)
      (both_laws (the terminal.Try) none none _ _ _ _ _ _ _ _ (after_laws terminal.Try refl _ _ _ _ (enclosed_all_laws P P' p p' laws opens)) blocks
      (λ a v r m e. parts (only terminal.OpenBrace) (only terminal.Try) refl v r (braces a v m)) (λ r e. e))))

  pub stmt_laws : Laws (among after_stmt) (is_stmt P B) (is_stmt P' B') (stmt p b) (stmt p' b')
  stmt_laws = either_laws (the terminal.Name) (among after_stmt) _ _ _ _ _ _ _ _
      (closed_laws (among after_stmt) _ _ _ _ (set_laws P P' p p' laws opens))
      (either_laws (the terminal.If) (among after_stmt) _ _ _ _ _ _ _ _ if_laws
      (either_laws (the terminal.While) (among after_stmt) _ _ _ _ _ _ _ _
      (closed_laws (among after_stmt) _ _ _ _ while_laws)
      (either_laws (the terminal.Assert) (among after_stmt) _ _ _ _ _ _ _ _
      (closed_laws (among after_stmt) _ _ _ _ (assert_laws P P' p p' laws opens)) (closed_laws (among after_stmt) _ _ _ _ (assume_laws P P' p p' laws opens))
      (assert_begins P B) (λ a w l r e. parts (only terminal.Assume) (only terminal.Assert) refl w r (assume_begins P B a w l)))
      (while_begins P B) (λ a w l r e. parts begins_promise (only terminal.While) refl w r (promise_begins P B a w l)))
      (if_begins P B) (λ a w l r e. parts begins_loop (only terminal.If) refl w r (loop_begins P B a w l)))
      (set_begins P B) (λ a w l r e. parts begins_branch (only terminal.Name) refl w r (branch_begins P B a w l))

  pub stmts_laws : Laws (among after_stmts) (is_stmts_in P B) (is_stmts_in P' B') (stmts_in p b) (stmts_in p' b')
  stmts_laws = many_laws (among begins_stmt) (among after_stmt) (among after_stmts) _ _ _ _ stmt_laws (stmt_begins P B) (parted begins_stmt after_stmt refl) (fewer begins_stmt after_stmts refl) (fewer after_stmt after_stmts refl)

  block_in_laws : Laws none (is_block_in P B) (is_block_in P' B') (block_in p b) (block_in p' b')
  block_in_laws = map_laws inner _ _ _ _ _ (then_laws none _ _ _ _ _ _ _ _ (one_laws terminal.OpenBrace refl)
      (both_laws (among after_stmts) none none _ _ _ _ _ _ _ _ stmts_laws (one_laws terminal.CloseBrace refl)
      (λ a v r m e. parts (only terminal.CloseBrace) after_stmts refl v r (one_begins (only terminal.CloseBrace) a v m)) (λ r e. e)))

-- ---- at every depth

pub block_begins : (n : ℕ) → Braces (is_block n)
block_begins zero a w l = absurd l
block_begins (suc n) a w l = map_begins inner _ _ (both_begins _ _ _ (one_begins (only terminal.OpenBrace))) a w l

block_example : (s : Symbol) → the terminal.OpenBrace s ≡ true → (a : List StmtTree) × (w : Text) × is_block 1 a (s ∷ w)
block_example s h = let c = any_of terminal.CloseBrace in ([], c ∷ [], ((s, ([], c)), refl, (s ∷ [], c ∷ [], refl, (h, refl), ([], c ∷ [], refl, refl, (refl, refl)))))

pub block_laws : (n : ℕ) → Laws none (is_block n) (is_block (suc n)) (block n) (block (suc n))
block_laws zero = shut_laws (the terminal.OpenBrace) (is_block 1) (block 1) (any_of terminal.OpenBrace) refl refl (λ t r e. rw e refl) block_example
block_laws (suc n) = block_in_laws _ _ _ _ (paren_laws n) (paren_begins n) _ _ _ _ (block_laws n) (block_begins n)

pub stmts_at_laws : (n : ℕ) → Laws (among after_stmts) (is_stmts n) (is_stmts (suc n)) (stmts n) (stmts (suc n))
stmts_at_laws n = stmts_laws _ _ _ _ (paren_laws n) (paren_begins n) _ _ _ _ (block_laws n) (block_begins n)
