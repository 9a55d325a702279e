-- The trees of statements and programs fit the walk.
use Rattle.std.proofs.Common.{◌≡◌, ℕ, zero, suc, refl, ◌∙◌, List, [], ◌∷◌, ◌++◌, Bool, true, Option, Some, None}
use Rattle.std.specs.Prelude.{◌&&◌}
use Rattle.std.specs.List.{list_all}
use Rattle.pc_rows.specs.Linear.{in_range}
use Rattle.pc_grammar.specs.declared.symbol.Symbol.{Symbol}
use Rattle.pc_language.specs.declared.terminal.Terminal.{Terminal}
use Rattle.pc_language.specs.declared.terminal.Terminal.TheVariants as terminal
use Rattle.pc_grammar.specs.declared.tree.ExprTree.{ExprTree}
use Rattle.pc_grammar.specs.declared.tree.CompareTree.{CompareTree}
use Rattle.pc_grammar.specs.declared.tree.StmtTree.{StmtTree}
use Rattle.pc_grammar.specs.declared.tree.ProgramTree.{ProgramTree}
use Rattle.pc_grammar.specs.Combinators.{Text, Lang, is_map, is_both, is_either, is_maybe, is_many}
use Rattle.pc_grammar.specs.Terminals.{is_one}
use Rattle.pc_grammar.specs.Expressions as grammar
use Rattle.pc_grammar.specs.Rights as rights
use Rattle.pc_grammar.specs.Statements as stmts
use Rattle.pc_grammar.specs.Starts.{Derives}
use Rattle.pc_grammar.specs.Programs as programs
use Rattle.pc_grammar.specs.Limits.{of_expressions, start, Within}
use Rattle.pc_syntax.specs.Trees.{fit_symbol, fit_expr, fit_each, fit_all, fit_test, fit_right, fit_stmt_step, fit_stmt, fit_stmts, fit_tree}
use Rattle.pc_program.proofs.Results.{and_is, and_of}
use Rattle.pc_syntax.proofs.SymbolFits.{fits}
use Rattle.pc_syntax.proofs.Trees.{at-set, at-if, at-while, at-assert, at-assume}
use Rattle.pc_syntax.proofs.Phrases.{Over, Passes, one_passes, map_passes, pair, both_passes, either_passes, optional, maybe_passes, many_passes, dead_passes}
use Rattle.pc_syntax.proofs.PhraseSymbols.{paren_over}
use Rattle.pc_syntax.proofs.ExprFits.{inner_fits, paren_passes, right_passes, separated_passes, all_passes, test_passes}

-- ---- statements

enclosed_passes : {A : Type 0} (n : ℕ) (L : Lang A) (F : A → Bool) → Passes n L F → Passes n (stmts.is_enclosed L) F
enclosed_passes n L F f = map_passes n grammar.inner (is_both (is_one terminal.OpenParen) (is_both L (is_one terminal.CloseParen))) (pair (fits n) (pair F (fits n))) F (inner_fits n F)
    (both_passes n (is_one terminal.OpenParen) (is_both L (is_one terminal.CloseParen)) (fits n) (pair F (fits n)) (one_passes n (terminal.OpenParen ∷ []))
    (both_passes n L (is_one terminal.CloseParen) F (fits n) f (one_passes n (terminal.CloseParen ∷ []))))

-- what stands behind a keyword, or nothing
after_passes : {A : Type 0} (n : ℕ) (k : Terminal) (L : Lang (List A)) (F G : List A → Bool) → G [] ≡ true → ((xs : List A) → F xs ≡ true → G xs ≡ true) → Passes n L F → Passes n (stmts.is_after k L) G
after_passes {A} n k L F G e t f = map_passes n stmts.optional (is_maybe (is_both (is_one k) L)) (optional (pair (fits n) F)) G by
    (maybe_passes n (is_both (is_one k) L) (pair (fits n) F) (both_passes n (is_one k) L (fits n) F (one_passes n (k ∷ [])) f))
  where
    by : (o : Option (Symbol × List A)) → optional (pair (fits n) F) o ≡ true → G (stmts.optional o) ≡ true
    by None h = e
    by (Some x) h = t x.1 (and_is (fits n x.0) (F x.1) h).1

each_of_all : (n : ℕ) (cs : List CompareTree) → fit_all n cs ≡ true → fit_each n cs ≡ true
each_of_all n [] h = refl
each_of_all n (c ∷ cs) h = h

all_fit : (n : ℕ) (xs : List StmtTree) → list_all (fit_stmt n) xs ≡ true → fit_stmts n xs ≡ true
all_fit n [] h = refl
all_fit n (x ∷ xs) h = let k = and_is (fit_stmt n x) (list_all (fit_stmt n) xs) h in and_of (fit_stmt n x) (fit_stmts n xs) k.0 (all_fit n xs k.1)

module _ (n : ℕ) (P : Lang ExprTree) (o : Over of_expressions P) (p : Passes n P (fit_expr n)) where
  set_passes : Passes n (stmts.is_set_stmt P) (fit_stmt n)
  set_passes = map_passes n stmts.set_of (is_both (is_one terminal.Name) (is_both (is_one terminal.Assign) (is_both (rights.is_right P) (is_one terminal.Semicolon))))
      (pair (fits n) (pair (fits n) (pair (fit_right n) (fits n)))) (fit_stmt n)
      (λ x h.
      let a = and_is (fits n x.0) (pair (fits n) (pair (fit_right n) (fits n)) x.1) h in
      let b = and_is (fits n x.1.0) (pair (fit_right n) (fits n) x.1.1) a.1 in
      let c = and_is (fit_right n x.1.1.0) (fits n x.1.1.1) b.1 in
      at-set Bool (fit_stmt_step n) x.0 x.1.1.0 ∙ and_of (fit_symbol n x.0) (fit_right n x.1.1.0) (and_is (fit_symbol n x.0) (in_range x.0.number) a.0).0 c.0)
      (both_passes n (is_one terminal.Name) (is_both (is_one terminal.Assign) (is_both (rights.is_right P) (is_one terminal.Semicolon))) (fits n) (pair (fits n) (pair (fit_right n) (fits n))) (one_passes n (terminal.Name ∷ []))
      (both_passes n (is_one terminal.Assign) (is_both (rights.is_right P) (is_one terminal.Semicolon)) (fits n) (pair (fit_right n) (fits n)) (one_passes n (terminal.Assign ∷ []))
      (both_passes n (rights.is_right P) (is_one terminal.Semicolon) (fit_right n) (fits n) (right_passes n P p) (one_passes n (terminal.Semicolon ∷ [])))))

  -- a statement of a keyword and a conjunction
  claim_passes : (k : Terminal) (g : Symbol × (List CompareTree × Symbol) → StmtTree) → ((x : Symbol × (List CompareTree × Symbol)) → fit_all n x.1.0 ≡ true → fit_stmt n (g x) ≡ true) →
      Passes n (is_map g (is_both (is_one k) (is_both (stmts.is_enclosed (stmts.is_all P)) (is_one terminal.Semicolon)))) (fit_stmt n)
  claim_passes k g t = map_passes n g (is_both (is_one k) (is_both (stmts.is_enclosed (stmts.is_all P)) (is_one terminal.Semicolon))) (pair (fits n) (pair (fit_all n) (fits n))) (fit_stmt n)
      (λ x h. t x (and_is (fit_all n x.1.0) (fits n x.1.1) (and_is (fits n x.0) (pair (fit_all n) (fits n) x.1) h).1).0)
      (both_passes n (is_one k) (is_both (stmts.is_enclosed (stmts.is_all P)) (is_one terminal.Semicolon)) (fits n) (pair (fit_all n) (fits n)) (one_passes n (k ∷ []))
      (both_passes n (stmts.is_enclosed (stmts.is_all P)) (is_one terminal.Semicolon) (fit_all n) (fits n) (enclosed_passes n (stmts.is_all P) (fit_all n) (all_passes n P o p)) (one_passes n (terminal.Semicolon ∷ []))))

  module _ (B : Lang (List StmtTree)) (b : Passes n B (fit_stmts n)) where
    if_passes : Passes n (stmts.is_if_stmt P B) (fit_stmt n)
    if_passes = map_passes n stmts.if_of (is_both (is_one terminal.If) (is_both (stmts.is_enclosed (stmts.is_test P)) (is_both B (stmts.is_after terminal.Else B))))
        (pair (fits n) (pair (fit_test n) (pair (fit_stmts n) (fit_stmts n)))) (fit_stmt n)
        (λ x h.
        let a = and_is (fits n x.0) (pair (fit_test n) (pair (fit_stmts n) (fit_stmts n)) x.1) h in
        at-if Bool (fit_stmt_step n) x.0.place x.1.0 x.1.1.0 x.1.1.1 ∙ a.1)
        (both_passes n (is_one terminal.If) (is_both (stmts.is_enclosed (stmts.is_test P)) (is_both B (stmts.is_after terminal.Else B))) (fits n) (pair (fit_test n) (pair (fit_stmts n) (fit_stmts n))) (one_passes n (terminal.If ∷ []))
        (both_passes n (stmts.is_enclosed (stmts.is_test P)) (is_both B (stmts.is_after terminal.Else B)) (fit_test n) (pair (fit_stmts n) (fit_stmts n)) (enclosed_passes n (stmts.is_test P) (fit_test n) (test_passes n P o p))
        (both_passes n B (stmts.is_after terminal.Else B) (fit_stmts n) (fit_stmts n) b (after_passes n terminal.Else B (fit_stmts n) (fit_stmts n) refl (λ xs h. h) b))))

    while_passes : Passes n (stmts.is_while_stmt P B) (fit_stmt n)
    while_passes = map_passes n stmts.while_of (is_both (is_one terminal.While) (is_both (stmts.is_enclosed (stmts.is_test P)) (is_both (stmts.is_tried P) B)))
        (pair (fits n) (pair (fit_test n) (pair (fit_each n) (fit_stmts n)))) (fit_stmt n)
        (λ x h.
        let a = and_is (fits n x.0) (pair (fit_test n) (pair (fit_each n) (fit_stmts n)) x.1) h in
        at-while Bool (fit_stmt_step n) x.0.place x.1.0 x.1.1.0 x.1.1.1 ∙ a.1)
        (both_passes n (is_one terminal.While) (is_both (stmts.is_enclosed (stmts.is_test P)) (is_both (stmts.is_tried P) B)) (fits n) (pair (fit_test n) (pair (fit_each n) (fit_stmts n))) (one_passes n (terminal.While ∷ []))
        (both_passes n (stmts.is_enclosed (stmts.is_test P)) (is_both (stmts.is_tried P) B) (fit_test n) (pair (fit_each n) (fit_stmts n)) (enclosed_passes n (stmts.is_test P) (fit_test n) (test_passes n P o p))
        (both_passes n (stmts.is_tried P) B (fit_each n) (fit_stmts n)
        (after_passes n terminal.Try (stmts.is_enclosed (stmts.is_all P)) (fit_all n) (fit_each n) refl (each_of_all n) (enclosed_passes n (stmts.is_all P) (fit_all n) (all_passes n P o p))) b)))

    stmt_passes : Passes n (stmts.is_stmt P B) (fit_stmt n)
    stmt_passes = either_passes n (stmts.is_set_stmt P) (is_either (stmts.is_if_stmt P B) (is_either (stmts.is_while_stmt P B) (is_either (stmts.is_assert_stmt P) (stmts.is_assume_stmt P)))) (fit_stmt n) set_passes
        (either_passes n (stmts.is_if_stmt P B) (is_either (stmts.is_while_stmt P B) (is_either (stmts.is_assert_stmt P) (stmts.is_assume_stmt P))) (fit_stmt n) if_passes
        (either_passes n (stmts.is_while_stmt P B) (is_either (stmts.is_assert_stmt P) (stmts.is_assume_stmt P)) (fit_stmt n) while_passes
        (either_passes n (stmts.is_assert_stmt P) (stmts.is_assume_stmt P) (fit_stmt n)
        (claim_passes terminal.Assert stmts.assert_of (λ x h. at-assert Bool (fit_stmt_step n) x.0.place x.1.0 ∙ h)) (claim_passes terminal.Assume stmts.assume_of (λ x h. at-assume Bool (fit_stmt_step n) x.0.place x.1.0 ∙ h)))))

    stmts_pass : Passes n (stmts.is_stmts_in P B) (fit_stmts n)
    stmts_pass xs w v l good most c d limits = all_fit n xs (many_passes n (stmts.is_stmt P B) (fit_stmt n) stmt_passes xs w v l good most c d limits)

block_passes : (n m : ℕ) → Passes n (stmts.is_block m) (fit_stmts n)
block_passes n zero = dead_passes n (fit_stmts n)
block_passes n (suc m) = map_passes n grammar.inner (is_both (is_one terminal.OpenBrace) (is_both (stmts.is_stmts_in (grammar.is_paren m) (stmts.is_block m)) (is_one terminal.CloseBrace)))
    (pair (fits n) (pair (fit_stmts n) (fits n))) (fit_stmts n) (inner_fits n (fit_stmts n))
    (both_passes n (is_one terminal.OpenBrace) (is_both (stmts.is_stmts_in (grammar.is_paren m) (stmts.is_block m)) (is_one terminal.CloseBrace)) (fits n) (pair (fit_stmts n) (fits n)) (one_passes n (terminal.OpenBrace ∷ []))
    (both_passes n (stmts.is_stmts_in (grammar.is_paren m) (stmts.is_block m)) (is_one terminal.CloseBrace) (fit_stmts n) (fits n)
    (stmts_pass n (grammar.is_paren m) (paren_over m) (paren_passes n m) (stmts.is_block m) (block_passes n m)) (one_passes n (terminal.CloseBrace ∷ []))))

-- ---- programs

module _ (n : ℕ) where
  symbols_pass : (xs : List Symbol) → list_all (fits n) xs ≡ true → list_all (fit_symbol n) xs ≡ true
  symbols_pass [] h = refl
  symbols_pass (s ∷ xs) h =
      let k = and_is (fits n s) (list_all (fits n) xs) h in
      and_of (fit_symbol n s) (list_all (fit_symbol n) xs) (and_is (fit_symbol n s) (in_range s.number) k.0).0 (symbols_pass xs k.1)

  names_pass : Passes n programs.is_names (list_all (fit_symbol n))
  names_pass xs w v l good most c d limits = symbols_pass xs (separated_passes n terminal.Comma (is_one terminal.Name) (fits n) (one_passes n (terminal.Name ∷ [])) xs w v l good most c d limits)

  given_fits : (o : Option (List Symbol)) → optional (list_all (fit_symbol n)) o ≡ true → list_all (fit_symbol n) (programs.given o) ≡ true
  given_fits None h = refl
  given_fits (Some xs) h = h

  params_pass : Passes n programs.is_params (list_all (fit_symbol n))
  params_pass = enclosed_passes n (is_map programs.given (is_maybe programs.is_names)) (list_all (fit_symbol n))
      (map_passes n programs.given (is_maybe programs.is_names) (optional (list_all (fit_symbol n))) (list_all (fit_symbol n)) given_fits
      (maybe_passes n programs.is_names (list_all (fit_symbol n)) names_pass))

  line_passes : Passes n programs.is_var_line (list_all (fit_symbol n))
  line_passes = map_passes n programs.var_names (is_both (is_one terminal.Var) (is_both programs.is_names (is_one terminal.Semicolon))) (pair (fits n) (pair (list_all (fit_symbol n)) (fits n))) (list_all (fit_symbol n))
      (inner_fits n (list_all (fit_symbol n)))
      (both_passes n (is_one terminal.Var) (is_both programs.is_names (is_one terminal.Semicolon)) (fits n) (pair (list_all (fit_symbol n)) (fits n)) (one_passes n (terminal.Var ∷ []))
      (both_passes n programs.is_names (is_one terminal.Semicolon) (list_all (fit_symbol n)) (fits n) names_pass (one_passes n (terminal.Semicolon ∷ []))))

  join_fits : (xs ys : List Symbol) → list_all (fit_symbol n) xs ≡ true → list_all (fit_symbol n) ys ≡ true → list_all (fit_symbol n) (xs ++ ys) ≡ true
  join_fits [] ys h k = k
  join_fits (s ∷ xs) ys h k = let q = and_is (fit_symbol n s) (list_all (fit_symbol n) xs) h in and_of (fit_symbol n s) (list_all (fit_symbol n) (xs ++ ys)) q.0 (join_fits xs ys q.1 k)

  flat_fits : (xss : List (List Symbol)) → list_all (list_all (fit_symbol n)) xss ≡ true → list_all (fit_symbol n) (programs.flat xss) ≡ true
  flat_fits [] h = refl
  flat_fits (xs ∷ xss) h = let k = and_is (list_all (fit_symbol n) xs) (list_all (list_all (fit_symbol n)) xss) h in join_fits xs (programs.flat xss) k.0 (flat_fits xss k.1)

  locals_pass : Passes n programs.is_locals (list_all (fit_symbol n))
  locals_pass = map_passes n programs.flat (is_many programs.is_var_line) (list_all (list_all (fit_symbol n))) (list_all (fit_symbol n)) flat_fits (many_passes n programs.is_var_line (list_all (fit_symbol n)) line_passes)

  program_passes : (m : ℕ) → Passes n (programs.is_program m) (fit_tree n)
  program_passes m = map_passes n programs.program_of
      (is_both (is_one terminal.Entry) (is_both programs.is_params (is_both (is_one terminal.OpenBrace) (is_both programs.is_locals (is_both (stmts.is_stmts m) (is_one terminal.CloseBrace))))))
      (pair (fits n) (pair (list_all (fit_symbol n)) (pair (fits n) (pair (list_all (fit_symbol n)) (pair (fit_stmts n) (fits n)))))) (fit_tree n)
      (λ x h.
      let a = and_is (fits n x.0) (pair (list_all (fit_symbol n)) (pair (fits n) (pair (list_all (fit_symbol n)) (pair (fit_stmts n) (fits n)))) x.1) h in
      let b = and_is (list_all (fit_symbol n) x.1.0) (pair (fits n) (pair (list_all (fit_symbol n)) (pair (fit_stmts n) (fits n))) x.1.1) a.1 in
      let c = and_is (fits n x.1.1.0) (pair (list_all (fit_symbol n)) (pair (fit_stmts n) (fits n)) x.1.1.1) b.1 in
      let d = and_is (list_all (fit_symbol n) x.1.1.1.0) (pair (fit_stmts n) (fits n) x.1.1.1.1) c.1 in
      let e = and_is (fit_stmts n x.1.1.1.1.0) (fits n x.1.1.1.1.1) d.1 in
      and_of (list_all (fit_symbol n) x.1.0) (list_all (fit_symbol n) x.1.1.1.0 && fit_stmts n x.1.1.1.1.0) b.0
      (and_of (list_all (fit_symbol n) x.1.1.1.0) (fit_stmts n x.1.1.1.1.0) d.0 e.0))
      (both_passes n (is_one terminal.Entry) (is_both programs.is_params (is_both (is_one terminal.OpenBrace) (is_both programs.is_locals (is_both (stmts.is_stmts m) (is_one terminal.CloseBrace))))) (fits n)
      (pair (list_all (fit_symbol n)) (pair (fits n) (pair (list_all (fit_symbol n)) (pair (fit_stmts n) (fits n))))) (one_passes n (terminal.Entry ∷ []))
      (both_passes n programs.is_params (is_both (is_one terminal.OpenBrace) (is_both programs.is_locals (is_both (stmts.is_stmts m) (is_one terminal.CloseBrace)))) (list_all (fit_symbol n))
      (pair (fits n) (pair (list_all (fit_symbol n)) (pair (fit_stmts n) (fits n)))) params_pass
      (both_passes n (is_one terminal.OpenBrace) (is_both programs.is_locals (is_both (stmts.is_stmts m) (is_one terminal.CloseBrace))) (fits n) (pair (list_all (fit_symbol n)) (pair (fit_stmts n) (fits n))) (one_passes n (terminal.OpenBrace ∷ []))
      (both_passes n programs.is_locals (is_both (stmts.is_stmts m) (is_one terminal.CloseBrace)) (list_all (fit_symbol n)) (pair (fit_stmts n) (fits n)) locals_pass
      (both_passes n (stmts.is_stmts m) (is_one terminal.CloseBrace) (fit_stmts n) (fits n)
      (stmts_pass n (grammar.is_paren m) (paren_over m) (paren_passes n m) (stmts.is_block m) (block_passes n m)) (one_passes n (terminal.CloseBrace ∷ [])))))))

-- the parse tree of symbols that fit
pub derived_fits : (n : ℕ) (t : ProgramTree) (w : Text) → Derives programs.programs t w → Within programs.programs.most w [] → list_all (fits n) w ≡ true → fit_tree n t ≡ true
derived_fits n t w (m, l) (d, k) h = program_passes n m t w [] l h programs.programs.most start d k
