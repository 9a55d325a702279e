-- The trees of expressions, right sides and tests: names within the text, numbers in range, one to eight comparisons in a conjunction.
use Rattle.std.proofs.Common.{◌≡◌, ℕ, zero, suc, ◌+◌, ◌<◌, ◌≤◌, ℤ, pos, negsuc, refl, ◌∙◌, ap, arith, List, [], ◌∷◌, length, Bool, true, false, Option, Some, None, Ok}
use Rattle.std.specs.Prelude.{◌&&◌, nat_le}
use Rattle.std.specs.List.{list_all}
use Rattle.pc_rows.specs.Linear.{in_range}
use Rattle.pc_grammar.specs.declared.symbol.Symbol.{Symbol}
use Rattle.pc_language.specs.declared.terminal.Terminal.{Terminal}
use Rattle.pc_language.specs.declared.terminal.Terminal.TheVariants as terminal
use Rattle.pc_language.specs.declared.limits.TheConstants.{COMPARISONS}
use Rattle.pc_language.specs.declared.choice.Bound.{Bound}
use Rattle.pc_language.specs.declared.choice.Choice.{Choice}
use Rattle.pc_grammar.specs.declared.tree.ExprTree.{ExprTree}
use Rattle.pc_grammar.specs.declared.tree.ExprTree.TheVariants as expr_is
use Rattle.pc_grammar.specs.declared.tree.CompareTree.{CompareTree}
use Rattle.pc_grammar.specs.Combinators.{Text, Lang, is_map, is_both, is_either, is_maybe, is_many}
use Rattle.pc_grammar.specs.Terminals.{the, is_one, is_one_of}
use Rattle.pc_grammar.specs.Expressions as grammar
use Rattle.pc_grammar.specs.Rights as rights
use Rattle.pc_grammar.specs.Statements as stmts
use Rattle.pc_grammar.specs.declared.limits.Counts.{Counts}
use Rattle.pc_grammar.specs.Limits.{of_expressions, counts}
use Rattle.pc_syntax.specs.Trees.{fit_symbol, fit_expr_step, fit_expr, fit_compare, fit_all, fit_test, fit_bound, fit_choice, fit_right}
use Rattle.pc_program.proofs.Results.{and_is, and_of, at_most}
use Rattle.pc_syntax.proofs.SymbolFits.{fits}
use Rattle.pc_syntax.proofs.Trees.{at-num, at-name, at-neg, at-add, at-sub, at-mul}
use Rattle.pc_syntax.proofs.Phrases.{Over, Passes, one_passes, map_passes, pair, both_passes, either_passes, optional, maybe_passes, many_passes, dead_passes}
use Rattle.pc_syntax.proofs.PhraseSymbols.{all_over, ands, ands_on, ands-append, parted_by_ands, length-seconds}

-- ---- expressions

module _ (n : ℕ) where
  number_fits : (s : Symbol) → fits n s ≡ true → fit_expr n (grammar.number s) ≡ true
  number_fits s h = at-num Bool (fit_expr_step n) s.number ∙ (and_is (fit_symbol n s) (in_range s.number) h).1

  name_fits : (s : Symbol) → fits n s ≡ true → fit_expr n (grammar.name s) ≡ true
  name_fits s h = at-name Bool (fit_expr_step n) s ∙ (and_is (fit_symbol n s) (in_range s.number) h).0

  signed_fits : (x : Option Symbol × ExprTree) → pair (optional (fits n)) (fit_expr n) x ≡ true → fit_expr n (grammar.signed x) ≡ true
  signed_fits (None, x) h = h
  signed_fits (Some s, x) h = at-neg Bool (fit_expr_step n) x s.place ∙ (and_is (fits n s) (fit_expr n x) h).1

  products_fit : (x : ExprTree) (ys : List (Symbol × ExprTree)) → fit_expr n x ≡ true → list_all (pair (fits n) (fit_expr n)) ys ≡ true → fit_expr n (grammar.products x ys) ≡ true
  products_fit x [] h k = h
  products_fit x (y ∷ ys) h k =
      let p = and_is (pair (fits n) (fit_expr n) y) (list_all (pair (fits n) (fit_expr n)) ys) k in
      let q = and_is (fits n y.0) (fit_expr n y.1) p.0 in
      products_fit (grammar.product x y) ys (at-mul Bool (fit_expr_step n) x y.1 y.0.place ∙ and_of (fit_expr n x) (fit_expr n y.1) h q.1) p.1

  sum_fits : (b : Bool) (x : ExprTree) (y : Symbol × ExprTree) → fit_expr n x ≡ true → fit_expr n y.1 ≡ true → fit_expr n (grammar.sum_if b x y) ≡ true
  sum_fits true x y h k = at-sub Bool (fit_expr_step n) x y.1 y.0.place ∙ and_of (fit_expr n x) (fit_expr n y.1) h k
  sum_fits false x y h k = at-add Bool (fit_expr_step n) x y.1 y.0.place ∙ and_of (fit_expr n x) (fit_expr n y.1) h k

  sums_fit : (x : ExprTree) (ys : List (Symbol × ExprTree)) → fit_expr n x ≡ true → list_all (pair (fits n) (fit_expr n)) ys ≡ true → fit_expr n (grammar.sums x ys) ≡ true
  sums_fit x [] h k = h
  sums_fit x (y ∷ ys) h k =
      let p = and_is (pair (fits n) (fit_expr n) y) (list_all (pair (fits n) (fit_expr n)) ys) k in
      let q = and_is (fits n y.0) (fit_expr n y.1) p.0 in
      sums_fit (grammar.sum x y) ys (sum_fits (the terminal.Minus y.0) x y h q.1) p.1

  -- what stands between two symbols
  pub inner_fits : {A : Type 0} (F : A → Bool) (x : Symbol × (A × Symbol)) → pair (fits n) (pair F (fits n)) x ≡ true → F (grammar.inner x) ≡ true
  inner_fits F x h = (and_is (F x.1.0) (fits n x.1.1) (and_is (fits n x.0) (F x.1.0 && fits n x.1.1) h).1).0

  module _ (P : Lang ExprTree) (p : Passes n P (fit_expr n)) where
    atom_passes : Passes n (grammar.is_atom P) (fit_expr n)
    atom_passes = either_passes n (is_map grammar.number (is_one terminal.Number)) (is_either (is_map grammar.name (is_one terminal.Name)) P) (fit_expr n)
        (map_passes n grammar.number (is_one terminal.Number) (fits n) (fit_expr n) number_fits (one_passes n (terminal.Number ∷ [])))
        (either_passes n (is_map grammar.name (is_one terminal.Name)) P (fit_expr n)
        (map_passes n grammar.name (is_one terminal.Name) (fits n) (fit_expr n) name_fits (one_passes n (terminal.Name ∷ []))) p)

    factor_passes : Passes n (grammar.is_factor P) (fit_expr n)
    factor_passes = map_passes n grammar.signed (is_both (is_maybe (is_one terminal.Minus)) (grammar.is_atom P)) (pair (optional (fits n)) (fit_expr n)) (fit_expr n) signed_fits
        (both_passes n (is_maybe (is_one terminal.Minus)) (grammar.is_atom P) (optional (fits n)) (fit_expr n)
        (maybe_passes n (is_one terminal.Minus) (fits n) (one_passes n (terminal.Minus ∷ []))) atom_passes)

    star_passes : Passes n (is_many (grammar.is_star_factor P)) (list_all (pair (fits n) (fit_expr n)))
    star_passes = many_passes n (grammar.is_star_factor P) (pair (fits n) (fit_expr n))
        (both_passes n (is_one terminal.Star) (grammar.is_factor P) (fits n) (fit_expr n) (one_passes n (terminal.Star ∷ [])) factor_passes)

    addend_passes : Passes n (grammar.is_addend P) (fit_expr n)
    addend_passes = map_passes n grammar.all_products (is_both (grammar.is_factor P) (is_many (grammar.is_star_factor P))) (pair (fit_expr n) (list_all (pair (fits n) (fit_expr n)))) (fit_expr n)
        (λ x h. let k = and_is (fit_expr n x.0) (list_all (pair (fits n) (fit_expr n)) x.1) h in products_fit x.0 x.1 k.0 k.1)
        (both_passes n (grammar.is_factor P) (is_many (grammar.is_star_factor P)) (fit_expr n) (list_all (pair (fits n) (fit_expr n))) factor_passes star_passes)

    sign_passes : Passes n (is_many (grammar.is_sign_addend P)) (list_all (pair (fits n) (fit_expr n)))
    sign_passes = many_passes n (grammar.is_sign_addend P) (pair (fits n) (fit_expr n))
        (both_passes n (is_one_of grammar.signs) (grammar.is_addend P) (fits n) (fit_expr n) (one_passes n grammar.signs) addend_passes)

    expr_passes : Passes n (grammar.is_expr_in P) (fit_expr n)
    expr_passes = map_passes n grammar.all_sums (is_both (grammar.is_addend P) (is_many (grammar.is_sign_addend P))) (pair (fit_expr n) (list_all (pair (fits n) (fit_expr n)))) (fit_expr n)
        (λ x h. let k = and_is (fit_expr n x.0) (list_all (pair (fits n) (fit_expr n)) x.1) h in sums_fit x.0 x.1 k.0 k.1)
        (both_passes n (grammar.is_addend P) (is_many (grammar.is_sign_addend P)) (fit_expr n) (list_all (pair (fits n) (fit_expr n))) addend_passes sign_passes)

  pub paren_passes : (m : ℕ) → Passes n (grammar.is_paren m) (fit_expr n)
  paren_passes zero = dead_passes n (fit_expr n)
  paren_passes (suc m) = map_passes n grammar.inner (is_both (is_one terminal.OpenParen) (is_both (grammar.is_expr_in (grammar.is_paren m)) (is_one terminal.CloseParen)))
      (pair (fits n) (pair (fit_expr n) (fits n))) (fit_expr n) (inner_fits (fit_expr n))
      (both_passes n (is_one terminal.OpenParen) (is_both (grammar.is_expr_in (grammar.is_paren m)) (is_one terminal.CloseParen)) (fits n) (pair (fit_expr n) (fits n)) (one_passes n (terminal.OpenParen ∷ []))
      (both_passes n (grammar.is_expr_in (grammar.is_paren m)) (is_one terminal.CloseParen) (fit_expr n) (fits n) (expr_passes (grammar.is_paren m) (paren_passes m)) (one_passes n (terminal.CloseParen ∷ []))))

-- ---- right sides

opposite_in_range : (z : ℤ) → in_range z ≡ true → in_range (rights.opposite z) ≡ true
opposite_in_range (pos zero) h = refl
opposite_in_range (pos (suc k)) h = h
opposite_in_range (negsuc k) h = h

module _ (n : ℕ) where
  bound_fits : (x : Option Symbol × Symbol) → pair (optional (fits n)) (fits n) x ≡ true → fit_bound (rights.bound_of x) ≡ true
  bound_fits (None, s) h = (and_is (fit_symbol n s) (in_range s.number) h).1
  bound_fits (Some m, s) h = opposite_in_range s.number (and_is (fit_symbol n s) (in_range s.number) (and_is (fits n m) (fits n s) h).1).1

  closed_bound_passes : Passes n rights.is_closed_bound fit_bound
  closed_bound_passes = map_passes n rights.bound_of (is_both (is_maybe (is_one terminal.Minus)) (is_one terminal.Number)) (pair (optional (fits n)) (fits n)) fit_bound bound_fits
      (both_passes n (is_maybe (is_one terminal.Minus)) (is_one terminal.Number) (optional (fits n)) (fits n)
      (maybe_passes n (is_one terminal.Minus) (fits n) (one_passes n (terminal.Minus ∷ []))) (one_passes n (terminal.Number ∷ [])))

  bound_passes : Passes n rights.is_bound fit_bound
  bound_passes = either_passes n (is_map rights.open_bound (is_one terminal.Star)) rights.is_closed_bound fit_bound
      (map_passes n rights.open_bound (is_one terminal.Star) (fits n) fit_bound (λ s h. refl) (one_passes n (terminal.Star ∷ []))) closed_bound_passes

  of_choice : Choice → Bool
  of_choice c = fit_choice (Some c)

  choice_fits : (x : Symbol × (Bound × (Symbol × (Bound × Symbol)))) → pair (fits n) (pair fit_bound (pair (fits n) (pair fit_bound (fits n)))) x ≡ true → of_choice (rights.choice_of x) ≡ true
  unfolding of_choice
  choice_fits x h =
      let a = and_is (fits n x.0) (pair fit_bound (pair (fits n) (pair fit_bound (fits n))) x.1) h in
      let b = and_is (fit_bound x.1.0) (pair (fits n) (pair fit_bound (fits n)) x.1.1) a.1 in
      let c = and_is (fits n x.1.1.0) (pair fit_bound (fits n) x.1.1.1) b.1 in
      let d = and_is (fit_bound x.1.1.1.0) (fits n x.1.1.1.1) c.1 in
      and_of (fit_bound x.1.0) (fit_bound x.1.1.1.0) b.0 d.0

  choice_passes : Passes n rights.is_choice of_choice
  choice_passes = map_passes n rights.choice_of (is_both (is_one terminal.OpenBracket) (is_both rights.is_bound (is_both (is_one terminal.Comma) (is_both rights.is_bound (is_one terminal.CloseBracket)))))
      (pair (fits n) (pair fit_bound (pair (fits n) (pair fit_bound (fits n))))) of_choice choice_fits
      (both_passes n (is_one terminal.OpenBracket) (is_both rights.is_bound (is_both (is_one terminal.Comma) (is_both rights.is_bound (is_one terminal.CloseBracket)))) (fits n) (pair fit_bound (pair (fits n) (pair fit_bound (fits n)))) (one_passes n (terminal.OpenBracket ∷ []))
      (both_passes n rights.is_bound (is_both (is_one terminal.Comma) (is_both rights.is_bound (is_one terminal.CloseBracket))) fit_bound (pair (fits n) (pair fit_bound (fits n))) bound_passes
      (both_passes n (is_one terminal.Comma) (is_both rights.is_bound (is_one terminal.CloseBracket)) (fits n) (pair fit_bound (fits n)) (one_passes n (terminal.Comma ∷ []))
      (both_passes n rights.is_bound (is_one terminal.CloseBracket) fit_bound (fits n) bound_passes (one_passes n (terminal.CloseBracket ∷ []))))))

  alone_fits : (c : Choice) → of_choice c ≡ true → fit_right n (rights.alone c) ≡ true
  unfolding of_choice
  alone_fits c h = and_of (fit_expr n (expr_is.Num (pos 0))) (fit_choice (Some c)) (at-num Bool (fit_expr_step n) (pos 0)) h

  right_fits : (x : ExprTree × Option (Symbol × Choice)) → pair (fit_expr n) (optional (pair (fits n) of_choice)) x ≡ true → fit_right n (rights.right_of x) ≡ true
  unfolding of_choice
  right_fits (x, None) h = h
  right_fits (x, Some y) h =
      let k = and_is (fit_expr n x) (fits n y.0 && of_choice y.1) h in
      and_of (fit_expr n x) (fit_choice (Some y.1)) k.0 (and_is (fits n y.0) (of_choice y.1) k.1).1

  pub right_passes : (P : Lang ExprTree) → Passes n P (fit_expr n) → Passes n (rights.is_right P) (fit_right n)
  right_passes P p = either_passes n (is_map rights.alone rights.is_choice) (is_map rights.right_of (is_both (grammar.is_expr_in P) (is_maybe (is_both (is_one terminal.Plus) rights.is_choice)))) (fit_right n)
      (map_passes n rights.alone rights.is_choice of_choice (fit_right n) alone_fits choice_passes)
      (map_passes n rights.right_of (is_both (grammar.is_expr_in P) (is_maybe (is_both (is_one terminal.Plus) rights.is_choice))) (pair (fit_expr n) (optional (pair (fits n) of_choice))) (fit_right n) right_fits
      (both_passes n (grammar.is_expr_in P) (is_maybe (is_both (is_one terminal.Plus) rights.is_choice)) (fit_expr n) (optional (pair (fits n) of_choice)) (expr_passes n P p)
      (maybe_passes n (is_both (is_one terminal.Plus) rights.is_choice) (pair (fits n) of_choice)
      (both_passes n (is_one terminal.Plus) rights.is_choice (fits n) of_choice (one_passes n (terminal.Plus ∷ [])) choice_passes))))

-- ---- conjunctions and tests

seconds_fit : {A : Type 0} (n : ℕ) (F : A → Bool) (ys : List (Symbol × A)) → list_all (pair (fits n) F) ys ≡ true → list_all F (stmts.seconds ys) ≡ true
seconds_fit n F [] h = refl
seconds_fit n F (y ∷ ys) h =
    let k = and_is (pair (fits n) F y) (list_all (pair (fits n) F) ys) h in
    and_of (F y.1) (list_all F (stmts.seconds ys)) (and_is (fits n y.0) (F y.1) k.0).1 (seconds_fit n F ys k.1)

pub separated_passes : {A : Type 0} (n : ℕ) (k : Terminal) (L : Lang A) (F : A → Bool) → Passes n L F → Passes n (stmts.is_separated k L) (list_all F)
separated_passes n k L F f = map_passes n stmts.all_items (is_both L (is_many (is_both (is_one k) L))) (pair F (list_all (pair (fits n) F))) (list_all F)
    (λ x h. let q = and_is (F x.0) (list_all (pair (fits n) F) x.1) h in and_of (F x.0) (list_all F (stmts.seconds x.1)) q.0 (seconds_fit n F x.1 q.1))
    (both_passes n L (is_many (is_both (is_one k) L)) F (list_all (pair (fits n) F)) f
    (many_passes n (is_both (is_one k) L) (pair (fits n) F) (both_passes n (is_one k) L (fits n) F (one_passes n (k ∷ [])) f)))

few_by : (a c d y z : ℕ) → d ≡ c + a → (0 < a → d < COMPARISONS) → y ≤ a → z ≡ y + 1 → z ≤ COMPARISONS
few_by zero c d y z s m l e = omega arith
few_by (suc a) c d y z s m l e = let k = m (omega arith) in omega arith

module _ (n : ℕ) (P : Lang ExprTree) (o : Over of_expressions P) (p : Passes n P (fit_expr n)) where
  compare_passes : Passes n (stmts.is_compare P) (fit_compare n)
  compare_passes = map_passes n stmts.compare_of (is_both (grammar.is_expr_in P) (is_both (is_one_of stmts.operators) (grammar.is_expr_in P))) (pair (fit_expr n) (pair (fits n) (fit_expr n))) (fit_compare n)
      (λ x h. let k = and_is (fit_expr n x.0) (fits n x.1.0 && fit_expr n x.1.1) h in and_of (fit_expr n x.0) (fit_expr n x.1.1) k.0 (and_is (fits n x.1.0) (fit_expr n x.1.1) k.1).1)
      (both_passes n (grammar.is_expr_in P) (is_both (is_one_of stmts.operators) (grammar.is_expr_in P)) (fit_expr n) (pair (fits n) (fit_expr n)) (expr_passes n P p)
      (both_passes n (is_one_of stmts.operators) (grammar.is_expr_in P) (fits n) (fit_expr n) (one_passes n stmts.operators) (expr_passes n P p)))

  few : (cs : List CompareTree) (w v : Text) → stmts.is_all P cs w → (most : Option ℕ) (c d : Counts) → counts most c w v ≡ Ok d → length cs ≤ COMPARISONS
  few cs w v ((x, ys), e, (u, u', q, l, m)) most c d limits =
      let k = ands_on most c d w v (all_over P o cs w ((x, ys), e, (u, u', q, l, m))) limits in
      let s = k.sum in
      let m1 = k.most in
      let h = parted_by_ands (stmts.is_compare P) ys u' m in
      let a = ap ands q ∙ ands-append u u' in
      let b = ap length e in
      let b2 = length-seconds ys in
      few_by (ands w) c.ands d.ands (length ys) (length cs) s m1 (omega arith) (omega arith)

  pub all_passes : Passes n (stmts.is_all P) (fit_all n)
  all_passes cs w v l good most c d limits =
      by cs (separated_passes n terminal.And (stmts.is_compare P) (fit_compare n) compare_passes cs w v l good most c d limits) (few cs w v l most c d limits) (some l)
    where
      some : stmts.is_all P cs w → 0 < length cs
      some ((x, ys), e, m) = let k = ap length e in omega arith

      by : (cs : List CompareTree) → list_all (fit_compare n) cs ≡ true → length cs ≤ COMPARISONS → 0 < length cs → fit_all n cs ≡ true
      by [] h k m = absurd (omega arith)
      by (c ∷ cs) h k m = and_of (nat_le (length (c ∷ cs)) COMPARISONS) (list_all (fit_compare n) (c ∷ cs)) (at_most (length (c ∷ cs)) COMPARISONS k) h

  pub test_passes : Passes n (stmts.is_test P) (fit_test n)
  test_passes = either_passes n (is_map stmts.any (is_one terminal.Star)) (is_map stmts.holds (stmts.is_all P)) (fit_test n)
      (map_passes n stmts.any (is_one terminal.Star) (fits n) (fit_test n) (λ s h. refl) (one_passes n (terminal.Star ∷ [])))
      (map_passes n stmts.holds (stmts.is_all P) (fit_all n) (fit_test n) (λ cs h. h) all_passes)
