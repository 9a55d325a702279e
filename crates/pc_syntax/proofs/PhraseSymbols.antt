-- What stands in expressions and in conjunctions, and how many comparisons a conjunction within the limits has.
use Rattle.std.proofs.Common.{◌≡◌, ℕ, zero, suc, ◌+◌, ◌-◌, ◌<◌, ◌≤◌, refl, ◌∙◌, ap, arith, List, [], ◌∷◌, ◌++◌, length, Bool, true, false, cond, Option, Some, None, Result, Ok, Err}
use Rattle.std.specs.Prelude.{nat_lt}
use Rattle.std.specs.List.{list_all}
use Rattle.std.proofs.lemmas.Bool.{ltb-true}
use Rattle.pc_grammar.specs.declared.symbol.Symbol.{Symbol}
use Rattle.pc_language.specs.declared.terminal.Terminal.{Terminal}
use Rattle.pc_language.specs.declared.terminal.Terminal.TheVariants as terminal
use Rattle.pc_grammar.specs.declared.limits.Counts.{Counts}
use Rattle.pc_language.specs.declared.limits.TheConstants.{COMPARISONS}
use Rattle.pc_grammar.specs.declared.fault.ParseFault.{ParseFault}
use Rattle.pc_grammar.specs.declared.tree.ExprTree.{ExprTree}
use Rattle.pc_grammar.specs.Combinators.{Text, Lang, is_map, is_both, is_either, is_maybe, is_many}
use Rattle.pc_grammar.specs.Terminals.{among, has, is_one, is_one_of}
use Rattle.pc_grammar.specs.Expressions as grammar
use Rattle.pc_grammar.specs.Statements as stmts
use Rattle.pc_grammar.specs.Limits.{keywords, of_expressions, ands_after, counted, and_on, counts}
use Rattle.pc_grammar.proofs.Scans.{is_counted}
use Rattle.pc_grammar.proofs.Sets.{parted, wider}
use Rattle.pc_program.proofs.Results.{and_is, and_of}
use Rattle.pc_syntax.proofs.Phrases.{Over, one_over, map_over, both_over, either_over, maybe_over, many_over, dead_over}

-- ---- the symbols of expressions and of conjunctions

atom_over : (P : Lang ExprTree) → Over of_expressions P → Over of_expressions (grammar.is_atom P)
atom_over P p = either_over of_expressions (is_map grammar.number (is_one terminal.Number)) (is_either (is_map grammar.name (is_one terminal.Name)) P)
    (map_over of_expressions grammar.number (is_one terminal.Number) (one_over of_expressions (terminal.Number ∷ []) refl))
    (either_over of_expressions (is_map grammar.name (is_one terminal.Name)) P (map_over of_expressions grammar.name (is_one terminal.Name) (one_over of_expressions (terminal.Name ∷ []) refl)) p)

module _ (P : Lang ExprTree) (p : Over of_expressions P) where
  factor_over : Over of_expressions (grammar.is_factor P)
  factor_over = map_over of_expressions grammar.signed (is_both (is_maybe (is_one terminal.Minus)) (grammar.is_atom P))
      (both_over of_expressions (is_maybe (is_one terminal.Minus)) (grammar.is_atom P)
      (maybe_over of_expressions (is_one terminal.Minus) (one_over of_expressions (terminal.Minus ∷ []) refl)) (atom_over P p))

  addend_over : Over of_expressions (grammar.is_addend P)
  addend_over = map_over of_expressions grammar.all_products (is_both (grammar.is_factor P) (is_many (grammar.is_star_factor P)))
      (both_over of_expressions (grammar.is_factor P) (is_many (grammar.is_star_factor P)) factor_over
      (many_over of_expressions (grammar.is_star_factor P) (both_over of_expressions (is_one terminal.Star) (grammar.is_factor P) (one_over of_expressions (terminal.Star ∷ []) refl) factor_over)))

  pub expr_over : Over of_expressions (grammar.is_expr_in P)
  expr_over = map_over of_expressions grammar.all_sums (is_both (grammar.is_addend P) (is_many (grammar.is_sign_addend P)))
      (both_over of_expressions (grammar.is_addend P) (is_many (grammar.is_sign_addend P)) addend_over
      (many_over of_expressions (grammar.is_sign_addend P) (both_over of_expressions (is_one_of grammar.signs) (grammar.is_addend P) (one_over of_expressions grammar.signs refl) addend_over)))

pub paren_over : (m : ℕ) → Over of_expressions (grammar.is_paren m)
paren_over zero = dead_over of_expressions
paren_over (suc m) = map_over of_expressions grammar.inner (is_both (is_one terminal.OpenParen) (is_both (grammar.is_expr_in (grammar.is_paren m)) (is_one terminal.CloseParen)))
    (both_over of_expressions (is_one terminal.OpenParen) (is_both (grammar.is_expr_in (grammar.is_paren m)) (is_one terminal.CloseParen)) (one_over of_expressions (terminal.OpenParen ∷ []) refl)
    (both_over of_expressions (grammar.is_expr_in (grammar.is_paren m)) (is_one terminal.CloseParen) (expr_over (grammar.is_paren m) (paren_over m)) (one_over of_expressions (terminal.CloseParen ∷ []) refl)))

-- what may stand in a conjunction
abbrev pub of_conjunctions : List Terminal
of_conjunctions = of_expressions ++ stmts.operators ++ terminal.And ∷ []

wide_over : {A : Type 0} (L : Lang A) → Over of_expressions L → Over of_conjunctions L
wide_over L f a w l = by w (f a w l)
  where
    by : (w : Text) → list_all (among of_expressions) w ≡ true → list_all (among of_conjunctions) w ≡ true
    by [] h = refl
    by (s ∷ w) h = let k = and_is (among of_expressions s) (list_all (among of_expressions) w) h in and_of (among of_conjunctions s) (list_all (among of_conjunctions) w) (wider of_expressions of_conjunctions refl (s ∷ []) k.0) (by w k.1)

pub all_over : (P : Lang ExprTree) → Over of_expressions P → Over of_conjunctions (stmts.is_all P)
all_over P p = map_over of_conjunctions stmts.all_items (is_both (stmts.is_compare P) (is_many (is_both (is_one terminal.And) (stmts.is_compare P))))
    (both_over of_conjunctions (stmts.is_compare P) (is_many (is_both (is_one terminal.And) (stmts.is_compare P))) compare_over
    (many_over of_conjunctions (is_both (is_one terminal.And) (stmts.is_compare P))
    (both_over of_conjunctions (is_one terminal.And) (stmts.is_compare P) (one_over of_conjunctions (terminal.And ∷ []) refl) compare_over)))
  where
    side : Over of_conjunctions (grammar.is_expr_in P)
    side = wide_over (grammar.is_expr_in P) (expr_over P p)

    compare_over : Over of_conjunctions (stmts.is_compare P)
    compare_over = map_over of_conjunctions stmts.compare_of (is_both (grammar.is_expr_in P) (is_both (is_one_of stmts.operators) (grammar.is_expr_in P)))
        (both_over of_conjunctions (grammar.is_expr_in P) (is_both (is_one_of stmts.operators) (grammar.is_expr_in P)) side
        (both_over of_conjunctions (is_one_of stmts.operators) (grammar.is_expr_in P) (one_over of_conjunctions stmts.operators refl) side))

-- ---- the comparisons of a conjunction

abbrev pub is_and : Terminal → ℕ
is_and terminal.And = 1
is_and _ = 0

-- how many "&&" a word has
abbrev pub ands : Text → ℕ
ands [] = 0
ands (s ∷ w) = is_and s.terminal + ands w

pub record Counts_on (n m a : ℕ) : Type 0 where
  pub sum : m ≡ n + a
  pub most : 0 < a → m < COMPARISONS

one_on : (n m : ℕ) (b : Bool) → nat_lt n (COMPARISONS - 1) ≡ b → cond b (Some (n + 1)) None ≡ Some m → Counts_on n m 1
one_on n m true h e = let f : n + 1 ≡ m = cc in let g = ltb-true n (COMPARISONS - 1) h in record { sum = omega arith; most = λ k. omega arith }
one_on n m false h e = absurd (cc)

none_on : (n m : ℕ) (b : Bool) → b ≡ false → cond b (Some 0) (Some n) ≡ Some m → Counts_on n m 0
none_on n m true h e = absurd (cc)
none_on n m false h e = let f : n ≡ m = cc in record { sum = omega arith; most = λ k. absurd (omega arith) }

step_on : (n m : ℕ) (t : Terminal) → has keywords t ≡ false → ands_after n t ≡ Some m → Counts_on n m (is_and t)
step_on n m terminal.And h e = one_on n m (nat_lt n (COMPARISONS - 1)) refl e
step_on n m t h e = none_on n m (has keywords t) h e

most_on : (n e d a b : ℕ) → e ≡ n + a → d ≡ e + b → (0 < a → e < COMPARISONS) → (0 < b → d < COMPARISONS) → 0 < a + b → d < COMPARISONS
most_on n e d a zero x y f g h = let k = f (omega arith) in omega arith
most_on n e d a (suc b) x y f g h = g (omega arith)

pub ands_on : (most : Option ℕ) (c d : Counts) (w v : Text) → list_all (among of_conjunctions) w ≡ true → counts most c w v ≡ Ok d → Counts_on c.ands d.ands (ands w)
ands_on most c d [] v h k = let f : c ≡ d = cc in let g = ap (λ (c : Counts). c.ands) f in record { sum = omega arith; most = λ l. absurd (omega arith) }
ands_on most c d (s ∷ w) v h k =
    let p = and_is (among of_conjunctions s) (list_all (among of_conjunctions) w) h in
    by p.0 (λ e k. ands_on most e d w v p.1 k) (counted most c s (w ++ v)) refl k
  where
    by : among of_conjunctions s ≡ true → ((e : Counts) → counts most e w v ≡ Ok d → Counts_on e.ands d.ands (ands w)) →
        (o : Result Counts ParseFault) → counted most c s (w ++ v) ≡ o → and_on o (λ e. counts most e w v) ≡ Ok d → Counts_on c.ands d.ands (ands (s ∷ w))
    by p again (Err f) g k = absurd (cc)
    by p again (Ok e) g k =
        let one = step_on c.ands e.ands s.terminal (parted of_conjunctions keywords refl (s ∷ []) p) (is_counted most c e s (w ++ v) g).ands in
        let rest = again e k in
        let s1 = one.sum in let s2 = rest.sum in let m1 = one.most in let m2 = rest.most in
        record { sum = omega arith; most = λ l. most_on c.ands e.ands d.ands (is_and s.terminal) (ands w) s1 s2 m1 m2 l }

pub ands-append : (u w : Text) → ands (u ++ w) ≡ ands u + ands w
ands-append [] w = omega arith
ands-append (s ∷ u) w = let h = ands-append u w in omega arith

and_one : (t : Terminal) → has (terminal.And ∷ []) t ≡ true → is_and t ≡ 1
and_one terminal.And h = refl
and_one t h = absurd (cc)

-- each comparison after the first has an "&&" before it
pub parted_by_ands : {A : Type 0} (L : Lang A) (ys : List (Symbol × A)) (w : Text) → is_many (is_both (is_one terminal.And) L) ys w → length ys ≤ ands w
parted_by_ands L [] w e = omega arith
parted_by_ands L (y ∷ ys) w (u, v, e, (a, b, f, (g, q), l), m) =
    let h = parted_by_ands L ys v m in
    let k = ap ands e ∙ ands-append u v in
    let k' = ap ands f ∙ ands-append a b in
    let k'' = ap ands q in
    let one : is_and y.0.terminal ≡ 1 = and_one y.0.terminal g in
    omega arith

pub length-seconds : {A : Type 0} (ys : List (Symbol × A)) → length (stmts.seconds ys) ≡ length ys
length-seconds [] = refl
length-seconds (y ∷ ys) = ap suc (length-seconds ys)
