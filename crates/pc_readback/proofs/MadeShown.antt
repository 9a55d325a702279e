-- The program of a made source can be shown and read back.
use Rattle.std.proofs.Common.{◌≡◌, ◌≤◌, ℕ, zero, suc, ◌+◌, refl, ◌∙◌, arith, List, [], ◌∷◌, ◌++◌, map, Bool, true}
use Rattle.std.specs.Prelude.{None, max}
use Rattle.std.specs.List.{list_all}
use Rattle.pc_text.specs.Lexemes.{class, is_keyword}
use Rattle.pc_language.specs.declared.operator.Op.TheVariants as op
use Rattle.pc_language.specs.declared.limits.TheConstants.{BRACES, SIGNS}
use Rattle.pc_program.specs.declared.tree.Expr.{Expr}
use Rattle.pc_program.specs.declared.tree.Expr.TheVariants as expr
use Rattle.pc_program.proofs.Folds.{fold-num, fold-name, fold-add, fold-set, fold-while, fold-assert}
use Rattle.pc_program.proofs.Results.{and_of, at_most}
use Rattle.pc_show.specs.declared.showing.level.Level.TheVariants as level
use Rattle.pc_show.specs.Canonical.{expr_pieces}
use Rattle.pc_show.proofs.Laid.{num_laid, name_laid, add_laid}
use Rattle.pc_readback.specs.Showable.{is_name, has_literals, signs_in, signs_of, shown_expr, shown_step, shown_stmt, shown_stmts, deepest, nesting, nesting_of, is_showable}
use Rattle.pc_readback.specs.Bare.{nowhere}
use Rattle.pc_gen.specs.declared.made.TheConstants.{LOOPS}
use Rattle.pc_readback.specs.MadeTrees.{names, parameter, counter, number, sum, below_ten, compared, set_counter, bounded, counting, loop, loops}
use Rattle.pc_readback.proofs.MadeLists.{each_and}
use Rattle.pc_readback.proofs.MadeSanity.{small}

are_names : list_all is_name names.names ≡ true
unfolding class is_keyword
are_names = refl

-- ---- expressions

-- an expression with the numbers of tokens, and at most one sign
few_signs : (x : Expr) → has_literals x ≡ true → signs_of names.names x ≤ 1 → shown_expr names.names x ≡ true
few_signs x h k = and_of (has_literals x) _ h (at_most (signs_of names.names x) SIGNS (omega arith))

number_signs : (k : ℕ) → signs_in (expr_pieces names.names (number k) level.Expression) ≡ 0
number_signs k = simp num_laid

name_signs : (v : ℕ) → signs_in (expr_pieces names.names (expr.Name v) level.Expression) ≡ 0
name_signs v = simp name_laid

sum_signs : (v k : ℕ) → signs_in (expr_pieces names.names (sum (expr.Name v) (number k)) level.Expression) ≡ 1
sum_signs v k = simp (add_laid, name_laid, num_laid)

number_shown : (k : ℕ) → k ≤ LOOPS → shown_expr names.names (number k) ≡ true
number_shown k h = few_signs (number k) (simp (fold-num, small k h)) (let e = number_signs k in omega arith)

name_shown : (v : ℕ) → shown_expr names.names (expr.Name v) ≡ true
name_shown v = few_signs (expr.Name v) (simp fold-name) (let e = name_signs v in omega arith)

sum_shown : (v k : ℕ) → k ≤ LOOPS → shown_expr names.names (sum (expr.Name v) (number k)) ≡ true
sum_shown v k h = few_signs (sum (expr.Name v) (number k)) (simp (fold-add, fold-name, fold-num, small k h)) (let e = sum_signs v k in omega arith)

-- ---- statements

set_shown : (x : Expr) → shown_expr names.names x ≡ true → shown_stmt names.names (set_counter x) ≡ true
set_shown x h = fold-set Bool (shown_step names.names) nowhere 1 (record { expr = x; choice = None }) ∙ h

bounded_shown : (k : ℕ) → k ≤ LOOPS → shown_stmt names.names (bounded k) ≡ true
bounded_shown k h =
    fold-assert Bool (shown_step names.names) nowhere (compared op.AtMost counter (sum parameter (number k)) ∷ []) ∙
    and_of _ true (and_of _ _ (name_shown 1) (sum_shown 0 k h)) refl

counting_shown : (k : ℕ) → k ≤ LOOPS → shown_stmt names.names (counting k) ≡ true
counting_shown k h =
    fold-while Bool (shown_step names.names) nowhere below_ten [] (bounded k ∷ set_counter (sum counter (number 1)) ∷ []) ∙
    and_of _ _ (and_of _ true (and_of _ _ (name_shown 1) (number_shown 10 (omega arith))) refl)
    (and_of _ _ (bounded_shown k h) (and_of _ true (set_shown (sum counter (number 1)) (sum_shown 1 1 (omega arith))) refl))

one_shown : (k : ℕ) → k ≤ LOOPS → shown_stmts names.names (loop k) ≡ true
one_shown k h = and_of _ _ (set_shown (number 0) (number_shown 0 (omega arith))) (and_of _ true (counting_shown k h) refl)

all_shown : (n : ℕ) → n ≤ LOOPS → shown_stmts names.names (loops n) ≡ true
all_shown zero h = refl
all_shown (suc n) h = each_and (shown_stmt names.names) (loops n) (loop (suc n)) (all_shown n (omega arith)) (one_shown (suc n) h)

-- ---- nesting

no_deeper : {A : Type 0} (f : A → ℕ) (xs ys : List A) → deepest (map f xs) ≤ 1 → deepest (map f ys) ≤ 1 → deepest (map f (xs ++ ys)) ≤ 1
no_deeper f [] ys h k = k
no_deeper f (x ∷ xs) ys h k = let m : f x ≤ 1 = omega arith in let n : deepest (map f xs) ≤ 1 = omega arith in greater (f x) (deepest (map f (xs ++ ys))) m (no_deeper f xs ys n k)
  where
    greater : (m n : ℕ) → m ≤ 1 → n ≤ 1 → max m n ≤ 1
    greater m n h k = omega arith

one_nests : (k : ℕ) → nesting_of (loop k) ≡ 1
one_nests k = simp (fold-set, fold-while, fold-assert)

all_nest : (n : ℕ) → nesting_of (loops n) ≤ 1
all_nest zero = omega arith
all_nest (suc n) = no_deeper nesting (loops n) (loop (suc n)) (all_nest n) (let e = one_nests (suc n) in omega arith)

pub made_showable : (n : ℕ) → n ≤ LOOPS → is_showable names (loops n) ≡ true
made_showable n h = and_of _ _ are_names (and_of _ _ (all_shown n h) (at_most (1 + nesting_of (loops n)) BRACES (let e = all_nest n in omega arith)))
