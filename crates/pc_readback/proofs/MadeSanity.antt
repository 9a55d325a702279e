-- The program of a made source keeps the context rules.
use Rattle.std.proofs.Common.{◌≡◌, ◌≤◌, ℕ, zero, suc, ◌+◌, ◌*◌, pos, neg_ℤ, ◌-ℤ◌, refl, ap, ap₂, ◌∙◌, arith, [], ◌∷◌, map, Bool, true, Ok}
use Rattle.std.specs.Prelude.{None, Result}
use Rattle.std.specs.Prelude.{sum as total}
use Rattle.std.specs.List.{list_all}
use Rattle.std.proofs.lemmas.List.{map-append}
use Rattle.std.proofs.lemmas.List.Sums.{sum_by-append}
use Rattle.std.proofs.lemmas.Bool.Decides.{nat_tests}
use Rattle.pc_rows.specs.Linear.{Linear, of_constant, difference_of, in_range}
use Rattle.pc_language.specs.declared.limits.TheConstants.{EDGES}
use Rattle.pc_language.specs.declared.operator.Op.TheVariants as op
use Rattle.pc_program.specs.declared.normal.AffineFault.{AffineFault}
use Rattle.pc_program.specs.declared.tree.Expr.{Expr}
use Rattle.pc_program.specs.Forms.{variable, form_step, form_of, ok_or, rows_of, row_fits}
use Rattle.pc_program.specs.Sane.{sane_expr, sane_test, sane_step, sane_stmt, sane_stmts, edges, edges_of, is_sane}
use Rattle.pc_program.proofs.Folds.{fold-num, fold-name, fold-add, fold-set, fold-while, fold-assert}
use Rattle.pc_program.proofs.Results.{and_of, at_most}
use Rattle.pc_readback.specs.Bare.{nowhere}
use Rattle.pc_gen.specs.declared.made.TheConstants.{LOOPS}
use Rattle.pc_readback.specs.MadeTrees.{names, parameter, counter, number, sum as sum_of, compared, below_ten, set_counter, bounded, counting, loop, loops}
use Rattle.pc_readback.proofs.MadeLists.{each_and}

-- ---- the row of the K-th assertion

pub small : (k : ℕ) → k ≤ LOOPS → in_range (pos k) ≡ true
small k h = grind (arith, nat_tests)

below : (k : ℕ) → k ≤ LOOPS → in_range (neg_ℤ (pos k) -ℤ pos 1) ≡ true
below zero h = refl
below (suc k) h = grind (arith, nat_tests)

-- a + k
abbrev bound : ℕ → Linear
bound k = record { constant = pos k; coefficients = (variable 0).coefficients }

bound_form : (k : ℕ) → k ≤ LOOPS → form_of (sum_of parameter (number k)) ≡ Ok (bound k)
bound_form k h = let e : 0 + k ≡ k = omega arith in simp (fold-add, fold-name, fold-num, e, small k h)

-- a + k - i
abbrev room : ℕ → Linear
room k = difference_of (bound k) (variable 1)

room_fits : (k : ℕ) → k ≤ LOOPS → row_fits (room k) ≡ true
room_fits k h = let e : k + 0 ≡ k = omega arith in simp (e, small k h, below k h)

rows_are : (k : ℕ) → k ≤ LOOPS → rows_of (compared op.AtMost counter (sum_of parameter (number k))) ≡ room k ∷ []
rows_are k h = ap₂ (λ x y. difference_of (ok_or (of_constant (pos 0)) x) (ok_or (of_constant (pos 0)) y) ∷ []) (bound_form k h) (fold-name (Result Linear AffineFault) form_step 1)

-- ---- statements

bound_sane : (k : ℕ) → k ≤ LOOPS → sane_expr 2 (sum_of parameter (number k)) ≡ true
bound_sane k h = simp (bound_form k h, fold-add, fold-name, fold-num, small k h)

bounded_sane : (k : ℕ) → k ≤ LOOPS → sane_stmt 2 (bounded k) ≡ true
bounded_sane k h =
    let row : list_all row_fits (rows_of (compared op.AtMost counter (sum_of parameter (number k)))) ≡ true = ap (list_all row_fits) (rows_are k h) ∙ and_of _ true (room_fits k h) refl in
    let side : sane_expr 2 counter ≡ true = simp fold-name in
    fold-assert Bool (sane_step 2) nowhere _ ∙ and_of _ true (and_of _ _ side (and_of _ _ (bound_sane k h) row)) refl

set_sane : (x : Expr) → sane_expr 2 x ≡ true → sane_stmt 2 (set_counter x) ≡ true
set_sane x h = fold-set Bool (sane_step 2) nowhere 1 (record { expr = x; choice = None }) ∙ and_of _ true h refl

test_sane : sane_test 2 below_ten ≡ true
test_sane = simp (fold-name, fold-num)

counting_sane : (k : ℕ) → k ≤ LOOPS → sane_stmt 2 (counting k) ≡ true
counting_sane k h =
    fold-while Bool (sane_step 2) nowhere below_ten [] (bounded k ∷ set_counter (sum_of counter (number 1)) ∷ []) ∙
    and_of _ _ test_sane (and_of _ _ (bounded_sane k h) (and_of _ true (set_sane (sum_of counter (number 1)) (simp (fold-add, fold-name, fold-num))) refl))

one_sane : (k : ℕ) → k ≤ LOOPS → sane_stmts 2 (loop k) ≡ true
one_sane k h = and_of _ _ (set_sane (number 0) (simp fold-num)) (and_of _ true (counting_sane k h) refl)

all_sane : (n : ℕ) → n ≤ LOOPS → sane_stmts 2 (loops n) ≡ true
all_sane zero h = refl
all_sane (suc n) h = each_and (sane_stmt 2) (loops n) (loop (suc n)) (all_sane n (omega arith)) (one_sane (suc n) h)

-- ---- edges

one_edges : (k : ℕ) → total (map edges (loop k)) ≡ 6
one_edges k = simp (fold-set, fold-while, fold-assert)

all_edges : (n : ℕ) → total (map edges (loops n)) ≡ 6 * n
all_edges zero = refl
all_edges (suc n) =
    let e = ap total (map-append edges (loops n) (loop (suc n))) ∙ sum_by-append (λ z. z) (map edges (loops n)) (map edges (loop (suc n))) in
    let f = all_edges n in
    let g = one_edges (suc n) in
    omega arith

pub made_sane : (n : ℕ) → n ≤ LOOPS → is_sane names (loops n) ≡ true
made_sane n h = and_of _ _ (all_sane n h) (at_most (edges_of (loops n)) EDGES (let e = all_edges n in omega arith))
