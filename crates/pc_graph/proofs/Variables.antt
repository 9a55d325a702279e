-- The rows of a program are over its variables.
use Rattle.std.proofs.Common.{◌≡◌, ℕ, ◌+◌, ◌<◌, ℤ, pos, negsuc, ◌*ℤ◌, ap, ◌∙◌, arith, List, [], ◌∷◌, length, replicate, Bool, true, false, cond, Result, Ok, Err}
use Rattle.std.specs.Prelude.{◌&&◌, ◌==◌, not, nat_le, IfOk}
use Rattle.std.specs.List.{AllByRecursion as Each, list_all}
use Rattle.std.proofs.lemmas.Int.{ints}
use Rattle.std.proofs.lemmas.List.{get_or-set_other}
use Rattle.std.proofs.Math.IntN.{*ℤ-zero}
use Rattle.std.proofs.lemmas.Bool.{ltb-true, and_parts}
use Rattle.pc_text.specs.declared.place.Place.{Place}
use Rattle.pc_language.specs.declared.limits.TheConstants.{COMPARISONS}
use Rattle.pc_language.specs.declared.operator.Op.{Op}
use Rattle.pc_language.specs.declared.operator.Op.TheVariants as op
use Rattle.pc_rows.specs.Linear.{Linear, IsOver, of_constant, sum_of, scaled_by, difference_of, is_number, is_in_range, fits}
use Rattle.pc_rows.specs.declared.row.TheConstants.{VARIABLES}
use Rattle.pc_rows.proofs.Algebra.{get_or-add_lists, get_or-scale_list}
use Rattle.pc_rows.proofs.Only.{difference_is_over, negation_is_over}
use Rattle.pc_rows.proofs.Joining.{each_join}
use Rattle.pc_program.specs.Forms.{bind, variable, product, form_of, form, ok_or, rows_by, rows_of, rows_all, row_fits, is_affine, is_unequal}
use Rattle.pc_program.specs.Sane.{names_below, sane_expr, sane_compare, sane_each, sane_all, sane_test}
use Rattle.pc_program.specs.declared.normal.AffineFault.{AffineFault}
use Rattle.pc_program.specs.declared.normal.AffineFault.TheVariants.{NotAffine, Past}
use Rattle.pc_program.specs.declared.tree.Compare.{Compare}
use Rattle.pc_program.specs.declared.tree.Expr.{Expr, fold-roll-Expr}
use Rattle.pc_program.specs.declared.tree.Test.{Test as Condition}
use Rattle.pc_program.specs.declared.tree.Test.TheVariants as test
use Rattle.pc_program.proofs.Exprs.{by_cases}
use Rattle.pc_program.proofs.Results.{bind_keeps, if_keeps}
use Rattle.pc_rows.proofs.Algebra.{get_or-zeros}
use Rattle.pc_graph.specs.declared.draft.Loop.{Loop}
use Rattle.pc_graph.specs.Lowering.{tried_at, points_from}
use Rattle.pc_graph.specs.Ways.{is_lone, apart, ways_of, ways}

-- ---- rows

number_is_over : (n : ℕ) (c : ℤ) → IsOver n (of_constant c)
number_is_over n c v h = get_or-zeros VARIABLES v

variable_is_over : (n x : ℕ) → x < n → IsOver n (variable x)
variable_is_over n x lt v h = get_or-set_other (replicate VARIABLES (pos 0)) x v (pos 1) (pos 0) (λ e. absurd (omega arith)) ∙ get_or-zeros VARIABLES v

sum_is_over : (n : ℕ) (a b : Linear) → IsOver n a → IsOver n b → IsOver n (sum_of a b)
sum_is_over n a b f g v h = get_or-add_lists a.coefficients b.coefficients v ∙ (let e = f v h in let k = g v h in omega (arith, ints))

multiple_is_over : (n : ℕ) (k : ℤ) (r : Linear) → IsOver n r → IsOver n (scaled_by k r)
multiple_is_over n k r f v h = get_or-scale_list k r.coefficients v ∙ ap (λ (z : ℤ). k *ℤ z) (f v h) ∙ *ℤ-zero k

-- ---- normal forms

fits_over : (n : ℕ) (p : Place) (r : Linear) → IsOver n r → IfOk (fits (Past p) r) (IsOver n)
fits_over n p r h = if_keeps (IsOver n) (is_in_range r) r (Past p) (λ e. h)

product_is_over : (n : ℕ) (p : Place) (a b : Linear) → IsOver n a → IsOver n b → IfOk (product p a b) (IsOver n)
product_is_over n p a b f g = by (is_number a) (is_number b)
  where
    by : (s t : Bool) → IfOk (cond s (fits (Past p) (scaled_by a.constant b)) (cond t (fits (Past p) (scaled_by b.constant a)) (Err (NotAffine p)))) (IsOver n)
    by true t = fits_over n p (scaled_by a.constant b) (multiple_is_over n a.constant b g)
    by false true = fits_over n p (scaled_by b.constant a) (multiple_is_over n b.constant a f)
    by false false = tt

-- the form of an expression, whose names this test allows, is over n variables
Claim : ℕ → Bool → Result Linear AffineFault → Type 0
Claim n below r = below ≡ true → IfOk r (IsOver n)

each_claim : (n : ℕ) (f : Linear → Result Linear AffineFault) → ((a : Linear) → IsOver n a → IfOk (f a) (IsOver n)) →
    (below : Bool) (r : Result Linear AffineFault) → Claim n below r → Claim n below (bind r f)
unfolding Claim
each_claim n f step below r h e = bind_keeps (IsOver n) (IsOver n) r f step (h e)

both_claim : (n : ℕ) (f : Linear → Linear → Result Linear AffineFault) → ((a b : Linear) → IsOver n a → IsOver n b → IfOk (f a b) (IsOver n)) →
    (below below' : Bool) (r q : Result Linear AffineFault) → Claim n below r → Claim n below' q → Claim n (below && below') (bind r (λ a. bind q (λ b. f a b)))
unfolding Claim
both_claim n f step below below' r q h k e =
    let p = and_parts below below' e in
    bind_keeps (IsOver n) (IsOver n) r (λ a. bind q (λ b. f a b)) (λ a x. bind_keeps (IsOver n) (IsOver n) q (λ b. f a b) (λ b y. step a b x y) (k p.1)) (h p.0)

claims : (n : ℕ) (e : Expr) → Claim n (names_below n e) (form_of e)
unfolding Claim
claims n e = by_cases (λ e. Claim n (names_below n e) (form_of e))
    (λ c. simp fold-roll-Expr (λ h. number_is_over n c))
    (λ x. simp fold-roll-Expr (λ h. variable_is_over n x (ltb-true x n h)))
    (λ a p h. simp fold-roll-Expr (each_claim n (λ x. fits (Past p) (scaled_by (negsuc 0) x)) (λ a x. fits_over n p (scaled_by (negsuc 0) a) (multiple_is_over n (negsuc 0) a x)) _ _ h))
    (λ a b p h k. simp fold-roll-Expr (both_claim n (λ x y. fits (Past p) (sum_of x y)) (λ a b x y. fits_over n p (sum_of a b) (sum_is_over n a b x y)) _ _ _ _ h k))
    (λ a b p h k. simp fold-roll-Expr (both_claim n (λ x y. fits (Past p) (difference_of x y)) (λ a b x y. fits_over n p (difference_of a b) (difference_is_over n a b x y)) _ _ _ _ h k))
    (λ a b p h k. simp fold-roll-Expr (both_claim n (product p) (λ a b x y. product_is_over n p a b x y) _ _ _ _ h k))
    e

pub form_is_over : (n : ℕ) (e : Expr) → names_below n e ≡ true → IsOver n (form e)
unfolding Claim
form_is_over n e h = by (form_of e) (claims n e h)
  where
    by : (r : Result Linear AffineFault) → IfOk r (IsOver n) → IsOver n (ok_or (of_constant (pos 0)) r)
    by (Ok r) k = k
    by (Err f) k = number_is_over n (pos 0)

-- ---- comparisons and tests

sane_is_over : (n : ℕ) (e : Expr) → sane_expr n e ≡ true → IsOver n (form e)
sane_is_over n e h = form_is_over n e (and_parts (is_affine e) (names_below n e) h).1

rows_by_over : (n : ℕ) (o : Op) (l r : Linear) → IsOver n l → IsOver n r → Each (IsOver n) (rows_by o l r)
rows_by_over n op.Less l r f g = (difference_is_over n r l g f, tt)
rows_by_over n op.AtMost l r f g = (difference_is_over n r l g f, tt)
rows_by_over n op.Greater l r f g = (difference_is_over n l r f g, tt)
rows_by_over n op.AtLeast l r f g = (difference_is_over n l r f g, tt)
rows_by_over n op.Equal l r f g = (difference_is_over n l r f g, (difference_is_over n r l g f, tt))
rows_by_over n op.Unequal l r f g = (difference_is_over n l r f g, (difference_is_over n r l g f, tt))

compare_over : (n : ℕ) (c : Compare) → sane_compare n c ≡ true → Each (IsOver n) (rows_of c)
compare_over n c h =
    let l = and_parts (sane_expr n c.left) (sane_expr n c.right && list_all row_fits (rows_of c)) h in
    let r = and_parts (sane_expr n c.right) (list_all row_fits (rows_of c)) l.1 in
    rows_by_over n c.op (form c.left) (form c.right) (sane_is_over n c.left l.0) (sane_is_over n c.right r.0)

conjunction_over : (n : ℕ) (cs : List Compare) → list_all (λ c. not (is_unequal c.op) && sane_compare n c) cs ≡ true → Each (IsOver n) (rows_all cs)
conjunction_over n [] h = tt
conjunction_over n (c ∷ cs) h =
    let a = and_parts (not (is_unequal c.op) && sane_compare n c) (list_all (λ c. not (is_unequal c.op) && sane_compare n c) cs) h in
    each_join (IsOver n) (rows_of c) (rows_all cs) (compare_over n c (and_parts (not (is_unequal c.op)) (sane_compare n c) a.0).1) (conjunction_over n cs a.1)

pub each_over : (n : ℕ) (cs : List Compare) → sane_each n cs ≡ true → Each (IsOver n) (rows_all cs)
each_over n cs h = conjunction_over n cs (and_parts (nat_le (length cs) COMPARISONS) (list_all (λ c. not (is_unequal c.op) && sane_compare n c) cs) h).1

pub all_over : (n : ℕ) (cs : List Compare) → sane_all n cs ≡ true → Each (IsOver n) (rows_all cs)
all_over n [] h = tt
all_over n (c ∷ cs) h = each_over n (c ∷ cs) h

test_over : (n : ℕ) (cs : List Compare) → sane_test n (test.All cs) ≡ true → Each (IsOver n) (rows_all cs)
test_over n [] h = tt
test_over n (c ∷ []) h = each_join (IsOver n) (rows_of c) [] (compare_over n c h) tt
test_over n (c ∷ d ∷ cs) h = each_over n (c ∷ d ∷ cs) h

-- ---- the ways of a test

apart_over : (n : ℕ) (rows : List Linear) → Each (IsOver n) rows → Each (Each (IsOver n)) (apart rows)
apart_over n [] h = tt
apart_over n (r ∷ rows) h = ((negation_is_over n r h.0, tt), apart_over n rows h.1)

ways_of_over : (n : ℕ) (lone b : Bool) (rows : List Linear) → Each (IsOver n) rows → Each (Each (IsOver n)) (ways_of lone rows b)
ways_of_over n true true rows h = apart_over n rows h
ways_of_over n true false rows h = (h, tt)
ways_of_over n false true rows h = (h, tt)
ways_of_over n false false rows h = apart_over n rows h

pub ways_over : (n : ℕ) (t : Condition) (b : Bool) → sane_test n t ≡ true → Each (Each (IsOver n)) (ways t b)
ways_over n test.Any b h = (tt, tt)
ways_over n (test.All cs) b h = ways_of_over n (is_lone cs) b (rows_all cs) (test_over n cs h)

-- ---- what loops try

tried_over : (n : ℕ) (loops : List Loop) (p : ℕ) → Each (λ l. Each (IsOver n) l.tried) loops → Each (IsOver n) (tried_at loops p)
tried_over n [] p h = tt
tried_over n (l ∷ loops) p h = by (l.head == p) (tried_over n loops p h.1)
  where
    by : (b : Bool) → Each (IsOver n) (tried_at loops p) → Each (IsOver n) (cond b l.tried (tried_at loops p))
    by true more = h.0
    by false more = more

pub points_over : (n : ℕ) (loops : List Loop) (p : ℕ) (places : List Place) → Each (λ l. Each (IsOver n) l.tried) loops →
    Each (λ point. Each (IsOver n) point.tried) (points_from loops p places)
points_over n loops p [] h = tt
points_over n loops p (place ∷ places) h = (tried_over n loops p h, points_over n loops (p + 1) places h)
