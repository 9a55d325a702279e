-- What the context rules say of comparisons, tests and statements, as the code that makes rows and edges needs it.
use Rattle.std.proofs.Common.{◌≡◌, ℕ, ◌*◌, ◌≤◌, List, [], ◌∷◌, ◌++◌, length, Bool, true, refl, sym, ap, ◌∙◌, arith, length-append}
use Rattle.std.specs.Prelude.{◌&&◌, not, nat_le}
use Rattle.std.specs.List.{list_all}
use Rattle.std.proofs.lemmas.Bool.{leb-true, and_parts, and_from}
use Rattle.pc_text.specs.declared.place.Place.{Place}
use Rattle.pc_language.specs.declared.operator.Op.{Op}
use Rattle.pc_language.specs.declared.operator.Op.TheVariants as op
use Rattle.pc_rows.specs.Linear.{Linear}
use Rattle.pc_language.specs.declared.limits.TheConstants.{COMPARISONS}
use Rattle.pc_program.specs.Forms.{is_unequal, has_rows, row_fits, rows_by, rows_of, rows_all, form}
use Rattle.pc_program.specs.Sane.{sane_expr, sane_compare, sane_each, sane_all, sane_test, sane_step, sane_stmt, sane_stmts, has_sane_rows}
use Rattle.pc_program.specs.declared.tree.Compare.{Compare}
use Rattle.pc_program.specs.declared.tree.Test.{Test}
use Rattle.pc_program.specs.declared.tree.Test.TheVariants as test
use Rattle.pc_program.specs.declared.tree.Stmt.{Stmt, fold-roll-Stmt}
use Rattle.pc_program.specs.declared.tree.Stmt.TheVariants.{If, While, Assert, Assume, rolls-If, rolls-While, rolls-Assert, rolls-Assume}
use Rattle.pc_program.specs.declared.tree.Stmt.TheOpen as stmt
use Rattle.pc_flow.specs.declared.what.TheConstants.{TEST_ROWS}
use Rattle.pc_graph.proofs.TestWays.{rows_found}
use Rattle.pc_graph.proofs.Unrolled.{sane-if, sane-while}

-- ---- rows

list_and : {A : Type 0} (p : A → Bool) (xs ys : List A) → list_all p xs ≡ true → list_all p ys ≡ true → list_all p (xs ++ ys) ≡ true
list_and p [] ys h k = k
list_and p (x ∷ xs) ys h k = let a = and_parts (p x) (list_all p xs) h in and_from (p x) (list_all p (xs ++ ys)) a.0 (list_and p xs ys a.1 k)

-- each row of sane comparisons and its negation are in range
pub rows_fit : (cs : List Compare) → list_all has_sane_rows cs ≡ true → list_all row_fits (rows_all cs) ≡ true
rows_fit [] h = refl
rows_fit (c ∷ cs) h =
    let a = and_parts (has_sane_rows c) (list_all has_sane_rows cs) h in
    list_and row_fits (rows_of c) (rows_all cs) (and_parts (has_rows c) (list_all row_fits (rows_of c)) a.0).1 (rows_fit cs a.1)

rows_by_few : (o : Op) (l r : Linear) → length (rows_by o l r) ≤ 2
rows_by_few op.Less l r = omega arith
rows_by_few op.AtMost l r = omega arith
rows_by_few op.Greater l r = omega arith
rows_by_few op.AtLeast l r = omega arith
rows_by_few op.Equal l r = omega arith
rows_by_few op.Unequal l r = omega arith

-- a comparison has at most two rows
pub rows_few : (cs : List Compare) → length (rows_all cs) ≤ 2 * length cs
rows_few [] = omega arith
rows_few (c ∷ cs) =
    let a = rows_by_few c.op (form c.left) (form c.right) in
    let b = rows_few cs in
    omega (arith, length-append (rows_of c) (rows_all cs))

-- ---- comparisons

-- a conjunction that is not too long, and each of its comparisons has its rows in range
abbrev pub IsReady : List Compare → Type 0
IsReady cs = (length cs ≤ COMPARISONS) × (list_all has_sane_rows cs ≡ true)

pub has_sane : (n : ℕ) (c : Compare) → sane_compare n c ≡ true → has_sane_rows c ≡ true
has_sane n c h =
    let l = and_parts (sane_expr n c.left) (sane_expr n c.right && list_all row_fits (rows_of c)) h in
    let r = and_parts (sane_expr n c.right) (list_all row_fits (rows_of c)) l.1 in
    and_from (has_rows c) (list_all row_fits (rows_of c)) (rows_found n c h) r.1

all_have : (n : ℕ) (cs : List Compare) → list_all (λ c. not (is_unequal c.op) && sane_compare n c) cs ≡ true → list_all has_sane_rows cs ≡ true
all_have n [] h = refl
all_have n (c ∷ cs) h =
    let a = and_parts (not (is_unequal c.op) && sane_compare n c) (list_all (λ c. not (is_unequal c.op) && sane_compare n c) cs) h in
    and_from (has_sane_rows c) (list_all has_sane_rows cs) (has_sane n c (and_parts (not (is_unequal c.op)) (sane_compare n c) a.0).1) (all_have n cs a.1)

pub each_ready : (n : ℕ) (cs : List Compare) → sane_each n cs ≡ true → IsReady cs
each_ready n cs h =
    let a = and_parts (nat_le (length cs) COMPARISONS) (list_all (λ c. not (is_unequal c.op) && sane_compare n c) cs) h in
    (leb-true (length cs) COMPARISONS a.0, all_have n cs a.1)

pub all_ready : (n : ℕ) (cs : List Compare) → sane_all n cs ≡ true → IsReady cs
all_ready n [] h = absurd (cc)
all_ready n (c ∷ cs) h = each_ready n (c ∷ cs) h

pub test_ready : (n : ℕ) (cs : List Compare) → sane_test n (test.All cs) ≡ true → IsReady cs
test_ready n [] h = absurd (cc)
test_ready n (c ∷ []) h = (omega arith, and_from (has_sane_rows c) true (has_sane n c h) refl)
test_ready n (c ∷ d ∷ cs) h = each_ready n (c ∷ d ∷ cs) h

-- the rows of what is ready
pub ready_fit : (cs : List Compare) (rows : List Linear) → rows ≡ rows_all cs → IsReady cs → list_all row_fits rows ≡ true
ready_fit cs rows e h = ap (list_all row_fits) e ∙ rows_fit cs h.1

pub ready_few : (cs : List Compare) (rows : List Linear) → rows ≡ rows_all cs → IsReady cs → length rows ≤ TEST_ROWS
ready_few cs rows e h = let a = ap length e in let b = rows_few cs in let f = h.0 in omega arith

-- ---- statements

-- the comparisons that the code reads off a list are those of the statement
pub sane_slice : (cs ds : List Compare) → ds ≡ cs → IsReady cs → list_all has_sane_rows ds ≡ true
sane_slice cs ds e h = ap (list_all has_sane_rows) e ∙ h.1

pub assert_ready : (n : ℕ) (x : Stmt) (p : Place) (cs : List Compare) → x ≡ Assert p cs → sane_stmt n x ≡ true → IsReady cs
assert_ready n x p cs e h =
    all_ready n cs (sym (ap (sane_stmt n) (e ∙ sym (rolls-Assert p cs)) ∙ fold-roll-Stmt Bool (sane_step n) (stmt.Assert p cs)) ∙ h)

pub assume_ready : (n : ℕ) (x : Stmt) (p : Place) (cs : List Compare) → x ≡ Assume p cs → sane_stmt n x ≡ true → IsReady cs
assume_ready n x p cs e h =
    all_ready n cs (sym (ap (sane_stmt n) (e ∙ sym (rolls-Assume p cs)) ∙ fold-roll-Stmt Bool (sane_step n) (stmt.Assume p cs)) ∙ h)

-- the parts of an `if` keep the rules
pub if_ready : (n : ℕ) (p : Place) (t : Test) (xs ys : List Stmt) → sane_stmt n (If p t xs ys) ≡ true →
    (sane_test n t ≡ true) × ((sane_stmts n xs ≡ true) × (sane_stmts n ys ≡ true))
if_ready n p t xs ys h =
    let a = and_parts (sane_test n t) (sane_stmts n xs && sane_stmts n ys) (sym (ap (sane_stmt n) (sym (rolls-If p t xs ys)) ∙ sane-if n p t xs ys) ∙ h) in
    (a.0, and_parts (sane_stmts n xs) (sane_stmts n ys) a.1)

-- the parts of a `while` keep the rules
pub while_ready : (n : ℕ) (p : Place) (t : Test) (tried : List Compare) (xs : List Stmt) → sane_stmt n (While p t tried xs) ≡ true →
    (sane_test n t ≡ true) × (IsReady tried × (sane_stmts n xs ≡ true))
while_ready n p t tried xs h =
    let a = and_parts (sane_test n t) (sane_each n tried && sane_stmts n xs) (sym (ap (sane_stmt n) (sym (rolls-While p t tried xs)) ∙ sane-while n p t tried xs) ∙ h) in
    let b = and_parts (sane_each n tried) (sane_stmts n xs) a.1 in
    (a.0, (each_ready n tried b.0, b.1))
