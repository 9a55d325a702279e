-- In a program that keeps the context rules each variable has a name.
use Rattle.std.proofs.Common.{◌≡◌, ℕ, refl, sym, ◌∙◌, List, [], ◌∷◌, length, Bool, true}
use Rattle.std.specs.Prelude.{◌&&◌, not, nat_le, nat_lt}
use Rattle.std.specs.List.{AllByRecursion, list_all}
use Rattle.pc_language.specs.declared.limits.TheConstants.{COMPARISONS}
use Rattle.pc_rows.specs.declared.row.TheConstants.{VARIABLES}
use Rattle.pc_language.specs.declared.limits.TheConstants.{EDGES}
use Rattle.pc_program.specs.declared.tree.Expr.{Expr}
use Rattle.pc_program.specs.declared.tree.Compare.{Compare}
use Rattle.pc_program.specs.declared.tree.Test.{Test}
use Rattle.pc_program.specs.declared.tree.Test.TheVariants as test
use Rattle.pc_program.specs.declared.tree.Stmt.{Stmt, Stmt-F, map-Stmt, roll-Stmt, fold-roll-Stmt}
use Rattle.pc_program.specs.declared.tree.Stmt.TheOpen as stmt
use Rattle.pc_text.specs.Named.{Named}
use Rattle.pc_program.specs.Forms.{is_affine, is_unequal, rows_of, row_fits}
use Rattle.pc_program.specs.Sane as sane
use Rattle.pc_program.specs.Naming.{named_compare, named_all, named_test, named_step, named_stmt, named_stmts}
use Rattle.pc_program.proofs.Results.{and_is, and_of}
use Rattle.pc_program.proofs.Stmts.{by_stmt, all_by}

module _ (n : ℕ) where
  expr_named : (x : Expr) → sane.sane_expr n x ≡ true → sane.names_below n x ≡ true
  expr_named x h = (and_is (is_affine x) (sane.names_below n x) h).1

  compare_named : (c : Compare) → sane.sane_compare n c ≡ true → named_compare n c ≡ true
  compare_named c h =
      let p = and_is (sane.sane_expr n c.left) (sane.sane_expr n c.right && list_all row_fits (rows_of c)) h in
      let q = and_is (sane.sane_expr n c.right) (list_all row_fits (rows_of c)) p.1 in
      and_of (sane.names_below n c.left) (sane.names_below n c.right) (expr_named c.left p.0) (expr_named c.right q.0)

  plain_named : (cs : List Compare) → list_all (λ c. not (is_unequal c.op) && sane.sane_compare n c) cs ≡ true → named_all n cs ≡ true
  plain_named [] h = refl
  plain_named (c ∷ cs) h =
      let p = and_is (not (is_unequal c.op) && sane.sane_compare n c) (list_all (λ c. not (is_unequal c.op) && sane.sane_compare n c) cs) h in
      and_of (named_compare n c) (named_all n cs) (compare_named c (and_is (not (is_unequal c.op)) (sane.sane_compare n c) p.0).1) (plain_named cs p.1)

  each_named : (cs : List Compare) → sane.sane_each n cs ≡ true → named_all n cs ≡ true
  each_named cs h = plain_named cs (and_is (nat_le (length cs) COMPARISONS) (list_all (λ c. not (is_unequal c.op) && sane.sane_compare n c) cs) h).1

  all_named : (cs : List Compare) → sane.sane_all n cs ≡ true → named_all n cs ≡ true
  all_named [] h = refl
  all_named (c ∷ cs) h = each_named (c ∷ cs) h

  test_named : (t : Test) → sane.sane_test n t ≡ true → named_test n t ≡ true
  test_named test.Any h = refl
  test_named (test.All []) h = refl
  test_named (test.All (c ∷ [])) h = and_of (named_compare n c) true (compare_named c h) refl
  test_named (test.All (c ∷ d ∷ cs)) h = each_named (c ∷ d ∷ cs) h

  HasNames : Stmt → Type 0
  HasNames x = sane.sane_stmt n x ≡ true → named_stmt n x ≡ true

  list_named : (xs : List Stmt) → AllByRecursion HasNames xs → sane.sane_stmts n xs ≡ true → named_stmts n xs ≡ true
  unfolding HasNames
  list_named [] h k = refl
  list_named (x ∷ xs) h k =
      let p = and_is (sane.sane_stmt n x) (sane.sane_stmts n xs) k in
      and_of (named_stmt n x) (named_stmts n xs) (h.0 p.0) (list_named xs h.1 p.1)

  at_stmt : (x : Stmt-F Stmt) → (sane.sane_step n (map-Stmt Stmt Bool (sane.sane_stmt n) x) ≡ true → named_step n (map-Stmt Stmt Bool (named_stmt n) x) ≡ true) → HasNames (roll-Stmt x)
  unfolding HasNames
  at_stmt x f h = fold-roll-Stmt Bool (named_step n) x ∙ f (sym (fold-roll-Stmt Bool (sane.sane_step n) x) ∙ h)

  stmt_named : (x : Stmt) → HasNames x
  stmt_named x = by_stmt HasNames
      (λ p v r. at_stmt (stmt.Set p v r) (λ h.
      let q = and_is (nat_lt v n) (sane.sane_right n r) h in
      and_of (nat_lt v n) (sane.names_below n r.expr) q.0 (expr_named r.expr (and_is (sane.sane_expr n r.expr) (sane.sane_choice r.choice) q.1).0)))
      (λ p t xs ys a b. at_stmt (stmt.If p t xs ys) (λ h.
      let q = and_is (sane.sane_test n t) (sane.sane_stmts n xs && sane.sane_stmts n ys) h in
      let r = and_is (sane.sane_stmts n xs) (sane.sane_stmts n ys) q.1 in
      and_of (named_test n t) (named_stmts n xs && named_stmts n ys) (test_named t q.0) (and_of (named_stmts n xs) (named_stmts n ys) (list_named xs a r.0) (list_named ys b r.1))))
      (λ p t tried xs a. at_stmt (stmt.While p t tried xs) (λ h.
      let q = and_is (sane.sane_test n t) (sane.sane_each n tried && sane.sane_stmts n xs) h in
      let r = and_is (sane.sane_each n tried) (sane.sane_stmts n xs) q.1 in
      and_of (named_test n t) (named_all n tried && named_stmts n xs) (test_named t q.0) (and_of (named_all n tried) (named_stmts n xs) (each_named tried r.0) (list_named xs a r.1))))
      (λ p cs. at_stmt (stmt.Assert p cs) (all_named cs))
      (λ p cs. at_stmt (stmt.Assume p cs) (all_named cs))
      x

  stmts_named : (xs : List Stmt) → sane.sane_stmts n xs ≡ true → named_stmts n xs ≡ true
  stmts_named xs h = list_named xs (all_by HasNames stmt_named xs) h

pub program_named : (names : Named) (body : List Stmt) → sane.is_sane names body ≡ true → named_stmts (length names.names) body ≡ true
program_named names body h =
    let p = and_is (nat_le names.params (length names.names)) (nat_le (length names.names) VARIABLES && (sane.sane_stmts (length names.names) body && nat_le (sane.edges_of body) EDGES)) h in
    let q = and_is (nat_le (length names.names) VARIABLES) (sane.sane_stmts (length names.names) body && nat_le (sane.edges_of body) EDGES) p.1 in
    stmts_named (length names.names) body (and_is (sane.sane_stmts (length names.names) body) (nat_le (sane.edges_of body) EDGES) q.1).0
