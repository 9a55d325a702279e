-- What the folds say of each kind of statement.
use Rattle.std.proofs.Common.{◌≡◌, ℕ, ℤ, List, [], ◌∷◌, ◌++◌, Bool, refl, ap, ◌∙◌, map, cond}
use Rattle.std.specs.Prelude.{◌&&◌, slice_set, ◌+ℤ◌}
use Rattle.pc_text.specs.declared.place.Place.{Place}
use Rattle.pc_program.specs.Machine.{step, Going, Violated, Blocked, drawn}
use Rattle.pc_program.specs.Sane.{sane_stmt, sane_step, sane_stmts, sane_test, sane_each}
use Rattle.pc_program.specs.Values.{value_of, all_hold, chosen}
use Rattle.pc_rows.specs.Linear.{State}
use Rattle.pc_program.specs.declared.tree.Compare.{Compare}
use Rattle.pc_program.specs.declared.tree.Right.{Right}
use Rattle.pc_program.specs.declared.tree.Test.{Test}
use Rattle.pc_program.specs.declared.tree.Stmt.{Stmt, roll-Stmt, out-roll-Stmt, fold-roll-Stmt, para-roll-Stmt}
use Rattle.pc_program.specs.declared.tree.Stmt.TheOpen as stmt
use Rattle.pc_graph.specs.Lowering.{Rule, rule, rule_step}
use Rattle.pc_graph.specs.Rest.{Rests, rests, rests_step, rests_in_order, rests_of, firsts}

pub step-set : (p : Place) (v : ℕ) (r : Right) (k : List Stmt) (s : State) (c : ℤ) →
    step (roll-Stmt (stmt.Set p v r) ∷ k) s c ≡ Going k (slice_set s v (value_of s r.expr +ℤ drawn r.choice c))
step-set p v r k s c = rw (out-roll-Stmt (stmt.Set p v r)) refl

pub step-if : (p : Place) (t : Test) (xs ys k : List Stmt) (s : State) (c : ℤ) →
    step (roll-Stmt (stmt.If p t xs ys) ∷ k) s c ≡ Going ((cond (chosen t s c) xs ys) ++ k) s
step-if p t xs ys k s c = rw (out-roll-Stmt (stmt.If p t xs ys)) refl

pub step-while : (p : Place) (t : Test) (tried : List Compare) (xs k : List Stmt) (s : State) (c : ℤ) →
    step (roll-Stmt (stmt.While p t tried xs) ∷ k) s c ≡ Going (cond (chosen t s c) (xs ++ (roll-Stmt (stmt.While p t tried xs) ∷ k)) k) s
step-while p t tried xs k s c = rw (out-roll-Stmt (stmt.While p t tried xs)) refl

pub step-assert : (p : Place) (cs : List Compare) (k : List Stmt) (s : State) (c : ℤ) →
    step (roll-Stmt (stmt.Assert p cs) ∷ k) s c ≡ cond (all_hold cs s) (Going k s) (Violated p)
step-assert p cs k s c = rw (out-roll-Stmt (stmt.Assert p cs)) refl

pub step-assume : (p : Place) (cs : List Compare) (k : List Stmt) (s : State) (c : ℤ) →
    step (roll-Stmt (stmt.Assume p cs) ∷ k) s c ≡ cond (all_hold cs s) (Going k s) (Blocked p)
step-assume p cs k s c = rw (out-roll-Stmt (stmt.Assume p cs)) refl

pub rule-if : (p : Place) (t : Test) (xs ys : List Stmt) → rule (roll-Stmt (stmt.If p t xs ys)) ≡ rule_step (stmt.If p t (map rule xs) (map rule ys))
rule-if p t xs ys = fold-roll-Stmt Rule rule_step (stmt.If p t xs ys)

pub rule-while : (p : Place) (t : Test) (tried : List Compare) (xs : List Stmt) →
    rule (roll-Stmt (stmt.While p t tried xs)) ≡ rule_step (stmt.While p t tried (map rule xs))
rule-while p t tried xs = fold-roll-Stmt Rule rule_step (stmt.While p t tried xs)

pub sane-if : (n : ℕ) (p : Place) (t : Test) (xs ys : List Stmt) → sane_stmt n (roll-Stmt (stmt.If p t xs ys)) ≡ (sane_test n t && (sane_stmts n xs && sane_stmts n ys))
sane-if n p t xs ys = fold-roll-Stmt Bool (sane_step n) (stmt.If p t xs ys)

pub sane-while : (n : ℕ) (p : Place) (t : Test) (tried : List Compare) (xs : List Stmt) →
    sane_stmt n (roll-Stmt (stmt.While p t tried xs)) ≡ (sane_test n t && (sane_each n tried && sane_stmts n xs))
sane-while n p t tried xs = fold-roll-Stmt Bool (sane_step n) (stmt.While p t tried xs)

firsts_are : (xs : List Stmt) → firsts (map (λ d. (d, rests d)) xs) ≡ xs
firsts_are [] = refl
firsts_are (x ∷ xs) = ap (λ (zs : List Stmt). x ∷ zs) (firsts_are xs)

rests_are : (xs k : List Stmt) → rests_in_order (map (λ d. (d, rests d)) xs) k ≡ rests_of xs k
rests_are [] k = refl
rests_are (x ∷ xs) k = rw (firsts_are xs, rests_are xs k) refl

pub rests-if : (p : Place) (t : Test) (xs ys k : List Stmt) →
    rests (roll-Stmt (stmt.If p t xs ys)) k ≡ (xs ++ k) ∷ (rests_of xs k ++ ((ys ++ k) ∷ (rests_of ys k ++ (k ∷ []))))
rests-if p t xs ys k = ap (λ (f : Rests). f k) (para-roll-Stmt Rests rests_step (stmt.If p t xs ys)) ∙ simp (firsts_are, rests_are)

pub rests-while : (p : Place) (t : Test) (tried : List Compare) (xs k : List Stmt) →
    rests (roll-Stmt (stmt.While p t tried xs)) k ≡
    (xs ++ (roll-Stmt (stmt.While p t tried xs) ∷ k)) ∷ (rests_of xs (roll-Stmt (stmt.While p t tried xs) ∷ k) ++ (k ∷ []))
rests-while p t tried xs k = ap (λ (f : Rests). f k) (para-roll-Stmt Rests rests_step (stmt.While p t tried xs)) ∙ simp (firsts_are, rests_are)

pub rests-set : (p : Place) (v : ℕ) (r : Right) (k : List Stmt) → rests (roll-Stmt (stmt.Set p v r)) k ≡ k ∷ []
rests-set p v r k = ap (λ (f : Rests). f k) (para-roll-Stmt Rests rests_step (stmt.Set p v r))

pub rests-assert : (p : Place) (cs : List Compare) (k : List Stmt) → rests (roll-Stmt (stmt.Assert p cs)) k ≡ k ∷ []
rests-assert p cs k = ap (λ (f : Rests). f k) (para-roll-Stmt Rests rests_step (stmt.Assert p cs))

pub rests-assume : (p : Place) (cs : List Compare) (k : List Stmt) → rests (roll-Stmt (stmt.Assume p cs)) k ≡ k ∷ []
rests-assume p cs k = ap (λ (f : Rests). f k) (para-roll-Stmt Rests rests_step (stmt.Assume p cs))
