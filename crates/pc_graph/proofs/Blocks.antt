-- Statements as trees of blocks. What the rules make of a list of statements is a recursion over such a tree, and so are the laws of it.
use Rattle.std.proofs.Common.{◌≡◌, ℕ, ◌+◌, ◌<◌, ◌≤◌, List, [], ◌∷◌, Bool, true, refl, sym, ap, ◌∙◌, arith}
use Rattle.std.specs.Prelude.{◌&&◌, nat_lt}
use Rattle.std.specs.List.{AllByRecursion as Each}
use Rattle.std.proofs.lemmas.Bool.{ltb-true, and_parts}
use Rattle.pc_text.specs.declared.place.Place.{Place}
use Rattle.pc_program.specs.Forms.{rows_all}
use Rattle.pc_program.specs.Sane.{sane_step, sane_stmt, sane_stmts, sane_test, sane_each, sane_all, sane_right}
use Rattle.pc_program.specs.declared.tree.Compare.{Compare}
use Rattle.pc_program.specs.declared.tree.Right.{Right}
use Rattle.pc_program.specs.declared.tree.Test.{Test as Condition}
use Rattle.pc_program.specs.declared.tree.Stmt.{Stmt, roll-Stmt, fold-roll-Stmt}
use Rattle.pc_program.specs.declared.tree.Stmt.TheOpen as stmt
use Rattle.pc_program.proofs.Stmts.{by_stmt, all_by}
use Rattle.pc_flow.specs.declared.what.What.{What}
use Rattle.pc_flow.specs.declared.what.What.TheVariants.{Test, Check}
use Rattle.pc_graph.specs.Lowering.{Piece, Rule, nothing, one, after, split, loop, assigned, rule, rule_step, rules}
use Rattle.pc_graph.specs.Straight.{is_any, straight_step, is_straight, are_straight}
use Rattle.pc_graph.proofs.Unrolled.{rule-if, rule-while, sane-if, sane-while}

-- a statement without blocks
pub data Single : Type 0 where
  assigns : ℕ → Right → Single
  asserts : List Compare → Single
  assumes : List Compare → Single

-- a list of statements: none, or a statement with its blocks before more
pub data Block : Type 0 where
  done : Block
  single : Place → Single → Block → Block
  branch : Place → Condition → Block → Block → Block → Block
  cycle : Place → Condition → List Compare → Block → Block → Block

abbrev pub single_stmt : Place → Single → Stmt
single_stmt place (assigns v r) = roll-Stmt (stmt.Set place v r)
single_stmt place (asserts cs) = roll-Stmt (stmt.Assert place cs)
single_stmt place (assumes cs) = roll-Stmt (stmt.Assume place cs)

abbrev pub stmts : Block → List Stmt
stmts done = []
stmts (single place x more) = single_stmt place x ∷ stmts more
stmts (branch place t xs ys more) = roll-Stmt (stmt.If place t (stmts xs) (stmts ys)) ∷ stmts more
stmts (cycle place t tried xs more) = roll-Stmt (stmt.While place t tried (stmts xs)) ∷ stmts more

abbrev pub what_of : Single → What
what_of (assigns v r) = assigned v r
what_of (asserts cs) = Check (rows_all cs)
what_of (assumes cs) = Test (rows_all cs)

-- what the rules make of them, from the present point p and the number n of the next
abbrev pub built : Block → ℕ → ℕ → Piece
built done p n = nothing p n
built (single place x more) p n = after (one place (what_of x) p n) (built more n (n + 1))
built (branch place t xs ys more) p n =
    let a = built xs n (n + 1) in
    let b = built ys a.next (a.next + 1) in
    after (split place t p n a b) (built more b.next (b.next + 1))
built (cycle place t tried xs more) p n = let a = built xs n (n + 1) in after (loop place t tried p n a) (built more a.next (a.next + 1))

-- ---- every list of statements is one of a tree

abbrev Trees : List Stmt → Type 0
Trees ss = (b : Block) × (stmts b ≡ ss)

abbrev Grafts : Stmt → Type 0
Grafts x = (more : Block) → Trees (x ∷ stmts more)

trees_of : (ss : List Stmt) → Each Grafts ss → Trees ss
trees_of [] all = (done, refl)
trees_of (x ∷ ss) all =
    let more = trees_of ss all.1 in
    let b = all.0 more.0 in
    (b.0, b.1 ∙ ap (λ (z : List Stmt). x ∷ z) more.1)

grafts : (x : Stmt) → Grafts x
grafts x = by_stmt Grafts
    (λ place v r more. (single place (assigns v r) more, refl))
    (λ place t xs ys hx hy more.
    let a = trees_of xs hx in
    let b = trees_of ys hy in
    (branch place t a.0 b.0 more, rw (a.1, b.1) refl))
    (λ place t tried xs hx more. let a = trees_of xs hx in (cycle place t tried a.0 more, rw (a.1) refl))
    (λ place cs more. (single place (asserts cs) more, refl))
    (λ place cs more. (single place (assumes cs) more, refl))
    x

pub tree : (ss : List Stmt) → Trees ss
tree ss = trees_of ss (all_by Grafts grafts ss)

single_rule : (place : Place) (x : Single) → rule (single_stmt place x) ≡ one place (what_of x)
single_rule place (assigns v r) = fold-roll-Stmt Rule rule_step (stmt.Set place v r)
single_rule place (asserts cs) = fold-roll-Stmt Rule rule_step (stmt.Assert place cs)
single_rule place (assumes cs) = fold-roll-Stmt Rule rule_step (stmt.Assume place cs)

pub rules_are : (b : Block) (p n : ℕ) → rules (stmts b) p n ≡ built b p n
rules_are done p n = refl
rules_are (single place x more) p n = rw (single_rule place x, rules_are more n (n + 1)) refl
rules_are (branch place t xs ys more) p n =
    let a = built xs n (n + 1) in
    let b = built ys a.next (a.next + 1) in
    rw (rule-if place t (stmts xs) (stmts ys), rules_are xs n (n + 1), rules_are ys a.next (a.next + 1), rules_are more b.next (b.next + 1)) refl
rules_are (cycle place t tried xs more) p n =
    let a = built xs n (n + 1) in
    rw (rule-while place t tried (stmts xs), rules_are xs n (n + 1), rules_are more a.next (a.next + 1)) refl

-- ---- the context rules

abbrev pub SaneSingle : ℕ → Single → Type 0
SaneSingle v (assigns u r) = (u < v) × (sane_right v r ≡ true)
SaneSingle v (asserts cs) = sane_all v cs ≡ true
SaneSingle v (assumes cs) = sane_all v cs ≡ true

-- statements over v variables that keep the context rules
abbrev pub Sane : ℕ → Block → Type 0
Sane v done = Unit {0}
Sane v (single place x more) = SaneSingle v x × Sane v more
Sane v (branch place t xs ys more) = (sane_test v t ≡ true) × Sane v xs × Sane v ys × Sane v more
Sane v (cycle place t tried xs more) = (sane_test v t ≡ true) × (sane_each v tried ≡ true) × Sane v xs × Sane v more

single_sane : (v : ℕ) (place : Place) (x : Single) → sane_stmt v (single_stmt place x) ≡ true → SaneSingle v x
single_sane v place (assigns u r) h =
    let s = and_parts (nat_lt u v) (sane_right v r) (sym (fold-roll-Stmt Bool (sane_step v) (stmt.Set place u r)) ∙ h) in
    (ltb-true u v s.0, s.1)
single_sane v place (asserts cs) h = sym (fold-roll-Stmt Bool (sane_step v) (stmt.Assert place cs)) ∙ h
single_sane v place (assumes cs) h = sym (fold-roll-Stmt Bool (sane_step v) (stmt.Assume place cs)) ∙ h

pub is_sane : (v : ℕ) (b : Block) → sane_stmts v (stmts b) ≡ true → Sane v b
is_sane v done h = tt
is_sane v (single place x more) h =
    let s = and_parts (sane_stmt v (single_stmt place x)) (sane_stmts v (stmts more)) h in
    (single_sane v place x s.0, is_sane v more s.1)
is_sane v (branch place t xs ys more) h =
    let s = and_parts (sane_stmt v (roll-Stmt (stmt.If place t (stmts xs) (stmts ys)))) (sane_stmts v (stmts more)) h in
    let i = and_parts (sane_test v t) (sane_stmts v (stmts xs) && sane_stmts v (stmts ys)) (sym (sane-if v place t (stmts xs) (stmts ys)) ∙ s.0) in
    let j = and_parts (sane_stmts v (stmts xs)) (sane_stmts v (stmts ys)) i.1 in
    (i.0, is_sane v xs j.0, is_sane v ys j.1, is_sane v more s.1)
is_sane v (cycle place t tried xs more) h =
    let s = and_parts (sane_stmt v (roll-Stmt (stmt.While place t tried (stmts xs)))) (sane_stmts v (stmts more)) h in
    let i = and_parts (sane_test v t) (sane_each v tried && sane_stmts v (stmts xs)) (sym (sane-while v place t tried (stmts xs)) ∙ s.0) in
    let j = and_parts (sane_each v tried) (sane_stmts v (stmts xs)) i.1 in
    (i.0, j.0, is_sane v xs j.1, is_sane v more s.1)

-- ---- without loops, assumptions and tests but `*`

abbrev pub StraightSingle : Single → Type 0
StraightSingle (assigns v r) = Unit {0}
StraightSingle (asserts cs) = Unit {0}
StraightSingle (assumes cs) = ⊥

abbrev pub Straight : Block → Type 0
Straight done = Unit {0}
Straight (single place x more) = StraightSingle x × Straight more
Straight (branch place t xs ys more) = (is_any t ≡ true) × Straight xs × Straight ys × Straight more
Straight (cycle place t tried xs more) = ⊥

single_straight : (place : Place) (x : Single) → is_straight (single_stmt place x) ≡ true → StraightSingle x
single_straight place (assigns v r) h = tt
single_straight place (asserts cs) h = tt
single_straight place (assumes cs) h = let e = fold-roll-Stmt Bool straight_step (stmt.Assume place cs) in absurd (cc)

pub are_so : (b : Block) → are_straight (stmts b) ≡ true → Straight b
are_so done h = tt
are_so (single place x more) h =
    let s = and_parts (is_straight (single_stmt place x)) (are_straight (stmts more)) h in
    (single_straight place x s.0, are_so more s.1)
are_so (branch place t xs ys more) h =
    let s = and_parts (is_straight (roll-Stmt (stmt.If place t (stmts xs) (stmts ys)))) (are_straight (stmts more)) h in
    let i = and_parts (is_any t) (are_straight (stmts xs) && are_straight (stmts ys)) (sym (fold-roll-Stmt Bool straight_step (stmt.If place t (stmts xs) (stmts ys))) ∙ s.0) in
    let j = and_parts (are_straight (stmts xs)) (are_straight (stmts ys)) i.1 in
    (i.0, are_so xs j.0, are_so ys j.1, are_so more s.1)
are_so (cycle place t tried xs more) h =
    let s = and_parts (is_straight (roll-Stmt (stmt.While place t tried (stmts xs)))) (are_straight (stmts more)) h in
    let e = fold-roll-Stmt Bool straight_step (stmt.While place t tried (stmts xs)) in
    absurd (cc)

-- ---- numbers

-- from a present point whose number is one less than the next, so do they end
pub record Spans (p : ℕ) (a : Piece) : Type 0 where
  pub up : p ≤ a.last
  pub next : a.next ≡ a.last + 1

pub spans : (b : Block) (p : ℕ) → Spans p (built b p (p + 1))
spans done p = record { up = omega arith; next = refl }
spans (single place x more) p = let h = spans more (p + 1) in let up = h.up in record { up = omega arith; next = h.next }
spans (branch place t xs ys more) p =
    let a = built xs (p + 1) (p + 1 + 1) in
    let b = built ys a.next (a.next + 1) in
    let f = spans xs (p + 1) in
    let g = spans ys a.next in
    let h = spans more b.next in
    let f1 = f.up in
    let f2 = f.next in
    let g1 = g.up in
    let g2 = g.next in
    let h1 = h.up in
    record { up = omega arith; next = h.next }
spans (cycle place t tried xs more) p =
    let a = built xs (p + 1) (p + 1 + 1) in
    let f = spans xs (p + 1) in
    let h = spans more a.next in
    let f1 = f.up in
    let f2 = f.next in
    let h1 = h.up in
    record { up = omega arith; next = h.next }
