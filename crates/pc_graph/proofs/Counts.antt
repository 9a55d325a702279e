-- How many points and edges the rules make.
use Rattle.std.proofs.Common.{◌≡◌, ℕ, ◌+◌, ◌≤◌, List, [], ◌∷◌, ◌++◌, length, Bool, true, false, refl, sym, ap, ◌∙◌, arith, map, length-append, cond}
use Rattle.std.specs.Prelude.{sum}
use Rattle.std.proofs.lemmas.List.Sums.{sum_by-cons}
use Rattle.pc_text.specs.declared.place.Place.{Place}
use Rattle.pc_language.specs.declared.operator.Op.{Op}
use Rattle.pc_language.specs.declared.operator.Op.TheVariants as op
use Rattle.pc_rows.specs.Linear.{Linear}
use Rattle.pc_program.specs.Forms.{form, rows_by, rows_of, rows_all}
use Rattle.pc_program.specs.Sane.{is_either, rows_in, test_edges, edges_step, edges}
use Rattle.pc_program.specs.declared.tree.Compare.{Compare}
use Rattle.pc_program.specs.declared.tree.Stmt.{Stmt, roll-Stmt, fold-roll-Stmt}
use Rattle.pc_program.specs.declared.tree.Stmt.TheOpen as stmt
use Rattle.pc_program.specs.declared.tree.Test.{Test as Condition}
use Rattle.pc_program.specs.declared.tree.Test.TheVariants as test
use Rattle.pc_flow.specs.Arc.{Arc, arc}
use Rattle.pc_flow.specs.declared.what.What.TheVariants.{Test}
use Rattle.pc_graph.specs.Lowering.{Piece, tests, join_edges, rules}
use Rattle.pc_graph.specs.Ways.{is_lone, apart, ways_of, ways}
use Rattle.pc_graph.proofs.Blocks.{Single, assigns, asserts, assumes, Block, done, single, branch, cycle, single_stmt, stmts, built, tree, rules_are}

rows_by_counted : (o : Op) (l r : Linear) → length (rows_by o l r) ≡ cond (is_either o) 2 1
rows_by_counted op.Less l r = refl
rows_by_counted op.AtMost l r = refl
rows_by_counted op.Greater l r = refl
rows_by_counted op.AtLeast l r = refl
rows_by_counted op.Equal l r = refl
rows_by_counted op.Unequal l r = refl

rows_counted : (cs : List Compare) → length (rows_all cs) ≡ rows_in cs
rows_counted [] = refl
rows_counted (c ∷ cs) =
    let a = rows_by_counted c.op (form c.left) (form c.right) in
    let b = rows_counted cs in
    length-append (rows_of c) (rows_all cs) ∙ ap (λ n. n + length (rows_all cs)) a ∙ ap (λ n. cond (is_either c.op) 2 1 + n) b

apart-length : (rows : List Linear) → length (apart rows) ≡ length rows
apart-length [] = refl
apart-length (r ∷ rows) = let h = apart-length rows in omega arith

ways_of_counted : (lone : Bool) (rows : List Linear) → length (ways_of lone rows true) + length (ways_of lone rows false) ≡ 1 + length rows
ways_of_counted true rows = let h = apart-length rows in omega arith
ways_of_counted false rows = let h = apart-length rows in omega arith

-- both sides of a test
ways_counted : (t : Condition) → length (ways t true) + length (ways t false) ≡ test_edges t
ways_counted test.Any = refl
ways_counted (test.All cs) = ways_of_counted (is_lone cs) (rows_all cs) ∙ ap (λ n. 1 + n) (rows_counted cs)

tests-length : (b : Bool) (p q : ℕ) (ws : List (List Linear)) → length (tests b p q ws) ≡ length ws
tests-length b p q [] = refl
tests-length b p q (w ∷ ws) = let h = tests-length b p q ws in omega arith

single_counted : (place : Place) (x : Single) → edges (single_stmt place x) ≡ 1
single_counted place (assigns v r) = fold-roll-Stmt ℕ edges_step (stmt.Set place v r)
single_counted place (asserts cs) = fold-roll-Stmt ℕ edges_step (stmt.Assert place cs)
single_counted place (assumes cs) = fold-roll-Stmt ℕ edges_step (stmt.Assume place cs)

-- the edges of the rules of a test with two blocks, and of one with a block
branch_long : (t : Condition) (p n m : ℕ) (xs ys ends more : List Arc) → length ((tests false p n (ways t true) ++ (xs ++ (tests false p m (ways t false) ++ (ys ++ ends)))) ++ more) ≡
    test_edges t + length xs + length ys + length ends + length more
branch_long t p n m xs ys ends more =
    let trues = tests false p n (ways t true) in
    let falses = tests false p m (ways t false) in
    let e1 = tests-length false p n (ways t true) in
    let e2 = tests-length false p m (ways t false) in
    let c = ways_counted t in
    omega (
      arith,
      length-append (trues ++ (xs ++ (falses ++ (ys ++ ends)))) more,
      length-append trues (xs ++ (falses ++ (ys ++ ends))),
      length-append xs (falses ++ (ys ++ ends)),
      length-append falses (ys ++ ends),
      length-append ys ends,
    )

cycle_long : (t : Condition) (p n m : ℕ) (back : Arc) (xs more : List Arc) → length ((tests true p n (ways t true) ++ (xs ++ (back ∷ tests false p m (ways t false)))) ++ more) ≡
    test_edges t + length xs + 1 + length more
cycle_long t p n m back xs more =
    let trues = tests true p n (ways t true) in
    let falses = tests false p m (ways t false) in
    let e1 = tests-length true p n (ways t true) in
    let e2 = tests-length false p m (ways t false) in
    let c = ways_counted t in
    omega (arith, length-append (trues ++ (xs ++ (back ∷ falses))) more, length-append trues (xs ++ (back ∷ falses)), length-append xs (back ∷ falses))

test_has : (t : Condition) → 1 ≤ test_edges t
test_has test.Any = omega arith
test_has (test.All cs) = omega arith

-- as many points as numbers, no more of them than edges, and as many edges as the context rules count
pub record Counted (b : Block) (n : ℕ) (a : Piece) : Type 0 where
  pub points : a.next ≡ n + length a.places
  pub few : a.next ≤ n + length a.edges
  pub edges : length a.edges ≡ sum (map edges (stmts b))

pub counted : (b : Block) (p n : ℕ) → Counted b n (built b p n)
counted done p n = record { points = omega arith; few = omega arith; edges = refl }
counted (single place x more) p n =
    let h = counted more n (n + 1) in
    let h1 = h.points in
    let h2 = h.few in
    let h3 = h.edges in
    let e = single_counted place x in
    let s = sum_by-cons (λ z. z) (edges (single_stmt place x)) (map edges (stmts more)) in
    record { points = omega arith; few = omega arith; edges = omega arith }
counted (branch place t xs ys more) p n =
    let a = built xs n (n + 1) in
    let b = built ys a.next (a.next + 1) in
    let m = built more b.next (b.next + 1) in
    let x = roll-Stmt (stmt.If place t (stmts xs) (stmts ys)) in
    let f = counted xs n (n + 1) in
    let f1 = f.points in
    let f2 = f.few in
    let f3 = f.edges in
    let g = counted ys a.next (a.next + 1) in
    let g1 = g.points in
    let g2 = g.few in
    let g3 = g.edges in
    let h = counted more b.next (b.next + 1) in
    let h1 = h.points in
    let h2 = h.few in
    let h3 = h.edges in
    let e : edges x ≡ test_edges t + 2 + sum (map edges (stmts xs)) + sum (map edges (stmts ys)) = fold-roll-Stmt ℕ edges_step (stmt.If place t (stmts xs) (stmts ys)) in
    let s = sum_by-cons (λ z. z) (edges x) (map edges (stmts more)) in
    let all = branch_long t p n a.next a.edges b.edges (join_edges a.last b.last b.next) m.edges in
    let has = test_has t in
    let places = place ∷ (b.places ++ (place ∷ [])) in
    let long = length-append (place ∷ (a.places ++ places)) m.places in
    let long_a = length-append a.places places in
    let long_b = length-append b.places (place ∷ []) in
    record { points = omega arith; few = omega arith; edges = omega arith }
counted (cycle place t tried xs more) p n =
    let a = built xs n (n + 1) in
    let m = built more a.next (a.next + 1) in
    let x = roll-Stmt (stmt.While place t tried (stmts xs)) in
    let f = counted xs n (n + 1) in
    let f1 = f.points in
    let f2 = f.few in
    let f3 = f.edges in
    let h = counted more a.next (a.next + 1) in
    let h1 = h.points in
    let h2 = h.few in
    let h3 = h.edges in
    let e : edges x ≡ test_edges t + 1 + sum (map edges (stmts xs)) = fold-roll-Stmt ℕ edges_step (stmt.While place t tried (stmts xs)) in
    let s = sum_by-cons (λ z. z) (edges x) (map edges (stmts more)) in
    let all = cycle_long t p n a.next (arc a.last p (Test [])) a.edges m.edges in
    let has = test_has t in
    let long = length-append (place ∷ (a.places ++ (place ∷ []))) m.places in
    let long_a = length-append a.places (place ∷ []) in
    record { points = omega arith; few = omega arith; edges = omega arith }

-- no rule leaves a number below the one that it began with
pub rules_grow : (ss : List Stmt) (p n : ℕ) → n ≤ (rules ss p n).next
rules_grow ss p n =
    let b = tree ss in
    let h = (counted b.0 p n).points in
    let e = ap (λ (z : List Stmt). (rules z p n).next) (sym b.1) ∙ ap (λ (z : Piece). z.next) (rules_are b.0 p n) in
    omega arith
