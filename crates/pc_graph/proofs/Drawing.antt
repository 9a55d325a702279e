-- What the code of the rules makes is what the rules make.
use Rattle.std.proofs.Common.{◌≡◌, ℕ, ◌+◌, ◌<◌, ◌^◌, List, [], ◌∷◌, length, Bool, true, false, refl, sym, ap, subst, ◌∙◌, arith, map, drop, append_assoc, get_or}
use Rattle.std.specs.Prelude.{slice_get, Some}
use Rattle.std.specs.List.{list_all}
use Rattle.std.proofs.lemmas.Bool.{and_parts}
use Rattle.pc_text.specs.declared.place.Place.{Place}
use Rattle.pc_rows.specs.Linear.{Linear, negation}
use Rattle.pc_rows.proofs.Adding.{drop_at, drop_got}
use Rattle.pc_program.specs.Forms.{row_fits, rows_all}
use Rattle.pc_program.specs.Sane.{sane_stmt, sane_stmts}
use Rattle.pc_program.specs.declared.tree.Compare.{Compare}
use Rattle.pc_program.specs.declared.tree.Test.{Test as Condition}
use Rattle.pc_program.specs.declared.tree.Stmt.{Stmt}
use Rattle.pc_program.specs.declared.tree.Stmt.TheVariants.{If, While, rolls-If, rolls-While}
use Rattle.pc_program.specs.declared.tree.Stmt.TheOpen as stmt
use Rattle.pc_flow.specs.Arc.{marked}
use Rattle.pc_flow.specs.declared.what.What.TheVariants.{Test}
use Rattle.pc_graph.specs.Drawn.{Drawn, extended, with_edge, with_tests, branched, joined_at, turned, headed}
use Rattle.pc_graph.specs.Lowering.{rule, rule_step, rules}
use Rattle.pc_graph.specs.Ways.{apart, ways}
use Rattle.pc_graph.proofs.Counts.{rules_grow}
use Rattle.pc_graph.proofs.Unrolled.{rule-if, rule-while}

-- ---- an edge for the negation of each row

pub row_fits_at : (rows : List Linear) (i : ℕ) (r : Linear) → slice_get rows i ≡ Some r → list_all row_fits (drop i rows) ≡ true → row_fits r ≡ true
row_fits_at rows i r e h = (and_parts (row_fits r) (list_all row_fits (drop (i + 1) rows)) (sym (ap (list_all row_fits) (drop_got rows i r e)) ∙ h)).0

pub rows_fit_next : (rows : List Linear) (i : ℕ) (r : Linear) → slice_get rows i ≡ Some r → list_all row_fits (drop i rows) ≡ true →
    list_all row_fits (drop (i + 1) rows) ≡ true
rows_fit_next rows i r e h = (and_parts (row_fits r) (list_all row_fits (drop (i + 1) rows)) (sym (ap (list_all row_fits) (drop_got rows i r e)) ∙ h)).1

pub spread_next : (p q : ℕ) (rows alone : List Linear) (i : ℕ) (r row : Linear) (body : Bool) (g h : Drawn) → slice_get rows i ≡ Some r → row ≡ negation r → alone ≡ row ∷ [] →
    h ≡ with_edge (marked body p q (Test alone)) g → with_tests p q (apart (drop (i + 1) rows)) body h ≡ with_tests p q (apart (drop i rows)) body g
spread_next p q rows alone i r row body g h e neg one made = rw (made, one, neg, drop_got rows i r e) (simp append_assoc)

-- ---- statements

if_is : (place : Place) (t : Condition) (xs ys : List Stmt) → rule (If place t xs ys) ≡ rule_step (stmt.If place t (map rule xs) (map rule ys))
if_is place t xs ys = ap rule (sym (rolls-If place t xs ys)) ∙ rule-if place t xs ys

while_is : (place : Place) (t : Condition) (tried : List Compare) (xs : List Stmt) → rule (While place t tried xs) ≡ rule_step (stmt.While place t tried (map rule xs))
while_is place t tried xs = ap rule (sym (rolls-While place t tried xs)) ∙ rule-while place t tried xs

pub if_done : (place : Place) (t : Condition) (xs ys : List Stmt) (g g1 g2 g3 g4 g5 : Drawn) (p q : ℕ) → p ≡ g.at →
    g1 ≡ branched p place (ways t true) false g → g2 ≡ extended g1 (rules xs g1.at g1.next) → q ≡ g2.at →
    g3 ≡ branched p place (ways t false) false g2 → g4 ≡ extended g3 (rules ys g3.at g3.next) → g5 ≡ joined_at place q g4 →
    g5 ≡ extended g (rule (If place t xs ys) g.at g.next)
if_done place t xs ys g g1 g2 g3 g4 g5 p q ep h1 h2 hq h3 h4 h5 = rw (h5, h4, h3, hq, h2, h1, ep, if_is place t xs ys) (simp append_assoc)

pub while_done : (place : Place) (t : Condition) (tried : List Compare) (xs : List Stmt) (rows : List Linear) (g g0 g1 g2 g3 g4 : Drawn) (p : ℕ) →
    p ≡ g.at → rows ≡ rows_all tried → g0 ≡ headed rows g → g1 ≡ branched p place (ways t true) true g0 → g2 ≡ extended g1 (rules xs g1.at g1.next) →
    g3 ≡ turned p g2 → g4 ≡ branched p place (ways t false) false g3 → g4 ≡ extended g (rule (While place t tried xs) g.at g.next)
while_done place t tried xs rows g g0 g1 g2 g3 g4 p ep er h0 h1 h2 h3 h4 = rw (h4, h3, h2, h1, h0, er, ep, while_is place t tried xs) (simp append_assoc)

-- the numbers that an `if` needs: those of its first block are no greater than those of its second
if_next : (place : Place) (t : Condition) (xs ys : List Stmt) (p n : ℕ) →
    (rule (If place t xs ys) p n).next ≡ (rules ys (rules xs n (n + 1)).next ((rules xs n (n + 1)).next + 1)).next + 1
if_next place t xs ys p n = rw (if_is place t xs ys) refl

-- the room of an `if` is room for its points
pub if_rooms : (place : Place) (t : Condition) (xs ys : List Stmt) (p n : ℕ) → (rule (If place t xs ys) p n).next < 2 ^ 32 →
    (n < 4294967295) × ((rules xs n (n + 1)).next < 4294967295)
if_rooms place t xs ys p n room =
    let next = if_next place t xs ys p n in
    let first = rules xs n (n + 1) in
    let more = rules_grow xs n (n + 1) in
    let more2 = rules_grow ys first.next (first.next + 1) in
    (omega arith, omega arith)

-- and for its first block
pub then_room : (place : Place) (t : Condition) (xs ys : List Stmt) (g : Drawn) → (rule (If place t xs ys) g.at g.next).next < 2 ^ 32 →
    (rules xs g.next (g.next + 1)).next < 2 ^ 32
then_room place t xs ys g room = let h = (if_rooms place t xs ys g.at g.next room).1 in omega arith

pub while_room : (place : Place) (t : Condition) (tried : List Compare) (xs : List Stmt) (p n : ℕ) → (rule (While place t tried xs) p n).next < 2 ^ 32 → n < 4294967295
while_room place t tried xs p n room =
    let next : (rule (While place t tried xs) p n).next ≡ (rules xs n (n + 1)).next + 1 = rw (while_is place t tried xs) refl in
    let more = rules_grow xs n (n + 1) in
    omega arith

-- ---- a list of statements, of which the first are done

pub record Doing (n : ℕ) (list : List Stmt) (i : ℕ) (g0 g : Drawn) : Type 0 where
  pub so_far : extended g (rules (drop i list) g.at g.next) ≡ extended g0 (rules list g0.at g0.next)
  pub sane : sane_stmts n (drop i list) ≡ true
  pub room : (rules (drop i list) g.at g.next).next < 2 ^ 32

pub doing_next : (n : ℕ) (list : List Stmt) (i : ℕ) (x : Stmt) (g0 g h : Drawn) → i < length list → x ≡ get_or list i x →
    Doing n list i g0 g → h ≡ extended g (rule x g.at g.next) → Doing n list (i + 1) g0 h
doing_next n list i x g0 g h lt e d made =
    let step = drop_at list i x lt e in
    let P : List Stmt → Type 0 = λ k. extended g (rules k g.at g.next) ≡ extended g0 (rules list g0.at g0.next) in
    let Q : List Stmt → Type 0 = λ k. (rules k g.at g.next).next < 2 ^ 32 in
    let so_far = subst P step d.so_far in
    let room = subst Q step d.room in
    record {
      so_far = rw made (simp append_assoc so_far);
      sane = (and_parts (sane_stmt n x) (sane_stmts n (drop (i + 1) list)) (sym (ap (sane_stmts n) step) ∙ d.sane)).1;
      room = rw made room;
    }

pub doing_here : (n : ℕ) (list : List Stmt) (i : ℕ) (x : Stmt) (g0 g : Drawn) → i < length list → x ≡ get_or list i x →
    Doing n list i g0 g → (sane_stmt n x ≡ true) × ((rule x g.at g.next).next < 2 ^ 32)
doing_here n list i x g0 g lt e d =
    let step = drop_at list i x lt e in
    let Q : List Stmt → Type 0 = λ k. (rules k g.at g.next).next < 2 ^ 32 in
    let room = subst Q step d.room in
    let more = rules_grow (drop (i + 1) list) (rule x g.at g.next).last (rule x g.at g.next).next in (
      (and_parts (sane_stmt n x) (sane_stmts n (drop (i + 1) list)) (sym (ap (sane_stmts n) step) ∙ d.sane)).0,
      omega arith,
    )
