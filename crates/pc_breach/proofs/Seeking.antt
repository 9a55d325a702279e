-- The places that are sought in a program, and what a program is without them.
use Rattle.std.proofs.Common.{◌≡◌, ◌∙◌, ℕ, ◌+◌, ℤ, List, [], ◌∷◌, ◌++◌, map, length, refl, sym, ap, subst, Bool, true, false, Option, Some, None}
use Rattle.std.specs.Prelude.{◌&&◌, ◌↔◌, is_none}
use Rattle.std.specs.List.{AllByRecursion as Each}
use Rattle.std.proofs.lemmas.Bool.{and_parts, and_from}
use Rattle.pc_text.specs.declared.place.Place.{Place}
use Rattle.pc_language.specs.declared.choice.Choice.{Choice}
use Rattle.pc_language.specs.Ends.{end_of}
use Rattle.pc_rows.specs.Linear.{Linear}
use Rattle.pc_rows.proofs.Joining.{each_join}
use Rattle.pc_program.specs.Forms.{rows_all}
use Rattle.pc_program.specs.Loops.{first}
use Rattle.pc_program.specs.declared.tree.Compare.{Compare}
use Rattle.pc_program.specs.declared.tree.Test.{Test as Condition}
use Rattle.pc_program.specs.declared.tree.Test.TheVariants as test
use Rattle.pc_program.specs.declared.tree.Stmt.{Stmt, fold-roll-Stmt}
use Rattle.pc_program.specs.declared.tree.Stmt.TheVariants.{If, rolls-If}
use Rattle.pc_program.specs.declared.tree.Stmt.TheOpen as stmt
use Rattle.pc_program.proofs.Stmts.{by_stmt, all_by}
use Rattle.pc_flow.specs.declared.what.What.TheVariants.{Test, Check}
use Rattle.pc_flow.specs.Arc.{Arc, arc}
use Rattle.pc_flow.specs.Exact.{NoRows, StraightEdge}
use Rattle.pc_flow.proofs.Lists.{each_more, none_joined}
use Rattle.pc_graph.specs.Lowering.{Rule, one, assigned, low_end, high_end, tests, join_edges, rule, rule_step, rules, graph}
use Rattle.pc_graph.specs.Straight.{is_any, straight_step, is_straight, are_straight}
use Rattle.pc_graph.specs.Ways.{ways}
use Rattle.pc_graph.proofs.LoopFree.{loop_free_graphs}
use Rattle.pc_graph.proofs.StraightLoops.{straight_is_loop_free}
use Rattle.pc_graph.proofs.Straights.{straight_graphs}
use Rattle.pc_graph.proofs.Unrolled.{rule-if, rule-while}
use Rattle.pc_breach.specs.declared.sought.Sought.{Sought}
use Rattle.pc_breach.specs.declared.sought.Sought.TheVariants.{Bend, OpenEnd}
use Rattle.pc_breach.specs.Graphs.{IsClosed}
use Rattle.pc_breach.specs.Sought.{open_between, open_end, in_test, places_step, places, places_of, bends, open_ends, PlacesAreMeant}

-- ---- the first place of an `if`

places-if : (w : Sought) (x : Stmt) (p : Place) (t : Condition) (xs ys : List Stmt) → x ≡ If p t xs ys → places w x ≡ in_test w p t ++ (places_of w xs ++ places_of w ys)
places-if w x p t xs ys e = ap (places w) (e ∙ sym (rolls-If p t xs ys)) ∙ fold-roll-Stmt (List Place) (places_step w) (stmt.If p t xs ys)

first-left : (ps qs : List Place) (place : Place) → Some place ≡ first ps → Some place ≡ first (ps ++ qs)
first-left [] qs place h = cc
first-left (p ∷ ps) qs place h = h

first-right : (ps qs : List Place) → None ≡ first ps → first qs ≡ first (ps ++ qs)
first-right [] qs h = refl
first-right (p ∷ ps) qs h = cc

pub found_first : (w : Sought) (x : Stmt) (p : Place) (t : Condition) (xs ys list : List Stmt) (place : Place) → x ≡ If p t xs ys → None ≡ first (in_test w p t) → list ≡ xs →
    Some place ≡ first (places_of w list) → Some place ≡ first (places w x)
found_first w x p t xs ys list place e none same h =
    first-left (places_of w xs) (places_of w ys) place (h ∙ ap (λ (z : List Stmt). first (places_of w z)) same)
    ∙ first-right (in_test w p t) (places_of w xs ++ places_of w ys) none ∙ ap first (sym (places-if w x p t xs ys e))

pub found_second : (w : Sought) (x : Stmt) (p : Place) (t : Condition) (xs ys list more : List Stmt) (found : Option Place) → x ≡ If p t xs ys → None ≡ first (in_test w p t) → list ≡ xs →
    None ≡ first (places_of w list) → more ≡ ys → found ≡ first (places_of w more) → found ≡ first (places w x)
found_second w x p t xs ys list more found e none same nothing also h =
    h ∙ ap (λ (z : List Stmt). first (places_of w z)) also
    ∙ first-right (places_of w xs) (places_of w ys) (nothing ∙ ap (λ (z : List Stmt). first (places_of w z)) same)
    ∙ first-right (in_test w p t) (places_of w xs ++ places_of w ys) none ∙ ap first (sym (places-if w x p t xs ys e))

-- ---- without bends a program is straight

abbrev BendsBy : Bool → List Place → Type 0
BendsBy b ps = (b ≡ true) ↔ (ps ≡ [])

abbrev BendsOne : Stmt → Type 0
BendsOne x = BendsBy (is_straight x) (places Bend x)

bends_by : (b c : Bool) (ps qs : List Place) → b ≡ c → ps ≡ qs → BendsBy c qs → BendsBy b ps
bends_by b c ps qs eb ep h = (λ e. ep ∙ h.0 (sym eb ∙ e), λ e. eb ∙ h.1 (sym ep ∙ e))

left_none : (ps qs : List Place) → (ps ++ qs) ≡ [] → ps ≡ []
left_none [] qs e = refl
left_none (p ∷ ps) qs e = cc

right_none : (ps qs : List Place) → (ps ++ qs) ≡ [] → qs ≡ []
right_none [] qs e = e
right_none (p ∷ ps) qs e = cc

both_bend : (b c : Bool) (ps qs : List Place) → BendsBy b ps → BendsBy c qs → BendsBy (b && c) (ps ++ qs)
both_bend b c ps qs h k = (
  (λ e. let ok = and_parts b c e in none_joined ps qs (h.0 ok.0) (k.0 ok.1)),
  (λ e. and_from b c (h.1 (left_none ps qs e)) (k.1 (right_none ps qs e))),
)

list_bends : (ss : List Stmt) → Each BendsOne ss → BendsBy (are_straight ss) (places_of Bend ss)
list_bends [] all = (λ e. refl, λ e. refl)
list_bends (x ∷ ss) all = both_bend (is_straight x) (are_straight ss) (places Bend x) (places_of Bend ss) all.0 (list_bends ss all.1)

test_bends : (p : Place) (t : Condition) → BendsBy (is_any t) (in_test Bend p t)
test_bends p test.Any = (λ e. refl, λ e. refl)
test_bends p (test.All cs) = (λ e. absurd (cc), λ e. absurd (cc))

bends_one : (x : Stmt) → BendsOne x
bends_one x = by_stmt BendsOne
    (λ p v r. bends_by _ true _ [] (fold-roll-Stmt Bool straight_step (stmt.Set p v r)) (fold-roll-Stmt (List Place) (places_step Bend) (stmt.Set p v r)) (λ e. refl, λ e. refl))
    (λ p t xs ys hx hy. bends_by _ (is_any t && (are_straight xs && are_straight ys)) _ (in_test Bend p t ++ (places_of Bend xs ++ places_of Bend ys))
    (fold-roll-Stmt Bool straight_step (stmt.If p t xs ys)) (fold-roll-Stmt (List Place) (places_step Bend) (stmt.If p t xs ys))
    (both_bend (is_any t) (are_straight xs && are_straight ys) (in_test Bend p t) (places_of Bend xs ++ places_of Bend ys) (test_bends p t)
    (both_bend (are_straight xs) (are_straight ys) (places_of Bend xs) (places_of Bend ys) (list_bends xs hx) (list_bends ys hy))))
    (λ p t tried xs hx. bends_by _ false _ (p ∷ places_of Bend xs) (fold-roll-Stmt Bool straight_step (stmt.While p t tried xs)) (fold-roll-Stmt (List Place) (places_step Bend) (stmt.While p t tried xs))
    (λ e. absurd (cc), λ e. absurd (cc)))
    (λ p cs. bends_by _ true _ [] (fold-roll-Stmt Bool straight_step (stmt.Assert p cs)) (fold-roll-Stmt (List Place) (places_step Bend) (stmt.Assert p cs)) (λ e. refl, λ e. refl))
    (λ p cs. bends_by _ false _ (p ∷ []) (fold-roll-Stmt Bool straight_step (stmt.Assume p cs)) (fold-roll-Stmt (List Place) (places_step Bend) (stmt.Assume p cs)) (λ e. absurd (cc), λ e. absurd (cc)))
    x

-- ---- without open ends each edge is closed

abbrev AllClosed : List Arc → Type 0
AllClosed edges = Each (λ e. IsClosed e.what) edges

abbrev ClosedBy : List Place → Rule → Type 0
ClosedBy ps l = (p n : ℕ) → ps ≡ [] → AllClosed (l p n).edges

abbrev ClosedOne : Stmt → Type 0
ClosedOne x = ClosedBy (places OpenEnd x) (rule x)

closed_by : (ps qs : List Place) (l m : Rule) → ps ≡ qs → l ≡ m → ClosedBy qs m → ClosedBy ps l
closed_by ps qs l m ep el h = subst (λ (z : List Place). ClosedBy z l) (sym ep) (subst (λ (z : Rule). ClosedBy qs z) (sym el) h)

list_closed : (ss : List Stmt) → Each ClosedOne ss → ClosedBy (places_of OpenEnd ss) (rules ss)
list_closed [] all p n e = tt
list_closed (x ∷ ss) all p n e =
    let a = rule x p n in
    let b = rules ss a.last a.next in
    each_join (λ e. IsClosed e.what) a.edges b.edges (all.0 p n (left_none (places OpenEnd x) (places_of OpenEnd ss) e)) (list_closed ss all.1 a.last a.next (right_none (places OpenEnd x) (places_of OpenEnd ss) e))

tests_closed : (body : Bool) (p q : ℕ) (ws : List (List Linear)) → AllClosed (tests body p q ws)
tests_closed body p q [] = tt
tests_closed body p q (w ∷ ws) = (tt, tests_closed body p q ws)

between_closed : (place : Place) (lo hi : Option ℤ) → open_between place lo hi ≡ [] → (is_none lo ≡ false) × (is_none hi ≡ false)
between_closed place (Some lo) (Some hi) e = (refl, refl)
between_closed place (Some lo) None e = absurd (cc)
between_closed place None hi e = absurd (cc)

choice_closed : (c : Option Choice) → open_end c ≡ [] → (is_none (end_of (low_end c)) ≡ false) × (is_none (end_of (high_end c)) ≡ false)
choice_closed None e = (refl, refl)
choice_closed (Some c) e = between_closed c.place (end_of c.lo) (end_of c.hi) e

no_test : (p : Place) (t : Condition) → in_test OpenEnd p t ≡ []
no_test p test.Any = refl
no_test p (test.All cs) = refl

split_closed : (place : Place) (t : Condition) (xs ys : List Stmt) → ClosedBy (places_of OpenEnd xs) (rules xs) → ClosedBy (places_of OpenEnd ys) (rules ys) →
    ClosedBy (in_test OpenEnd place t ++ (places_of OpenEnd xs ++ places_of OpenEnd ys)) (rule_step (stmt.If place t (map rule xs) (map rule ys)))
split_closed place t xs ys hx hy p n e =
    let IsIt = λ (e : Arc). IsClosed e.what in
    let inner = right_none (in_test OpenEnd place t) (places_of OpenEnd xs ++ places_of OpenEnd ys) e in
    let a = rules xs n (n + 1) in
    let b = rules ys a.next (a.next + 1) in
    let joins = join_edges a.last b.last b.next in
    each_join IsIt (tests false p n (ways t true)) (a.edges ++ (tests false p a.next (ways t false) ++ (b.edges ++ joins))) (tests_closed false p n (ways t true))
    (each_join IsIt a.edges (tests false p a.next (ways t false) ++ (b.edges ++ joins)) (hx n (n + 1) (left_none (places_of OpenEnd xs) (places_of OpenEnd ys) inner))
    (each_join IsIt (tests false p a.next (ways t false)) (b.edges ++ joins) (tests_closed false p a.next (ways t false))
    (each_join IsIt b.edges joins (hy a.next (a.next + 1) (right_none (places_of OpenEnd xs) (places_of OpenEnd ys) inner)) (tt, (tt, tt)))))

loop_closed : (place : Place) (t : Condition) (tried : List Compare) (xs : List Stmt) → ClosedBy (places_of OpenEnd xs) (rules xs) →
    ClosedBy (places_of OpenEnd xs) (rule_step (stmt.While place t tried (map rule xs)))
loop_closed place t tried xs hx p n e =
    let IsIt = λ (e : Arc). IsClosed e.what in
    let a = rules xs n (n + 1) in
    let exits = tests false p a.next (ways t false) in
    each_join IsIt (tests true p n (ways t true)) (a.edges ++ (arc a.last p (Test []) ∷ exits)) (tests_closed true p n (ways t true))
    (each_join IsIt a.edges (arc a.last p (Test []) ∷ exits) (hx n (n + 1) e) (tt, tests_closed false p a.next (ways t false)))

closed_one : (x : Stmt) → ClosedOne x
closed_one x = by_stmt ClosedOne
    (λ p v r. closed_by _ (open_end r.choice) _ (one p (assigned v r)) (fold-roll-Stmt (List Place) (places_step OpenEnd) (stmt.Set p v r)) (fold-roll-Stmt Rule rule_step (stmt.Set p v r))
    (λ q n e. (choice_closed r.choice e, tt)))
    (λ p t xs ys hx hy. closed_by _ (in_test OpenEnd p t ++ (places_of OpenEnd xs ++ places_of OpenEnd ys)) _ (rule_step (stmt.If p t (map rule xs) (map rule ys)))
    (fold-roll-Stmt (List Place) (places_step OpenEnd) (stmt.If p t xs ys)) (rule-if p t xs ys) (split_closed p t xs ys (list_closed xs hx) (list_closed ys hy)))
    (λ p t tried xs hx. closed_by _ (places_of OpenEnd xs) _ (rule_step (stmt.While p t tried (map rule xs)))
    (fold-roll-Stmt (List Place) (places_step OpenEnd) (stmt.While p t tried xs)) (rule-while p t tried xs) (loop_closed p t tried xs (list_closed xs hx)))
    (λ p cs. closed_by _ [] _ (one p (Check (rows_all cs))) (fold-roll-Stmt (List Place) (places_step OpenEnd) (stmt.Assert p cs)) (fold-roll-Stmt Rule rule_step (stmt.Assert p cs)) (λ q n e. (tt, tt)))
    (λ p cs. closed_by _ [] _ (one p (Test (rows_all cs))) (fold-roll-Stmt (List Place) (places_step OpenEnd) (stmt.Assume p cs)) (fold-roll-Stmt Rule rule_step (stmt.Assume p cs)) (λ q n e. (tt, tt)))
    x

-- ---- the program

first_none : (ps : List Place) → first ps ≡ None → ps ≡ []
first_none [] e = refl
first_none (p ∷ ps) e = absurd (cc)

pub places_are_meant : PlacesAreMeant
places_are_meant p =
    let bend = list_bends p.body (all_by BendsOne bends_one p.body) in
    record {
      straight = (λ none. bend.1 (first_none (bends p) none), λ str. ap first (bend.0 str));
      fit = λ none closed.
          let str = bend.1 (first_none (bends p) none) in
          let g = graph p in
          record {
            heads = loop_free_graphs p (straight_is_loop_free p str);
            tests = each_more (StraightEdge (length g.points) g.variables) (λ e. NoRows e.what) (λ e k. k.free) g.edges (straight_graphs p str);
            ends = (tt, list_closed p.body (all_by ClosedOne closed_one p.body) 1 2 (first_none (open_ends p) closed));
          };
    }
