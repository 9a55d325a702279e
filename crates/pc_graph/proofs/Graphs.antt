-- The graph of a program keeps what every graph keeps.
use Rattle.std.proofs.Common.{◌≡◌, ◌≢◌, ℕ, ◌+◌, ◌<◌, ◌≤◌, ◌^◌, zero, suc, List, [], ◌∷◌, length, false, refl, sym, ap, subst, ◌∙◌, arith, map, inl, inr}
use Rattle.std.specs.Prelude.{◌⊎◌, ◌==◌, sum}
use Rattle.std.specs.List.{AllByRecursion as Each, list_any}
use Rattle.std.proofs.lemmas.Bool.Decides.{nat_tests}
use Rattle.std.proofs.lemmas.Bool.{or_from}
use Rattle.pc_text.specs.declared.place.Place.{Place}
use Rattle.pc_rows.specs.Linear.{IsOver}
use Rattle.pc_program.specs.declared.program.Program.{Program}
use Rattle.pc_program.specs.declared.tree.Stmt.{Stmt}
use Rattle.pc_program.specs.Sane.{edges}
use Rattle.pc_graph.specs.declared.draft.Loop.{Loop}
use Rattle.pc_flow.specs.declared.point.PointInfo.{PointInfo}
use Rattle.pc_flow.specs.Arc.{Arc}
use Rattle.pc_flow.specs.Flow.{Flow}
use Rattle.pc_flow.specs.Lists.{In}
use Rattle.pc_flow.specs.Shape.{IsHead, LeadsUp, IsGraph}
use Rattle.pc_flow.proofs.Lists.{each_more, each_of_members}
use Rattle.pc_graph.specs.Drawn.{Drawn, extended, entered}
use Rattle.pc_graph.specs.Lowering.{Piece, rules, made, graph, points_from}
use Rattle.pc_graph.proofs.Blocks.{spans}
use Rattle.pc_graph.proofs.Counts.{counted}
use Rattle.pc_graph.proofs.Listed.{body_of, body_is, made_is}
use Rattle.pc_graph.proofs.Outs.{From}
use Rattle.pc_graph.proofs.Shapes.{IsLoop, loops_over, edge_over, edge_rises}
use Rattle.pc_graph.proofs.Variables.{points_over}
use Rattle.pc_graph.proofs.Whole.{HeadIn, keeps, body_sane, edges_ranged, known, between}

-- ---- points

pub points-length : (loops : List Loop) (b : ℕ) (places : List Place) → length (points_from loops b places) ≡ length places
points-length loops b [] = refl
points-length loops b (place ∷ places) = let h = points-length loops (b + 1) places in omega arith

pub head_point : (loops : List Loop) (b : ℕ) (places : List Place) (q k : ℕ) → k ≡ b + q → q < length places → HeadIn loops k → IsHead (points_from loops b places) q
head_point loops b [] q k e lt h = absurd (omega arith)
head_point loops b (place ∷ places) zero k e lt h = let e' : k ≡ b = omega arith in subst (HeadIn loops) e' h
head_point loops b (place ∷ places) (suc q) k e lt h = head_point loops (b + 1) places q k (omega arith) (omega arith) h

apart_from : (n : ℕ) → 0 < n → (n == 0) ≡ false
apart_from n h = grind (arith, nat_tests)

-- no loop begins at the entry
no_head : (v : ℕ) (loops : List Loop) → Each (IsLoop v) loops → list_any (λ l. l.head == 0) loops ≡ false
no_head v [] h = refl
no_head v (l ∷ loops) h = or_from (l.head == 0) (list_any (λ l. l.head == 0) loops) (apart_from l.head h.0.away) (no_head v loops h.1)

-- ---- a program

-- what the rules make of it
pub record MadeShape (p : Program) : Type 0 where
  pub next : (made p).next ≡ (made p).last + 1
  pub points : (made p).next ≡ 2 + length (made p).places
  pub few : (made p).next ≤ 2 + length (made p).edges
  pub count : length (made p).edges ≡ sum (map edges p.body)
  pub loops : Each (IsLoop (length p.names.names)) (made p).loops

pub made_shape : (p : Program) → MadeShape p
made_shape p =
    let b = body_of p in
    let is = sym (made_is p) in
    let v = length p.names.names in
    record {
      next = subst (λ (z : Piece). z.next ≡ z.last + 1) is (spans b 1).next;
      points = subst (λ (z : Piece). z.next ≡ 2 + length z.places) is (counted b 1 2).points;
      few = subst (λ (z : Piece). z.next ≤ 2 + length z.edges) is (counted b 1 2).few;
      count = subst (λ (z : Piece). length z.edges ≡ sum (map edges p.body)) is ((counted b 1 2).edges ∙ ap (λ (z : List Stmt). sum (map edges z)) (body_is p));
      loops = subst (λ (z : Piece). Each (IsLoop v) z.loops) is (loops_over v b 1 (body_sane p) (omega arith));
    }

leads : (p : Program) (e : Arc) → In e (made p).edges → LeadsUp (graph p).points (graph p).variables e
leads p e m =
    let f = made_shape p in
    let f1 = f.next in
    let f2 = f.points in
    let same = points-length (made p).loops 0 (p.place ∷ p.place ∷ (made p).places) in
    let r = between p e m in
    let r1 = r.1 in
    let r3 = r.3 in
    record { leaves = omega arith; reaches = omega arith; rises = by (edge_rises p e (known p e m)); over = (edge_over p e (known p e m)).0 }
  where
    by : (e.from < e.to) ⊎ HeadIn (made p).loops e.to → (e.from < e.to) ⊎ IsHead (graph p).points e.to
    by (inl h) = inl h
    by (inr h) =
        let f = made_shape p in
        let f1 = f.next in
        let f2 = f.points in
        let places = p.place ∷ p.place ∷ (made p).places in
        let same = points-length (made p).loops 0 places in
        let reaches = (between p e m).3 in
        inr (head_point (made p).loops 0 places e.to e.to (omega arith) (omega arith) h)

pub graph_kept : (p : Program) → IsGraph (graph p)
graph_kept p =
    let v = length p.names.names in
    let k = keeps p in
    let a = made p in
    let f = made_shape p in
    let f1 = f.points in
    let f2 = f.few in
    let f3 = f.count in
    let k1 = k.edges in
    let places = p.place ∷ p.place ∷ a.places in
    let same = points-length a.loops 0 places in
    record {
      parameters = k.params;
      variables = k.variables;
      points = omega arith;
      edges = omega arith;
      tried = points_over v a.loops 0 places (each_more (IsLoop v) (λ l. Each (IsOver v) l.tried) (λ l h. h.over) a.loops f.loops);
      enters = refl;
      alone = each_more (From 1 a.last) (λ e. e.from ≢ 0) (λ e r h. let away = r.0 in omega arith) a.edges (edges_ranged p);
      entry = no_head v a.loops f.loops;
      leads = (
        record { leaves = omega arith; reaches = omega arith; rises = inl (omega arith); over = k.params },
        each_of_members (LeadsUp (graph p).points (graph p).variables) a.edges (leads p),
      );
    }

-- ---- what the code puts together

pub room : (p : Program) (list : List Stmt) (params : ℕ) (d : Drawn) → list ≡ p.body → d ≡ entered p.place params → (rules list d.at d.next).next < 2 ^ 32
room p list params d e ed =
    let k1 = (keeps p).edges in
    let f = made_shape p in
    let f2 = f.few in
    let count = f.count in
    rw (ed, e) (omega arith)

pub places_few : (p : Program) (list : List Stmt) (params : ℕ) (d g : Drawn) → list ≡ p.body → d ≡ entered p.place params → g ≡ extended d (rules list d.at d.next) →
    length g.places < 2 ^ 32
places_few p list params d g e ed made_by =
    let k1 = (keeps p).edges in
    let f = made_shape p in
    let f1 = f.points in
    let f2 = f.few in
    let count = f.count in
    rw (made_by, ed, e) (omega arith)

abbrev flow_of : ℕ → ℕ → List PointInfo → List Arc → Flow
flow_of params variables points edges = record { params = params; variables = variables; points = points; edges = edges }

-- the parts that the code puts together are those of the graph
pub graph_made : (p : Program) (list : List Stmt) (d g : Drawn) (params variables : ℕ) (loops : List Loop) (places : List Place) (points : List PointInfo) (edges : List Arc) →
    list ≡ p.body → params ≡ p.names.params → variables ≡ length p.names.names → d ≡ entered p.place params → g ≡ extended d (rules list d.at d.next) →
    loops ≡ g.loops → places ≡ g.places → edges ≡ g.edges → points ≡ points_from loops 0 places →
    ◌≡◌ {A = Flow} (record { params = params; variables = variables; points = points; edges = edges }) (graph p)
graph_made p list d g params variables loops places points edges e1 e2 e3 ed made_by el ep ee e4 =
    let n = p.names.params in
    let v = length p.names.names in
    let all = extended (entered p.place n) (rules p.body 1 2) in
    let whole : g ≡ all = made_by ∙ ap (λ (z : Drawn). extended z (rules list z.at z.next)) ed ∙ ap (λ (ss : List Stmt). extended (entered p.place params) (rules ss 1 2)) e1 ∙
    ap (λ (k : ℕ). extended (entered p.place k) (rules p.body 1 2)) e2 in
    let ps : points ≡ (graph p).points =
    e4 ∙ ap (λ (z : List Loop). points_from z 0 places) (el ∙ ap (λ (z : Drawn). z.loops) whole) ∙ ap (λ (z : List Place). points_from all.loops 0 z) (ep ∙ ap (λ (z : Drawn). z.places) whole) in
    ap (λ (k : ℕ). flow_of k variables points edges) e2 ∙ ap (λ (k : ℕ). flow_of n k points edges) e3 ∙ ap (λ (z : List PointInfo). flow_of n v z edges) ps ∙
    ap (λ (z : List Arc). flow_of n v (graph p).points z) (ee ∙ ap (λ (z : Drawn). z.edges) whole)
