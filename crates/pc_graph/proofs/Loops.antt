-- The marks of a program's graph.
use Rattle.std.proofs.Common.{◌≡◌, ℕ, zero, suc, ◌+◌, ◌<◌, ◌==◌, List, [], ◌∷◌, ◌++◌, Bool, true, false, cond, refl, sym, ap, subst, ◌∙◌, arith, inl, inr, Some, slice_get}
use Rattle.std.specs.Prelude.{◌⊎◌, ◌||◌}
use Rattle.std.specs.List.{AllByRecursion as Each, list_any}
use Rattle.std.proofs.lemmas.Bool.Decides.{eqb_tells}
use Rattle.pc_text.specs.declared.place.Place.{Place}
use Rattle.pc_rows.specs.Linear.{Linear}
use Rattle.pc_rows.proofs.Joining.{each_join}
use Rattle.pc_program.specs.declared.program.Program.{Program}
use Rattle.pc_program.specs.declared.tree.Stmt.{Stmt, roll-Stmt}
use Rattle.pc_program.specs.declared.tree.Stmt.TheOpen as stmt
use Rattle.pc_flow.specs.declared.point.PointInfo.{PointInfo}
use Rattle.pc_flow.specs.declared.what.What.{What}
use Rattle.pc_flow.specs.Arc.{Arc}
use Rattle.pc_flow.specs.Incidence.{leaving}
use Rattle.pc_flow.specs.Lists.{In}
use Rattle.pc_flow.specs.Shape.{IsHead, IsCheck, IsAloneIfCheck, LeadsUp}
use Rattle.pc_flow.proofs.Lists.{each_at, each_of_members}
use Rattle.pc_graph.specs.declared.draft.Loop.{Loop}
use Rattle.pc_graph.specs.Lowering.{Piece, graph, made, point_at, points_from, tried_at, tests}
use Rattle.pc_graph.specs.Marks.{LeadsOn, IsLoopAt, LoopsAreMarked}
use Rattle.pc_graph.specs.Rest.{rest}
use Rattle.pc_graph.specs.Straight.{ChecksStandAlone}
use Rattle.pc_graph.specs.Ways.{ways}
use Rattle.pc_graph.proofs.Blocks.{Block, done, single, branch, cycle, stmts, built}
use Rattle.pc_graph.proofs.Graphs.{graph_kept, head_point, points-length}
use Rattle.pc_graph.proofs.Listed.{Listed, begins, body_of, made_is, program_listed}
use Rattle.pc_graph.proofs.Outs.{Outs}
use Rattle.pc_graph.proofs.Whole.{HeadIn, IsKnownOf, known, body_outs}

-- the point with number b + q
point_there : (loops : List Loop) (b : ℕ) (places : List Place) (q : ℕ) (point : PointInfo) → slice_get (points_from loops b places) q ≡ Some point →
    (place : Place) × (point ≡ point_at loops (b + q) place)
point_there loops b [] q point got = absurd (cc)
point_there loops b (place ∷ places) zero point got = let e : b ≡ b + zero = omega arith in (place, cc)
point_there loops b (place ∷ places) (suc q) point got =
    let h = point_there loops (b + 1) places q point got in
    let e : b + 1 + q ≡ b + suc q = omega arith in
    (h.0, h.1 ∙ ap (λ (m : ℕ). point_at loops m h.0) e)

-- a loop whose head the point is, with the rows that it tries
loop_there : (loops : List Loop) (q : ℕ) → list_any (λ l. l.head == q) loops ≡ true → (l : Loop) × In l loops × (l.head ≡ q) × (tried_at loops q ≡ l.tried)
loop_there [] q h = absurd (cc)
loop_there (l ∷ loops) q h = by (l.head == q) (eqb_tells l.head q) h (λ h. loop_there loops q h) refl
  where
    by : (b : Bool) → ((b ≡ true) × (l.head ≡ q)) ⊎ ((b ≡ false) × (l.head ≡ q → ⊥)) → (b || list_any (λ l. l.head == q) loops) ≡ true →
        (list_any (λ l. l.head == q) loops ≡ true → (l : Loop) × In l loops × (l.head ≡ q) × (tried_at loops q ≡ l.tried)) → (l.head == q) ≡ b →
        (m : Loop) × In m (l ∷ loops) × (m.head ≡ q) × (cond b l.tried (tried_at loops q) ≡ m.tried)
    by true (inl k) h go is = (l, inl refl, k.1, refl)
    by true (inr k) h go is = absurd (cc)
    by false k h go is = let r = go h in (r.0, inr r.1, r.2, r.3)

none_tried : (loops : List Loop) (q : ℕ) → list_any (λ l. l.head == q) loops ≡ false → tried_at loops q ≡ []
none_tried [] q h = refl
none_tried (l ∷ loops) q h = by (l.head == q) h (λ h. none_tried loops q h)
  where
    by : (b : Bool) → (b || list_any (λ l. l.head == q) loops) ≡ false → (list_any (λ l. l.head == q) loops ≡ false → tried_at loops q ≡ []) →
        cond b l.tried (tried_at loops q) ≡ []
    by true h go = absurd (cc)
    by false h go = go h

others_none : (loops : List Loop) (b : ℕ) (places : List Place) → Each (λ point. point.head ≡ false → point.tried ≡ []) (points_from loops b places)
others_none loops b [] = tt
others_none loops b (place ∷ places) = (none_tried loops b, others_none loops (b + 1) places)

-- what holds of the edges that leave a point
of_leaving : (P : Arc → Type 0) (q : ℕ) (es : List Arc) → Each P (leaving q es) → Each (λ e. e.from ≡ q → P e) es
of_leaving P q [] h = tt
of_leaving P q (e ∷ es) h = by (e.from == q) (eqb_tells e.from q) h (λ k. of_leaving P q es k)
  where
    by : (b : Bool) → ((b ≡ true) × (e.from ≡ q)) ⊎ ((b ≡ false) × (e.from ≡ q → ⊥)) → Each P (cond b (e ∷ leaving q es) (leaving q es)) →
        (Each P (leaving q es) → Each (λ e. e.from ≡ q → P e) es) → Each (λ e. e.from ≡ q → P e) (e ∷ es)
    by true k h go = ((λ same. h.0), go h.1)
    by false (inl k) h go = absurd (cc)
    by false (inr k) h go = ((λ same. absurd (k.1 same)), go h)

module _ (ρ : ℕ → List Stmt) (g : List Arc) where
  into_body : (p q : ℕ) (ws : List (List Linear)) (round after : List Stmt) → p < q → ρ q ≡ round → Each (λ e. LeadsOn ρ round after e.body e) (tests true p q ws)
  into_body p q [] round after lt is = tt
  into_body p q (w ∷ ws) round after lt is = ((lt, is), into_body p q ws round after lt is)

  past : (p q : ℕ) (ws : List (List Linear)) (round after : List Stmt) → ρ q ≡ after → Each (λ e. LeadsOn ρ round after e.body e) (tests false p q ws)
  past p q [] round after is = tt
  past p q (w ∷ ws) round after is = (is, past p q ws round after is)

  abbrev LoopIn : Loop → Type 0
  LoopIn l = IsLoopAt ρ g l.head l.tried

  loops_at : (b : Block) (p : ℕ) (k : List Stmt) → Listed ρ b p k → Outs g b p → Each LoopIn (built b p (p + 1)).loops
  loops_at done p k l o = tt
  loops_at (single place x more) p k l o = loops_at more (p + 1) k l.1 o.1
  loops_at (branch place t xs ys more) p k l o =
      let rest = stmts more ++ k in
      let a = built xs (p + 1) (p + 1 + 1) in
      let b = built ys a.next (a.next + 1) in
      each_join LoopIn (a.loops ++ b.loops) _ (each_join LoopIn a.loops b.loops (loops_at xs (p + 1) rest l.1 o.1) (loops_at ys a.next rest l.2 o.3)) (loops_at more b.next k l.3 o.5)
  loops_at (cycle place t tried xs more) p k l o =
      let rest = stmts more ++ k in
      let again = roll-Stmt (stmt.While place t tried (stmts xs)) ∷ rest in
      let a = built xs (p + 1) (p + 1 + 1) in
      let Leads = λ (e : Arc). LeadsOn ρ (stmts xs ++ again) rest e.body e in (
        record {
          place = place;
          test = t;
          hints = tried;
          body = stmts xs;
          after = rest;
          here = l.0;
          tries = refl;
          leads = of_leaving Leads p g (subst (λ (es : List Arc). Each Leads es) (sym o.0)
              (each_join Leads (tests true p (p + 1) (ways t true)) _ (into_body p (p + 1) (ways t true) (stmts xs ++ again) rest (omega arith) (begins ρ xs (p + 1) again l.1))
              (past p a.next (ways t false) (stmts xs ++ again) rest (begins ρ more a.next k l.2))));
        },
        each_join LoopIn a.loops _ (loops_at xs (p + 1) again l.1 o.1) (loops_at more a.next k l.2 o.3),
      )

module _ (p : Program) where
  heads : (q : ℕ) (point : PointInfo) → slice_get (graph p).points q ≡ Some point → point.head ≡ true → IsLoopAt (rest p) (graph p).edges q point.tried
  heads q point got is_head =
      let there = point_there (made p).loops 0 (p.place ∷ p.place ∷ (made p).places) q point got in
      let e : 0 + q ≡ q = omega arith in
      let at_q = there.1 ∙ ap (λ (m : ℕ). point_at (made p).loops m there.0) e in
      let l = loop_there (made p).loops q (sym (ap (λ (z : PointInfo). z.head) at_q) ∙ is_head) in
      let all = subst (λ (z : Piece). Each (LoopIn (rest p) (graph p).edges) z.loops) (sym (made_is p)) (loops_at (rest p) (graph p).edges (body_of p) 1 [] (program_listed p) (body_outs p)) in
      subst (λ (rows : List Linear). IsLoopAt (rest p) (graph p).edges q rows) (sym (ap (λ (z : PointInfo). z.tried) at_q ∙ l.3))
      (subst (λ (m : ℕ). IsLoopAt (rest p) (graph p).edges m l.0.tried) l.2 (each_at (LoopIn (rest p) (graph p).edges) (made p).loops l.0 all l.1))

  begins_loop : (e : Arc) → IsKnownOf p e → e.body ≡ true → HeadIn (made p).loops e.from
  begins_loop e (inl h) body = let k = h.unmarked in absurd (cc)
  begins_loop e (inr (inl h)) body = let k = h.unmarked in absurd (cc)
  begins_loop e (inr (inr h)) body = h.marks body

  body_leaves_head : (e : Arc) → In e (graph p).edges → e.body ≡ true → IsHead (graph p).points e.from
  body_leaves_head e m body =
      let places = p.place ∷ p.place ∷ (made p).places in
      let leaves = (each_at (LeadsUp (graph p).points (graph p).variables) (graph p).edges e (graph_kept p).leads m).leaves in
      let long = points-length (made p).loops 0 places in
      head_point (made p).loops 0 places e.from e.from (omega arith) (omega (arith, leaves, long)) (by m)
    where
      by : In e (graph p).edges → HeadIn (made p).loops e.from
      by (inl same) = let k = ap (λ (x : Arc). x.body) same in absurd (cc)
      by (inr m) = begins_loop e (known p e m) body

  alone : (e : Arc) → IsKnownOf p e → IsAloneIfCheck (graph p).edges e
  alone e (inl h) check = h.only
  alone e (inr (inl h)) check = h.only
  alone e (inr (inr h)) check = absurd (subst (λ (w : What). IsCheck w) h.what check)

  alone_at : (e : Arc) → In e (graph p).edges → IsAloneIfCheck (graph p).edges e
  alone_at e (inl same) = subst (IsAloneIfCheck (graph p).edges) (sym same) (λ check. absurd check)
  alone_at e (inr m) = alone e (known p e m)

pub loops_are_marked : LoopsAreMarked
loops_are_marked p = record {
  heads = heads p;
  marked = each_of_members (λ e. e.body ≡ true → IsHead (graph p).points e.from) (graph p).edges (body_leaves_head p);
  others = others_none (made p).loops 0 (p.place ∷ p.place ∷ (made p).places);
}

pub checks_stand_alone : ChecksStandAlone
checks_stand_alone p = each_of_members (IsAloneIfCheck (graph p).edges) (graph p).edges (alone_at p)
