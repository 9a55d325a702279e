-- Runs of a program and walks through its graph.
use Rattle.std.proofs.Common.{◌≡◌, ℕ, zero, suc, ◌<◌, ◌≤◌, ℤ, pos, List, [], ◌∷◌, ◌++◌, length, refl, sym, ap, subst, ◌∙◌, arith, inl, inr, length-append}
use Rattle.std.specs.Prelude.{◌⊎◌}
use Rattle.std.proofs.Math.ListN.{get_or-eq_default}
use Rattle.pc_text.specs.declared.place.Place.{Place}
use Rattle.pc_text.specs.Named.{locals}
use Rattle.pc_rows.specs.Linear.{State, zero_from}
use Rattle.pc_rows.proofs.First.{zero_from_entry}
use Rattle.pc_program.specs.Machine.{Outcome, Going, Violated, Blocked, Ended, step, next, run, started}
use Rattle.pc_program.specs.declared.program.Program.{Program}
use Rattle.pc_program.specs.declared.tree.Stmt.{Stmt}
use Rattle.pc_flow.specs.Arc.{Arc, arc}
use Rattle.pc_flow.specs.declared.what.What.TheVariants.{Enter, Test}
use Rattle.pc_flow.specs.Lists.{In}
use Rattle.pc_flow.specs.Walk.{Pass, Keeps, Walks}
use Rattle.pc_flow.proofs.Entries.{to_start}
use Rattle.pc_flow.proofs.Lists.{each_at, each_more}
use Rattle.pc_graph.specs.Corresponds.{IsEntered, IsNoStep, IsStep, MayStand, SafeFrom, WalksAreSafe, StepsCorrespond, RestsAreSafe}
use Rattle.pc_graph.specs.Lowering.{Piece, graph, made, no_steps}
use Rattle.pc_graph.specs.Rest.{rest, rests_of}
use Rattle.pc_graph.specs.Straight.{are_straight}
use Rattle.pc_graph.proofs.Blocks.{spans}
use Rattle.pc_graph.proofs.Graphs.{graph_kept}
use Rattle.pc_graph.proofs.Listed.{body_of, body_is, made_is, program_listed, ends, counted, rests_are}
use Rattle.pc_graph.proofs.Running.{Fired, Fires, Simulates, fires, joins, simulates, order}
use Rattle.pc_graph.proofs.Steps.{Moves, Asks, is_no_step, is_step, moves, asks}
use Rattle.pc_graph.proofs.Whole.{HeadIn, IsJoinOf, IsKnownOf, body_sane, body_outs, joins_known, edges_known, known, between}

pub run_append : (cs ds : List ℤ) (o : Outcome) → run o (cs ++ ds) ≡ run (run o cs) ds
run_append [] ds o = refl
run_append (c ∷ cs) ds o = run_append cs ds (next o c)

violated_stays : (q : Place) (cs : List ℤ) → run (Violated q) cs ≡ Violated q
violated_stays q [] = refl
violated_stays q (c ∷ cs) = violated_stays q cs

blocked_stays : (q : Place) (cs : List ℤ) → run (Blocked q) cs ≡ Blocked q
blocked_stays q [] = refl
blocked_stays q (c ∷ cs) = blocked_stays q cs

ended_stays : (cs : List ℤ) → run Ended cs ≡ Ended
ended_stays [] = refl
ended_stays (c ∷ cs) = ended_stays cs

-- ---- over a graph with a list for each point, from a point and a state
module _ (g : List Arc) (ρ : ℕ → List Stmt) (q0 : ℕ) (s0 : State) where
  abbrev Reached : ℕ → State → Type 0
  Reached q t = (es : List Arc) × Walks g q0 s0 es q t

  -- what an outcome has: a walk
  abbrev Found : Outcome → Type 0
  Found (Going k t) = (q : ℕ) × Reached q t × (ρ q ≡ k)
  Found (Violated v) = (q : ℕ) × (t : State) × Reached q t × ((e : Arc) × In e g × (e.from ≡ q) × (Keeps e.what t → ⊥))
  Found (Blocked v) = Unit {0}
  Found Ended = Unit {0}

  further : (p : ℕ) (t u : State) (e : Arc) → Reached p t → In e g → e.from ≡ p → Pass e.what t u → Reached e.to u
  further p t u e r m from pass = (e ∷ r.0, (refl, m, (t, pass, subst (λ q. Walks g q0 s0 r.0 q t) (sym from) r.1)))

  -- to a point where each step has an edge
  advance : (p : ℕ) (t : State) → Simulates g ρ p → Reached p t → (q : ℕ) × Reached q t × (ρ q ≡ ρ p) × Fires g ρ q
  advance p t (fires f) r = (p, r, refl, f)
  advance p t (joins q m e sim) r =
      let z = advance q t sim (further p t t (arc p q (Test [])) r m refl (tt, refl)) in
      (z.0, z.1, z.2 ∙ sym e, z.3)

  module _ (all_simulate : (e : Arc) → In e g → Simulates g ρ e.to) where
    after : (cs : List ℤ) → ((p : ℕ) (t : State) → Simulates g ρ p → Reached p t → Found (run (Going (ρ p) t) cs)) →
        (q : ℕ) (t : State) → Reached q t → (o : Outcome) → Fired g ρ q t o → Found (run o cs)
    after cs go q t r (Going k u) f =
        subst (λ k. Found (run (Going k u) cs)) f.4 (go f.0.to u (all_simulate f.0 f.1) (further q t u f.0 r f.1 f.2 f.3))
    after cs go q t r (Violated v) f = subst Found (sym (violated_stays v cs)) (q, t, r, (f.0, f.1, f.2, f.3))
    after cs go q t r (Blocked v) f = subst Found (sym (blocked_stays v cs)) tt
    after cs go q t r Ended f = subst Found (sym (ended_stays cs)) tt

    forward : (cs : List ℤ) (p : ℕ) (t : State) → Simulates g ρ p → Reached p t → Found (run (Going (ρ p) t) cs)
    forward [] p t sim r = (p, r, refl)
    forward (c ∷ cs) p t sim r =
        let z = advance p t sim r in
        subst (λ k. Found (run (step k t c) cs)) z.2 (after cs (forward cs) z.0 t z.1 (step (ρ z.0) t c) (z.3 t c))

  -- what is needed of each edge of a walk: no step, or one by some choice
  module _ (sound : (e : Arc) → In e g → (es : List Arc) (s t : State) → Walks g q0 s0 es e.from s → Pass e.what s t → Moves (ρ e.from) s (ρ e.to) t) where
    abbrev Ran : List Arc → ℕ → State → Type 0
    Ran es p t = (cs : List ℤ) × (length cs ≤ length es) × (run (Going (ρ q0) s0) cs ≡ Going (ρ p) t)

    moved : (es : List Arc) (e : Arc) (u t : State) → Ran es e.from u → Moves (ρ e.from) u (ρ e.to) t → Ran (e ∷ es) e.to t
    moved es e u t r (inl same) = (r.0, (let h = r.1 in omega arith), r.2 ∙ ap (λ k. Going k u) same.0 ∙ ap (λ v. Going (ρ e.to) v) (sym same.1))
    moved es e u t r (inr one) = (
      r.0 ++ (one.0 ∷ []),
      (let h = r.1 in omega (arith, length-append r.0 (one.0 ∷ []))),
      run_append r.0 (one.0 ∷ []) (Going (ρ q0) s0) ∙ ap (λ o. run o (one.0 ∷ [])) r.2 ∙ one.1,
    )

    backward : (es : List Arc) (p : ℕ) (t : State) → Walks g q0 s0 es p t → Ran es p t
    backward [] p t w = ([], omega arith, ap (λ q. Going (ρ q) s0) (sym w.0) ∙ ap (λ v. Going (ρ p) v) (sym w.1))
    backward (e ∷ es) p t w =
        subst (λ q. Ran (e ∷ es) q t) (sym w.0) (moved es e w.2.0 t (backward es e.from w.2.0 w.2.2) (sound e w.1 es w.2.0 t w.2.2 w.2.1))

-- ---- of a program

module _ (p : Program) where
  abbrev g : List Arc
  g = (graph p).edges

  abbrev ρ : ℕ → List Stmt
  ρ = rest p

  abbrev enter : Arc
  enter = arc 0 1 (Enter p.names.params)

  -- past the last point nothing is to be run
  past_last : (q : ℕ) → (made p).last < q → ρ q ≡ []
  past_last q h =
      let a = counted (body_of p) 1 2 [] in
      let b = (spans (body_of p) 1).next in
      let c = ap (λ (z : Piece). z.last) (made_is p) in
      let d = ap length (ap (λ (z : List Stmt). rests_of z []) (sym (body_is p)) ∙ rests_are (body_of p) []) in
      get_or-eq_default (p.body ∷ p.body ∷ rests_of p.body []) [] (omega arith)

  nothing_left : (q : ℕ) → ρ q ≡ [] → Simulates g ρ q
  nothing_left q e = fires (λ t c. subst (λ k. Fired g ρ q t (step k t c)) (sym e) tt)

  all_simulate : (q : ℕ) → 1 ≤ q → Simulates g ρ q
  all_simulate q low = by (order (made p).last q)
    where
      end : Simulates g ρ (made p).last
      end = nothing_left (made p).last (ap (λ (z : Piece). ρ z.last) (made_is p) ∙ ends ρ (body_of p) 1 [] (program_listed p))

      by : ((made p).last < q) ⊎ (q ≤ (made p).last) → Simulates g ρ q
      by (inl h) = nothing_left q (past_last q h)
      by (inr h) =
          simulates (length p.names.names) g ρ (body_of p) 1 [] (body_sane p) (program_listed p) (body_outs p)
          (subst (λ (z : Piece). Simulates g ρ z.last) (made_is p) end) q low (let e = ap (λ (z : Piece). z.last) (made_is p) in omega arith)

  leads_away : (e : Arc) → In e g → 1 ≤ e.to
  leads_away e (inl same) = let to = ap (λ (x : Arc). x.to) same in omega arith
  leads_away e (inr m) = (between p e m).2

  edge_asks : (e : Arc) → In e g → (s : State) → Asks e.what (ρ e.from) s
  edge_asks e (inl same) s = subst (λ (x : Arc). Asks x.what (ρ x.from) s) (sym same) (inl tt)
  edge_asks e (inr m) s = asks (length p.names.names) ρ g (are_straight p.body) (HeadIn (made p).loops) (λ e. In e (no_steps p)) e (known p e m) s

  module _ (q0 : ℕ) (s0 : State) (stands : MayStand (graph p) q0 s0) where
    at_entry : (es : List Arc) (q : ℕ) (t : State) → Walks g q0 s0 es q t → q ≡ 0 → (q0 ≡ 0) × (t ≡ s0)
    at_entry [] q t w e = (sym w.0 ∙ e, w.1)
    at_entry (x ∷ es) q t w e = let h = leads_away x w.1 in let to = w.0 in absurd (omega arith)

    sound : (e : Arc) → In e g → (es : List Arc) (s t : State) → Walks g q0 s0 es e.from s → Pass e.what s t → Moves (ρ e.from) s (ρ e.to) t
    sound e (inl same) es s t w pass =
        let here = at_entry es e.from s w (ap (λ (x : Arc). x.from) same) in
        let stays = subst (λ (x : Arc). Pass x.what s t) same pass ∙ ap (zero_from p.names.params) here.1 ∙ stands here.0 ∙ sym here.1 in
        subst (λ (x : Arc). Moves (ρ x.from) s (ρ x.to) t) (sym same) (inl (refl, stays))
    sound e (inr m) es s t w pass =
        moves (length p.names.names) ρ g (are_straight p.body) (HeadIn (made p).loops) (λ e. In e (no_steps p)) e (known p e m) s t pass

    -- the entry simulates over the edge to the start
    begin_at : (n : ℕ) → q0 ≡ n → (q : ℕ) × Reached g ρ q0 s0 q s0 × (ρ q ≡ ρ q0) × Simulates g ρ q
    begin_at zero is = (
      1,
      (enter ∷ [], (refl, inl refl, (s0, sym (stands is), (sym is, refl)))),
      ap (λ n. ρ n) (sym is),
      all_simulate 1 (omega arith),
    )
    begin_at (suc n) is = (q0, ([], (refl, refl)), refl, all_simulate q0 (omega arith))

    found : (cs : List ℤ) → Found g ρ q0 s0 (run (Going (ρ q0) s0) cs)
    found cs =
        let b = begin_at q0 refl in
        subst (λ k. Found g ρ q0 s0 (run (Going k s0) cs)) b.2 (forward g ρ q0 s0 (λ e m. all_simulate e.to (leads_away e m)) cs b.0 s0 b.3 b.1)

    walked : (es : List Arc) (q : ℕ) (t : State) → Walks g q0 s0 es q t → (cs : List ℤ) × (length cs ≤ length es) × (run (Going (ρ q0) s0) cs ≡ Going (ρ q) t)
    walked es q t w = backward g ρ q0 s0 sound es q t w

    -- one more step of the run of a walk
    violated_after : (es : List Arc) (q : ℕ) (t : State) → Walks g q0 s0 es q t → (e : Arc) → e.from ≡ q →
        (v : Place) → step (ρ e.from) t (pos 0) ≡ Violated v → (cs : List ℤ) × (run (Going (ρ q0) s0) cs ≡ Violated v)
    violated_after es q t w e from v bad =
        let r = walked es q t w in (
          r.0 ++ (pos 0 ∷ []),
          run_append r.0 (pos 0 ∷ []) (Going (ρ q0) s0) ∙ ap (λ o. run o (pos 0 ∷ [])) r.2 ∙ ap (λ n. step (ρ n) t (pos 0)) (sym from) ∙ bad,
        )

    broken_at : (es : List Arc) (q : ℕ) (t : State) → Walks g q0 s0 es q t → (e : Arc) → In e g → e.from ≡ q → (Keeps e.what t → ⊥) →
        (cs : List ℤ) × (v : Place) × (run (Going (ρ q0) s0) cs ≡ Violated v)
    broken_at es q t w e m from bad = by (edge_asks e m t)
      where
        by : Asks e.what (ρ e.from) t → (cs : List ℤ) × (v : Place) × (run (Going (ρ q0) s0) cs ≡ Violated v)
        by (inl kept) = absurd (bad kept)
        by (inr v) = let r = violated_after es q t w e from v.0 v.1 in (r.0, v.0, r.1)

    to_graph : SafeFrom (ρ q0) s0 → WalksAreSafe (graph p) q0 s0
    to_graph safe es q t w e m from = by (edge_asks e m t)
      where
        by : Asks e.what (ρ e.from) t → Keeps e.what t
        by (inl kept) = kept
        by (inr v) = let r = violated_after es q t w e from v.0 v.1 in absurd (safe r.0 v.0 r.1)

    from_graph : WalksAreSafe (graph p) q0 s0 → SafeFrom (ρ q0) s0
    from_graph safe cs v e =
        let f = subst (Found g ρ q0 s0) e (found cs) in
        f.3.3 (safe f.2.0 f.0 f.1 f.2.1 f.3.0 f.3.1 f.3.2)

pub rests_are_safe : RestsAreSafe
rests_are_safe p q s stands = (to_graph p q s stands, from_graph p q s stands)

-- the edge from the entry
entered_edges : (p : Program) (e : Arc) → In e (graph p).edges → e.from ≡ 0 → IsEntered p e
entered_edges p e m from =
    let is = each_at (λ e. e.from ≡ 0 → e ≡ arc 0 1 (Enter p.names.params)) (graph p).edges e (to_start (graph p) (graph_kept p)) m from in
    subst (IsEntered p) (sym is) (record { rests = refl; stays = λ s t long pass. pass ∙ zero_from_entry p.names.params (locals p.names) s long })

-- no step, or one by some choice
kind_of : (p : Program) (e : Arc) → IsKnownOf p e → In e (no_steps p) ⊎ IsStep (rest p) e
kind_of p e (inl h) = inl h.member
kind_of p e (inr h) = inr (is_step (length p.names.names) (rest p) (graph p).edges (are_straight p.body) (HeadIn (made p).loops) (λ e. In e (no_steps p)) e h)

pub steps_correspond : StepsCorrespond
steps_correspond p s long =
    let s0 = started p s in
    let stands : MayStand (graph p) 0 s0 = λ e. zero_from_entry p.names.params (locals p.names) s long in
    let v = length p.names.names in
    record {
      runs = λ cs k t e. let f = subst (Found (graph p).edges (rest p) 0 s0) e (found p 0 s0 stands cs) in (f.1.0, f.0, f.1.1, f.2);
      walks = walked p 0 s0 stands;
      safe = rests_are_safe p 0 s0 stands;
      broken = λ b. broken_at p 0 s0 stands b.0 b.1 b.2 b.3 b.4.0 b.4.1 b.4.2 b.4.3;
      edges = record {
        first = entered_edges p;
        joins = each_more (IsJoinOf p) (IsNoStep (rest p)) (λ e h. is_no_step v (rest p) (graph p).edges (are_straight p.body) (HeadIn (made p).loops) (λ e. In e (no_steps p)) e h) (no_steps p) (joins_known p);
        others = each_more (IsKnownOf p) (λ e. In e (no_steps p) ⊎ IsStep (rest p) e) (λ e h. kind_of p e h) (made p).edges (edges_known p);
      };
    }
