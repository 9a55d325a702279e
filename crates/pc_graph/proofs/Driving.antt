-- The choices along walks drive straight programs.
use Rattle.std.proofs.Common.{◌≡◌, ◌∙◌, ℕ, ℤ, pos, ◌+ℤ◌, List, [], ◌∷◌, ◌++◌, length, Bool, true, false, cond, refl, sym, ap, subst, arith, inl, inr}
use Rattle.std.specs.Prelude.{◌⊎◌, slice_set, Option, Some, None}
use Rattle.std.proofs.lemmas.Bool.{and_parts}
use Rattle.pc_text.specs.declared.place.Place.{Place}
use Rattle.pc_text.specs.Named.{locals}
use Rattle.pc_rows.specs.Linear.{Linear, State, value, zero_from}
use Rattle.pc_rows.proofs.First.{zero_from_entry}
use Rattle.pc_program.specs.Forms.{form}
use Rattle.pc_program.specs.Machine.{Going, Violated, step, run, run_of, started, drawn}
use Rattle.pc_program.specs.Sane.{sane_expr, sane_choice}
use Rattle.pc_program.specs.Values.{chosen}
use Rattle.pc_program.specs.declared.program.Program.{Program}
use Rattle.pc_program.specs.declared.tree.Stmt.{Stmt}
use Rattle.pc_program.specs.declared.tree.Test.{Test as Condition}
use Rattle.pc_program.specs.declared.tree.Test.TheVariants as test
use Rattle.pc_flow.specs.Arc.{Arc, arc, marked}
use Rattle.pc_flow.specs.declared.what.What.{What}
use Rattle.pc_flow.specs.declared.what.What.TheVariants.{Enter, Test}
use Rattle.pc_flow.specs.Incidence.{leaving}
use Rattle.pc_flow.specs.Lists.{In}
use Rattle.pc_flow.specs.Walk.{Pass, Keeps, Walk, IsEntry}
use Rattle.pc_graph.specs.Choices.{Sides, Takes, Chooses, and_then, Chosen, ChosenWalk, ChoicesDrive}
use Rattle.pc_graph.specs.Lowering.{graph, made, no_steps, tests}
use Rattle.pc_graph.specs.Rest.{rest}
use Rattle.pc_graph.specs.Straight.{is_any, are_straight}
use Rattle.pc_graph.specs.Ways.{ways}
use Rattle.pc_graph.proofs.Blocks.{Single, assigns, asserts, assumes, single_stmt, what_of, SaneSingle, StraightSingle}
use Rattle.pc_graph.proofs.Bridge.{run_append}
use Rattle.pc_graph.proofs.Draws.{drawn_within, drawn_is, drawn_clamped}
use Rattle.pc_graph.proofs.Steps.{set_step, check_step, asks}
use Rattle.pc_graph.proofs.Whole.{IsKnownOf, HeadIn, known, between}

-- a step by the choice, or none where there is no choice
abbrev Drives : List Stmt → State → List Stmt → State → Option ℤ → Type 0
Drives k s l t None = (k ≡ l) × (t ≡ s)
Drives k s l t (Some c) = step k s c ≡ Going l t

-- what an edge asks and does: who takes it passes it, and is driven by his choice; and who passes it has a choice
record Meant (out : List Arc) (e : Arc) (w : What) (k l : List Stmt) : Type 0 where
  drives : (s t : State) (o : Option ℤ) → Takes out e w s t o → Drives k s l t o
  passes : (s t : State) (o : Option ℤ) → Takes out e w s t o → Pass w s t
  taken : (s t : State) → Pass w s t → (o : Option ℤ) × Takes out e w s t o

drives_by : (k l : List Stmt) (s t : State) (o : Option ℤ) (c : ℤ) → o ≡ Some c → step k s c ≡ Going l t → Drives k s l t o
drives_by k l s t o c e h = subst (Drives k s l t) (sym e) h

single_meant : (v : ℕ) (place : Place) (x : Single) (k : List Stmt) (out : List Arc) (e : Arc) → SaneSingle v x → StraightSingle x →
    Meant out e (what_of x) (single_stmt place x ∷ k) k
single_meant v place (assigns u r) k out e ok plain =
    record {
      drives = λ s t o h. drives_by (single_stmt place (assigns u r) ∷ k) k s t o h.0 h.1
          (set_step v u place r k ok.1 s h.0 ∙ ap (λ z. Going k (slice_set s u (value (form r.expr) s +ℤ z))) (sym (drawn_clamped r.choice h.0)) ∙ ap (λ z. Going k z) (sym h.2));
      passes = λ s t o h. let w = drawn_within r.choice h.0 (and_parts (sane_expr v r.expr) (sane_choice r.choice) ok.1).1 in
          (drawn r.choice h.0, w.0, w.1, h.2 ∙ ap (λ z. slice_set s u (value (form r.expr) s +ℤ z)) (drawn_clamped r.choice h.0));
      taken = λ s t h. (
        Some h.0,
        (
          h.0,
          refl,
          h.3 ∙ ap (λ z. slice_set s u (value (form r.expr) s +ℤ z)) (sym (drawn_clamped r.choice h.0 ∙ drawn_is r.choice h.0 h.1 h.2)),
        ),
      );
    }
single_meant v place (asserts cs) k out e ok plain =
    record {
      drives = λ s t o h. drives_by (single_stmt place (asserts cs) ∷ k) k s t o (pos 0) h.0 (check_step v place cs k ok s (pos 0) h.1 ∙ ap (λ z. Going k z) (sym h.2));
      passes = λ s t o h. (h.1, h.2);
      taken = λ s t h. (Some (pos 0), (refl, h.0, h.1));
    }
single_meant v place (assumes cs) k out e ok plain = absurd plain

join_meant : (out : List Arc) (e : Arc) (k l : List Stmt) → out ≡ e ∷ [] → k ≡ l → Meant out e (Test []) k l
join_meant out e k l only same =
    let alone = λ (o : Option ℤ) (h : Sides out e o). subst (λ (z : List Arc). Sides z e o) only h in
    record {
      drives = λ s t o h. subst (Drives k s l t) (sym (alone o h.0)) (same, h.2);
      passes = λ s t o h. (h.1, h.2);
      taken = λ s t h. (None, (subst (λ (z : List Arc). Sides z e None) (sym only) refl, h.0, h.1));
    }

-- the sides of `*`
module _ (k then_list else_list l : List Stmt) (ρ : ℕ → List Stmt) (e f h : Arc) (side : Bool)
    (steps : (s : State) (c : ℤ) → step k s c ≡ Going (cond (chosen test.Any s c) then_list else_list) s) (lies : In e (cond side (f ∷ []) (h ∷ [])))
    (then_is : ρ f.to ≡ then_list) (else_is : ρ h.to ≡ else_list) (to : ρ e.to ≡ l) where
  side_drives : (s : State) (o : Option ℤ) → Sides (f ∷ h ∷ []) e o → Drives k s l s o
  side_drives s o (inl is) = drives_by k l s s o (pos 1) is.1 (steps s (pos 1) ∙ ap (λ (z : List Stmt). Going z s) (sym then_is ∙ ap (λ (x : Arc). ρ x.to) (sym is.0) ∙ to))
  side_drives s o (inr is) = drives_by k l s s o (pos 0) is.1 (steps s (pos 0) ∙ ap (λ (z : List Stmt). Going z s) (sym else_is ∙ ap (λ (x : Arc). ρ x.to) (sym (is_second is.0)) ∙ to))
    where
      is_second : In e (h ∷ []) → e ≡ h
      is_second (inl same) = same
      is_second (inr m) = absurd m

  side_taken : (o : Bool) → o ≡ side → (c : Option ℤ) × Sides (f ∷ h ∷ []) e c
  side_taken true is = (Some (pos 1), inl (first (subst (λ (b : Bool). In e (cond b (f ∷ []) (h ∷ []))) (sym is) lies), refl))
    where
      first : In e (f ∷ []) → e ≡ f
      first (inl same) = same
      first (inr m) = absurd m
  side_taken false is = (Some (pos 0), inr (subst (λ (b : Bool). In e (cond b (f ∷ []) (h ∷ []))) (sym is) lies, refl))

way_meant : (t : Condition) (side into : Bool) (way : List Linear) (p a b : ℕ) (k then_list else_list l : List Stmt) (ρ : ℕ → List Stmt) (out : List Arc) (e : Arc) → is_any t ≡ true →
    ((s : State) (c : ℤ) → step k s c ≡ Going (cond (chosen t s c) then_list else_list) s) → out ≡ tests into p a (ways t true) ++ tests false p b (ways t false) →
    In e (cond side (tests into p a (ways t true)) (tests false p b (ways t false))) → ρ a ≡ then_list → ρ b ≡ else_list → ρ e.to ≡ l → Meant out e (Test way) k l
way_meant (test.All cs) side into way p a b k tl el l ρ out e any steps outs lies then_is else_is to = absurd (cc)
way_meant test.Any side into way p a b k tl el l ρ out e any steps outs lies then_is else_is to =
    let f = marked into p a (Test []) in
    let h = marked false p b (Test []) in
    record {
      drives = λ s t o m. subst (λ z. Drives k s l z o) (sym m.2)
          (side_drives k tl el l ρ e f h side steps lies then_is else_is to s o (subst (λ (z : List Arc). Sides z e o) outs m.0));
      passes = λ s t o m. (m.1, m.2);
      taken = λ s t m.
          let c = side_taken k tl el l ρ e f h side steps lies then_is else_is to side refl in
          (c.0, (subst (λ (z : List Arc). Sides z e c.0) (sym outs) c.1, m.0, m.1));
    }

module _ (p : Program) (s0 : State) (straight : are_straight p.body ≡ true) (long : IsEntry (graph p) s0) where
  abbrev g : List Arc
  g = (graph p).edges

  abbrev ρ : ℕ → List Stmt
  ρ = rest p

  abbrev begun : State
  begun = started p s0

  abbrev enter : Arc
  enter = arc 0 1 (Enter p.names.params)

  edge_meant : (e : Arc) → IsKnownOf p e → Meant (leaving e.from g) e e.what (ρ e.from) (ρ e.to)
  edge_meant e (inl h) = subst (λ (w : What). Meant (leaving e.from g) e w (ρ e.from) (ρ e.to)) (sym h.what) (join_meant (leaving e.from g) e (ρ e.from) (ρ e.to) h.only h.same)
  edge_meant e (inr (inl h)) =
      subst (λ (w : What). Meant (leaving e.from g) e w (ρ e.from) (ρ e.to)) (sym h.what)
      (subst (λ (k : List Stmt). Meant (leaving e.from g) e (what_of h.statement) k (ρ e.to)) (sym h.here)
      (subst (λ (l : List Stmt). Meant (leaving e.from g) e (what_of h.statement) (single_stmt h.place h.statement ∷ h.after) l) (sym h.next)
      (single_meant (length p.names.names) h.place h.statement h.after (leaving e.from g) e h.sane (h.plain straight))))
  edge_meant e (inr (inr h)) =
      subst (λ (w : What). Meant (leaving e.from g) e w (ρ e.from) (ρ e.to)) (sym h.what)
      (way_meant h.test h.side h.into h.way e.from h.then_at h.else_at (ρ e.from) h.then_list h.else_list (ρ e.to) ρ (leaving e.from g) e (h.fork.plain straight) h.fork.steps h.fork.outs h.lies h.fork.then_is h.fork.else_is refl)

  meant : (e : Arc) → In e (made p).edges → Meant (leaving e.from g) e e.what (ρ e.from) (ρ e.to)
  meant e m = edge_meant e (known p e m)

  to_walk : (es : List Arc) (q : ℕ) (t : State) (cs : List ℤ) → ChosenWalk p s0 es q t cs → Walk (graph p) s0 es q t
  to_walk [] q t cs w = (w.0, w.1)
  to_walk (e ∷ es) q t cs w = let u = w.2.0 in (w.0, w.1, (u, passes w.1 w.2.3, to_walk es e.from u w.2.2 w.2.5))
    where
      passes : In e g → Chooses g e w.2.0 t w.2.1 → Pass e.what w.2.0 t
      passes (inl same) h = subst (λ (x : Arc). Pass x.what w.2.0 t) (sym same) (subst (λ (x : Arc). Takes (leaving x.from g) x x.what w.2.0 t w.2.1) same h).1
      passes (inr m) h = (meant e m).passes w.2.0 t w.2.1 h

  from_walk : (es : List Arc) (q : ℕ) (t : State) → Walk (graph p) s0 es q t → (cs : List ℤ) × ChosenWalk p s0 es q t cs
  from_walk [] q t w = ([], (w.0, w.1, refl))
  from_walk (e ∷ es) q t w =
      let u = w.2.0 in
      let before = from_walk es e.from u w.2.2 in
      let o = takes w.1 w.2.1 in
      (and_then before.0 o.0, (w.0, w.1, (u, o.0, before.0, o.1, refl, before.1)))
    where
      takes : In e g → Pass e.what w.2.0 t → (o : Option ℤ) × Chooses g e w.2.0 t o
      takes (inl same) h = (None, subst (λ (x : Arc). Takes (leaving x.from g) x x.what w.2.0 t None) (sym same) (refl, subst (λ (x : Arc). Pass x.what w.2.0 t) same h))
      takes (inr m) h = (meant e m).taken w.2.0 t h

  at_entry : (es : List Arc) (q : ℕ) (t : State) (cs : List ℤ) → ChosenWalk p s0 es q t cs → q ≡ 0 → t ≡ begun
  at_entry [] q t cs w z = w.1
  at_entry (e ∷ es) q t cs w z = by w.1
    where
      by : In e g → t ≡ begun
      by (inl same) = let to = ap (λ (x : Arc). x.to) same in let q_is = w.0 in absurd (omega arith)
      by (inr m) = let low = (between p e m).2 in let q_is = w.0 in absurd (omega arith)

  runs : (es : List Arc) (q : ℕ) (t : State) (cs : List ℤ) → ChosenWalk p s0 es q t cs → run_of p s0 cs ≡ Going (ρ q) t
  runs [] q t cs w = ap (run_of p s0) w.2 ∙ ap (λ (n : ℕ). Going (ρ n) begun) (sym w.0) ∙ ap (λ z. Going (ρ q) z) (sym w.1)
  runs (e ∷ es) q t cs w =
      let u = w.2.0 in
      let o = w.2.1 in
      let before = w.2.2 in
      subst (λ (n : ℕ). run_of p s0 cs ≡ Going (ρ n) t) (sym w.0) (subst (λ (z : List ℤ). run_of p s0 z ≡ Going (ρ e.to) t) (sym w.2.4)
      (on before u (runs es e.from u before w.2.5) o (driven w.1 w.2.3)))
    where
      on : (before : List ℤ) (u : State) → run_of p s0 before ≡ Going (ρ e.from) u → (o : Option ℤ) → Drives (ρ e.from) u (ρ e.to) t o → run_of p s0 (and_then before o) ≡ Going (ρ e.to) t
      on before u r None d = r ∙ ap (λ (k : List Stmt). Going k u) d.0 ∙ ap (λ z. Going (ρ e.to) z) (sym d.1)
      on before u r (Some c) d = run_append before (c ∷ []) (Going p.body begun) ∙ ap (λ z. run z (c ∷ [])) r ∙ d

      entered_drives : (u : State) (o : Option ℤ) (before : List ℤ) → e ≡ enter → Chosen g 0 begun es e.from u before → Chooses g e u t o → Drives (ρ e.from) u (ρ e.to) t o
      entered_drives u o before same w h =
          let h2 = subst (λ (x : Arc). Takes (leaving x.from g) x x.what u t o) same h in
          let u_is = at_entry es e.from u before w (ap (λ (x : Arc). x.from) same) in
          let stays = h2.1 ∙ ap (zero_from p.names.params) u_is ∙ zero_from_entry p.names.params (locals p.names) s0 long ∙ sym u_is in
          subst (λ (x : Arc). Drives (ρ x.from) u (ρ x.to) t o) (sym same) (subst (Drives p.body u p.body t) (sym h2.0) (refl, stays))

      driven : In e g → Chooses g e w.2.0 t w.2.1 → Drives (ρ e.from) w.2.0 (ρ e.to) t w.2.1
      driven (inl same) h = entered_drives w.2.0 w.2.1 w.2.2 same w.2.5 h
      driven (inr m) h = (meant e m).drives w.2.0 t w.2.1 h

  breaks : (es : List Arc) (q : ℕ) (t : State) (cs : List ℤ) → ChosenWalk p s0 es q t cs → (e : Arc) → In e g → e.from ≡ q → (Keeps e.what t → ⊥) →
      (place : Place) × (run_of p s0 (cs ++ (pos 0 ∷ [])) ≡ Violated place)
  breaks es q t cs w e (inl same) from bad = absurd (bad (subst (λ (x : Arc). Keeps x.what t) (sym same) tt))
  breaks es q t cs w e (inr m) from bad =
      by (asks (length p.names.names) ρ g (are_straight p.body) (HeadIn (made p).loops) (λ e. In e (no_steps p)) e (known p e m) t)
    where
      by : Keeps e.what t ⊎ ((v : Place) × (step (ρ e.from) t (pos 0) ≡ Violated v)) → (place : Place) × (run_of p s0 (cs ++ (pos 0 ∷ [])) ≡ Violated place)
      by (inl kept) = absurd (bad kept)
      by (inr v) = (
        v.0,
        run_append cs (pos 0 ∷ []) (Going p.body begun) ∙ ap (λ o. run o (pos 0 ∷ [])) (runs es q t cs w) ∙ ap (λ (n : ℕ). step (ρ n) t (pos 0)) (sym from) ∙ v.1,
      )

pub choices_drive : ChoicesDrive
choices_drive p s straight long =
    record { runs = runs p s straight long; breaks = breaks p s straight long; walks = to_walk p s straight long; chosen = from_walk p s straight long }
