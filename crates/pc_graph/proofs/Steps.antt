-- The steps that the edges of a program's graph stand for.
use Rattle.std.proofs.Common.{◌≡◌, ℕ, ℤ, pos, ◌+ℤ◌, List, ◌∷◌, Bool, true, false, cond, refl, sym, ap, subst, ◌∙◌, inl, inr}
use Rattle.std.specs.Prelude.{◌⊎◌, slice_set}
use Rattle.std.proofs.lemmas.Bool.{and_parts}
use Rattle.pc_text.specs.declared.place.Place.{Place}
use Rattle.pc_rows.specs.Linear.{State, value, MeetsAll}
use Rattle.pc_program.specs.Forms.{form, is_affine, rows_all}
use Rattle.pc_program.specs.Machine.{Going, Violated, Blocked, step, drawn}
use Rattle.pc_program.specs.Sane.{sane_right, sane_expr, sane_choice, sane_all, names_below}
use Rattle.pc_program.specs.Values.{value_of, all_hold, chosen}
use Rattle.pc_program.specs.declared.tree.Compare.{Compare}
use Rattle.pc_program.specs.declared.tree.Right.{Right}
use Rattle.pc_program.specs.declared.tree.Stmt.{Stmt}
use Rattle.pc_program.proofs.FormLemmas.{forms_are_right}
use Rattle.pc_flow.specs.Arc.{Arc}
use Rattle.pc_flow.specs.declared.what.What.{What}
use Rattle.pc_flow.specs.Walk.{Pass, Keeps}
use Rattle.pc_flow.proofs.Lists.{each_at}
use Rattle.pc_graph.specs.Corresponds.{IsNoStep, IsStep}
use Rattle.pc_graph.specs.Ways.{ways}
use Rattle.pc_graph.proofs.Blocks.{Single, assigns, asserts, assumes, single_stmt, what_of, SaneSingle}
use Rattle.pc_graph.proofs.Draws.{drawn_is}
use Rattle.pc_graph.proofs.Known.{IsLone, IsWay, IsJoin, IsKnown}
use Rattle.pc_graph.proofs.TestWays.{ways_sound, holds_meets, meets_holds}
use Rattle.pc_graph.proofs.Unrolled.{step-set, step-assert, step-assume}

-- ---- a statement without blocks

pub form_value : (v : ℕ) (r : Right) → sane_right v r ≡ true → (s : State) → value (form r.expr) s ≡ value_of s r.expr
form_value v r ok s =
    (forms_are_right r.expr (and_parts (is_affine r.expr) (names_below v r.expr) (and_parts (sane_expr v r.expr) (sane_choice r.choice) ok).0).0).form.worth s

-- a step at an assignment, by the form of its expression
pub set_step : (v u : ℕ) (place : Place) (r : Right) (k : List Stmt) → sane_right v r ≡ true → (s : State) (c : ℤ) →
    step (single_stmt place (assigns u r) ∷ k) s c ≡ Going k (slice_set s u (value (form r.expr) s +ℤ drawn r.choice c))
set_step v u place r k ok s c = step-set place u r k s c ∙ ap (λ z. Going k (slice_set s u (z +ℤ drawn r.choice c))) (sym (form_value v r ok s))

-- one at an assertion that holds
pub check_step : (v : ℕ) (place : Place) (cs : List Compare) (k : List Stmt) → sane_all v cs ≡ true → (s : State) (c : ℤ) → MeetsAll s (rows_all cs) →
    step (single_stmt place (asserts cs) ∷ k) s c ≡ Going k s
check_step v place cs k ok s c m = step-assert place cs k s c ∙ ap (λ b. cond b (Going k s) (Violated place)) (meets_holds v cs s ok m)

pub single_moves : (v : ℕ) (place : Place) (x : Single) (k : List Stmt) → SaneSingle v x → (s t : State) → Pass (what_of x) s t →
    (c : ℤ) × (step (single_stmt place x ∷ k) s c ≡ Going k t)
single_moves v place (assigns u r) k ok s t m = (
  m.0,
  set_step v u place r k ok.1 s m.0 ∙ ap (λ z. Going k (slice_set s u (value (form r.expr) s +ℤ z))) (drawn_is r.choice m.0 m.1 m.2) ∙ ap (λ z. Going k z) (sym m.3),
)
single_moves v place (asserts cs) k ok s t m = (pos 0, check_step v place cs k ok s (pos 0) m.0 ∙ ap (λ z. Going k z) (sym m.1))
single_moves v place (assumes cs) k ok s t m = (
  pos 0,
  step-assume place cs k s (pos 0) ∙ ap (λ b. cond b (Going k s) (Blocked place)) (meets_holds v cs s ok m.0) ∙ ap (λ z. Going k z) (sym m.1),
)

-- an assertion holds, or its step is a violation
abbrev pub Asks : What → List Stmt → State → Type 0
Asks w k s = Keeps w s ⊎ ((q : Place) × (step k s (pos 0) ≡ Violated q))

check_asks : (v : ℕ) (place : Place) (cs : List Compare) (k : List Stmt) (s : State) → sane_all v cs ≡ true → (b : Bool) → all_hold cs s ≡ b →
    MeetsAll s (rows_all cs) ⊎ ((q : Place) × (step (single_stmt place (asserts cs) ∷ k) s (pos 0) ≡ Violated q))
check_asks v place cs k s ok true h = inl (holds_meets v cs s ok h)
check_asks v place cs k s ok false h = inr (place, step-assert place cs k s (pos 0) ∙ ap (λ b. cond b (Going k s) (Violated place)) h)

single_asks : (v : ℕ) (place : Place) (x : Single) (k : List Stmt) → SaneSingle v x → (s : State) → Asks (what_of x) (single_stmt place x ∷ k) s
single_asks v place (assigns u r) k ok s = inl tt
single_asks v place (asserts cs) k ok s = check_asks v place cs k s ok (all_hold cs s) refl
single_asks v place (assumes cs) k ok s = inl tt

-- ---- edges

-- no step, or one by some choice
abbrev pub Moves : List Stmt → State → List Stmt → State → Type 0
Moves k s l t = ((k ≡ l) × (t ≡ s)) ⊎ ((c : ℤ) × (step k s c ≡ Going l t))

module _ (v : ℕ) (ρ : ℕ → List Stmt) (g : List Arc) (straight : Bool) (Heads : ℕ → Type 0) (Joins : Arc → Type 0) (e : Arc) where
  pub is_no_step : IsJoin v ρ g straight Heads Joins e → IsNoStep ρ e
  is_no_step h = (h.same, (λ s t pass. (subst (λ (w : What). Pass w s t) h.what pass).1))

  pub is_step : IsLone v ρ g straight Heads Joins e ⊎ IsWay v ρ g straight Heads Joins e → IsStep ρ e
  is_step (inl h) s t pass =
      let one = single_moves v h.place h.statement h.after h.sane s t (subst (λ (w : What). Pass w s t) h.what pass) in
      (one.0, ap (λ (k : List Stmt). step k s one.0) h.here ∙ one.1 ∙ ap (λ (k : List Stmt). Going k t) (sym h.next))
  is_step (inr h) s t pass =
      let moved = subst (λ (w : What). Pass w s t) h.what pass in
      let c = each_at (λ w. MeetsAll s w → (c : ℤ) × (chosen h.test s c ≡ h.side)) (ways h.test h.side) h.way (ways_sound v h.test h.side s h.fork.sane) h.is moved.0 in
      (c.0, h.fork.steps s c.0 ∙ ap (λ (b : Bool). Going (cond b h.then_list h.else_list) s) c.1 ∙ ap (λ (k : List Stmt). Going k s) (sym h.next) ∙ ap (λ z. Going (ρ e.to) z) (sym moved.1))

  pub moves : IsKnown v ρ g straight Heads Joins e → (s t : State) → Pass e.what s t → Moves (ρ e.from) s (ρ e.to) t
  moves (inl h) s t pass = let same = is_no_step h in inl (same.0, same.1 s t pass)
  moves (inr h) s t pass = inr (is_step h s t pass)

  pub asks : IsKnown v ρ g straight Heads Joins e → (s : State) → Asks e.what (ρ e.from) s
  asks (inl h) s = inl (subst (λ (w : What). Keeps w s) (sym h.what) tt)
  asks (inr (inl h)) s =
      subst (λ (w : What). Asks w (ρ e.from) s) (sym h.what) (subst (λ (k : List Stmt). Asks (what_of h.statement) k s) (sym h.here)
      (single_asks v h.place h.statement h.after h.sane s))
  asks (inr (inr h)) s = inl (subst (λ (w : What). Keeps w s) (sym h.what) tt)
