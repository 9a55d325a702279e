-- Each step of a program has an edge of its graph.
use Rattle.std.proofs.Common.{◌≡◌, ◌∙◌, ℕ, ◌+◌, ◌<◌, ◌≤◌, ℤ, List, [], ◌∷◌, ◌++◌, Bool, true, false, cond, refl, sym, ap, subst, arith, inl, inr}
use Rattle.std.specs.Prelude.{◌⊎◌, ◌==◌, nat_le}
use Rattle.std.specs.List.{AllByRecursion as Each}
use Rattle.std.proofs.lemmas.Bool.{and_parts}
use Rattle.std.proofs.lemmas.Bool.Decides.{leb_tells}
use Rattle.pc_text.specs.declared.place.Place.{Place}
use Rattle.pc_rows.specs.Linear.{Linear, State, MeetsAll}
use Rattle.pc_rows.proofs.Joining.{each_left, each_right}
use Rattle.pc_program.specs.Forms.{rows_all}
use Rattle.pc_program.specs.Machine.{Outcome, Going, Violated, Blocked, Ended, step, drawn}
use Rattle.pc_program.specs.Sane.{sane_test, sane_expr, sane_choice, sane_all}
use Rattle.pc_program.specs.Values.{all_hold, chosen}
use Rattle.pc_program.specs.declared.tree.Compare.{Compare}
use Rattle.pc_program.specs.declared.tree.Stmt.{Stmt, roll-Stmt}
use Rattle.pc_program.specs.declared.tree.Stmt.TheOpen as stmt
use Rattle.pc_program.specs.declared.tree.Test.{Test as Condition}
use Rattle.pc_flow.specs.Arc.{Arc, arc, marked}
use Rattle.pc_flow.specs.declared.what.What.TheVariants.{Test, Check}
use Rattle.pc_flow.specs.Incidence.{leaving}
use Rattle.pc_flow.specs.Lists.{AnyOf, In}
use Rattle.pc_flow.specs.Walk.{Pass, Keeps}
use Rattle.pc_flow.proofs.Lists.{each_more}
use Rattle.pc_graph.specs.Lowering.{assigned, tests}
use Rattle.pc_graph.specs.Ways.{ways}
use Rattle.pc_graph.proofs.Blocks.{Single, assigns, asserts, assumes, Block, done, single, branch, cycle, single_stmt, stmts, what_of, built, SaneSingle, Sane, spans}
use Rattle.pc_graph.proofs.Draws.{drawn_within}
use Rattle.pc_graph.proofs.Listed.{Listed, begins, ends}
use Rattle.pc_graph.proofs.Known.{cond_append}
use Rattle.pc_graph.proofs.Outs.{Outs}
use Rattle.pc_graph.proofs.Steps.{set_step}
use Rattle.pc_graph.proofs.TestWays.{ways_complete, holds_meets, meets_holds}
use Rattle.pc_graph.proofs.Unrolled.{step-if, step-while, step-assert, step-assume}

-- an edge from p for the outcome of a step at p
abbrev pub Fired : List Arc → (ℕ → List Stmt) → ℕ → State → Outcome → Type 0
Fired g ρ p s (Going k t) = (e : Arc) × In e g × (e.from ≡ p) × Pass e.what s t × (ρ e.to ≡ k)
Fired g ρ p s (Violated q) = (e : Arc) × In e g × (e.from ≡ p) × (Keeps e.what s → ⊥)
Fired g ρ p s (Blocked q) = Unit {0}
Fired g ρ p s Ended = Unit {0}

abbrev pub Fires : List Arc → (ℕ → List Stmt) → ℕ → Type 0
Fires g ρ p = (s : State) (c : ℤ) → Fired g ρ p s (step (ρ p) s c)

-- over joins to a point at which each step has an edge
pub data Simulates (g : List Arc) (ρ : ℕ → List Stmt) : ℕ → Type 0 where
  fires : {p : ℕ} → Fires g ρ p → Simulates g ρ p
  joins : {p : ℕ} (q : ℕ) → In (arc p q (Test [])) g → ρ p ≡ ρ q → Simulates g ρ q → Simulates g ρ p

-- ---- members

leaving_in : (q : ℕ) (es : List Arc) → Each (λ e. In e es) (leaving q es)
leaving_in q [] = tt
leaving_in q (e ∷ es) = by (e.from == q) (each_more (λ x. In x es) (λ x. In x (e ∷ es)) (λ x m. inr m) (leaving q es) (leaving_in q es))
  where
    by : (t : Bool) → Each (λ x. In x (e ∷ es)) (leaving q es) → Each (λ x. In x (e ∷ es)) (cond t (e ∷ leaving q es) (leaving q es))
    by true more = (inl refl, more)
    by false more = more

pub members : (g : List Arc) (p : ℕ) (es : List Arc) → leaving p g ≡ es → Each (λ e. In e g) es
members g p es is = subst (λ (z : List Arc). Each (λ e. In e g) z) is (leaving_in p g)

pub order : (a b : ℕ) → (a < b) ⊎ (b ≤ a)
order a b = by (leb_tells b a)
  where
    by : ((nat_le b a ≡ true) × (b ≤ a)) ⊎ ((nat_le b a ≡ false) × (a < b)) → (a < b) ⊎ (b ≤ a)
    by (inl h) = inr h.1
    by (inr h) = inl h.1

by_place : (P : Type 0) (q p a b : ℕ) → (q ≤ p → P) → (p < q → q ≤ a → P) → (a < q → q ≤ b → P) → (b < q → P) → P
by_place P q p a b at_p in_a in_b later = by (order p q) (order a q) (order b q)
  where
    by : (p < q) ⊎ (q ≤ p) → (a < q) ⊎ (q ≤ a) → (b < q) ⊎ (q ≤ b) → P
    by (inr h) y z = at_p h
    by (inl h) (inr k) z = in_a h k
    by (inl h) (inl k) (inr l) = in_b k l
    by (inl h) (inl k) (inl l) = later l

module _ (v : ℕ) (g : List Arc) (ρ : ℕ → List Stmt) where
  -- ---- steps

  check_fired : (place : Place) (cs : List Compare) (p n : ℕ) (k : List Stmt) (s : State) → sane_all v cs ≡ true → ρ n ≡ k → In (arc p n (Check (rows_all cs))) g →
      (b : Bool) → all_hold cs s ≡ b → Fired g ρ p s (cond b (Going k s) (Violated place))
  check_fired place cs p n k s u e m true h = (arc p n (Check (rows_all cs)), m, refl, (holds_meets v cs s u h, refl), e)
  check_fired place cs p n k s u e m false h = (arc p n (Check (rows_all cs)), m, refl, (λ z. let y = meets_holds v cs s u z in absurd (cc)))

  assume_fired : (place : Place) (cs : List Compare) (p n : ℕ) (k : List Stmt) (s : State) → sane_all v cs ≡ true → ρ n ≡ k → In (arc p n (Test (rows_all cs))) g →
      (b : Bool) → all_hold cs s ≡ b → Fired g ρ p s (cond b (Going k s) (Blocked place))
  assume_fired place cs p n k s u e m true h = (arc p n (Test (rows_all cs)), m, refl, (holds_meets v cs s u h, refl), e)
  assume_fired place cs p n k s u e m false h = tt

  single_fired : (place : Place) (x : Single) (p n : ℕ) (k : List Stmt) → SaneSingle v x → ρ n ≡ k → In (arc p n (what_of x)) g →
      (s : State) (c : ℤ) → Fired g ρ p s (step (single_stmt place x ∷ k) s c)
  single_fired place (assigns u r) p n k ok e m s c =
      let w = drawn_within r.choice c (and_parts (sane_expr v r.expr) (sane_choice r.choice) ok.1).1 in
      subst (Fired g ρ p s) (sym (set_step v u place r k ok.1 s c)) (arc p n (assigned u r), m, refl, (drawn r.choice c, w.0, w.1, refl), e)
  single_fired place (asserts cs) p n k ok e m s c = subst (Fired g ρ p s) (sym (step-assert place cs k s c)) (check_fired place cs p n k s ok e m (all_hold cs s) refl)
  single_fired place (assumes cs) p n k ok e m s c = subst (Fired g ρ p s) (sym (step-assume place cs k s c)) (assume_fired place cs p n k s ok e m (all_hold cs s) refl)

  tests_fire : (b : Bool) (p q : ℕ) (ws : List (List Linear)) (l : List Stmt) (s : State) → ρ q ≡ l →
      Each (λ e. In e g) (tests b p q ws) → AnyOf (MeetsAll s) ws → Fired g ρ p s (Going l s)
  tests_fire b p q [] l s eq ins h = absurd h
  tests_fire b p q (w ∷ ws) l s eq ins (inl m) = (marked b p q (Test w), ins.0, refl, (m, refl), eq)
  tests_fire b p q (w ∷ ws) l s eq ins (inr h) = tests_fire b p q ws l s eq ins.1 h

  -- a choice has an edge of its side
  side_fired : (t : Condition) (b : Bool) (p q u : ℕ) (k l : List Stmt) (s : State) (c : ℤ) → sane_test v t ≡ true → ρ q ≡ k → ρ u ≡ l →
      Each (λ e. In e g) (tests b p q (ways t true) ++ tests false p u (ways t false)) → (side : Bool) → chosen t s c ≡ side → Fired g ρ p s (Going (cond side k l) s)
  side_fired t b p q u k l s c ok eq eu ins true h = tests_fire b p q (ways t true) k s eq (each_left (λ e. In e g) (tests b p q (ways t true)) _ ins) (ways_complete v t true s c ok h)
  side_fired t b p q u k l s c ok eq eu ins false h = tests_fire false p u (ways t false) l s eu (each_right (λ e. In e g) (tests b p q (ways t true)) _ ins) (ways_complete v t false s c ok h)

  fires_at : (p : ℕ) (k : List Stmt) → ρ p ≡ k → ((s : State) (c : ℤ) → Fired g ρ p s (step k s c)) → Simulates g ρ p
  fires_at p k e f = fires (λ s c. subst (λ k. Fired g ρ p s (step k s c)) (sym e) (f s c))

  -- ---- all points

  at : (p q : ℕ) → Simulates g ρ p → p ≤ q → q ≤ p → Simulates g ρ q
  at p q h l u = let same : p ≡ q = omega arith in subst (Simulates g ρ) same h

  pub simulates : (b : Block) (p : ℕ) (k : List Stmt) → Sane v b → Listed ρ b p k → Outs g b p → Simulates g ρ (built b p (p + 1)).last →
      (q : ℕ) → p ≤ q → q ≤ (built b p (p + 1)).last → Simulates g ρ q
  simulates done p k s l o end q low high = at p q end low high
  simulates (single place x more) p k s l o end q low high =
      let here = fires_at p (single_stmt place x ∷ (stmts more ++ k)) l.0
      (single_fired place x p (p + 1) (stmts more ++ k) s.0 (begins ρ more (p + 1) k l.1) (members g p (arc p (p + 1) (what_of x) ∷ []) o.0).0) in
      by_place (Simulates g ρ q) q p p p (at p q here low) (λ l1 h1. absurd (omega arith)) (λ l1 h1. absurd (omega arith))
      (λ l1. simulates more (p + 1) k s.1 l.1 o.1 end q (omega arith) high)
  simulates (branch place t xs ys more) p k s l o end q low high =
      let rest = stmts more ++ k in
      let a = built xs (p + 1) (p + 1 + 1) in
      let b = built ys a.next (a.next + 1) in
      let f1 = (spans xs (p + 1)).up in
      let f2 = (spans xs (p + 1)).next in
      let g1 = (spans ys a.next).up in
      let g2 = (spans ys a.next).next in
      let h1 = (spans more b.next).up in
      let begun = begins ρ more b.next k l.3 in
      let later = λ (q : ℕ) (low : b.next ≤ q) (high : q ≤ (built more b.next (b.next + 1)).last). simulates more b.next k s.3 l.3 o.5 end q low high in
      let join = later b.next (omega arith) h1 in
      let end_a = joins b.next (members g a.last (arc a.last b.next (Test []) ∷ []) o.2).0 (ends ρ xs (p + 1) rest l.1 ∙ sym begun) join in
      let end_b = joins b.next (members g b.last (arc b.last b.next (Test []) ∷ []) o.4).0 (ends ρ ys a.next rest l.2 ∙ sym begun) join in
      let here = fires_at p (roll-Stmt (stmt.If place t (stmts xs) (stmts ys)) ∷ rest) l.0
      (λ u c. subst (Fired g ρ p u) (sym (step-if place t (stmts xs) (stmts ys) rest u c ∙ ap (λ z. Going z u) (cond_append (chosen t u c) (stmts xs) (stmts ys) rest)))
      (side_fired t false p (p + 1) a.next (stmts xs ++ rest) (stmts ys ++ rest) u c s.0 (begins ρ xs (p + 1) rest l.1) (begins ρ ys a.next rest l.2)
      (members g p (tests false p (p + 1) (ways t true) ++ tests false p a.next (ways t false)) o.0) (chosen t u c) refl)) in
      by_place (Simulates g ρ q) q p a.last b.last (at p q here low)
      (λ l1 u1. simulates xs (p + 1) rest s.1 l.1 o.1 end_a q (omega arith) u1)
      (λ l1 u1. simulates ys a.next rest s.2 l.2 o.3 end_b q (omega arith) u1) (λ l1. later q (omega arith) high)
  simulates (cycle place t tried xs more) p k s l o end q low high =
      let rest = stmts more ++ k in
      let again = roll-Stmt (stmt.While place t tried (stmts xs)) ∷ rest in
      let a = built xs (p + 1) (p + 1 + 1) in
      let f1 = (spans xs (p + 1)).up in
      let f2 = (spans xs (p + 1)).next in
      let here = fires_at p again l.0 (λ u c. subst (Fired g ρ p u) (sym (step-while place t tried (stmts xs) rest u c))
      (side_fired t true p (p + 1) a.next (stmts xs ++ again) rest u c s.0 (begins ρ xs (p + 1) again l.1) (begins ρ more a.next k l.2)
      (members g p (tests true p (p + 1) (ways t true) ++ tests false p a.next (ways t false)) o.0) (chosen t u c) refl)) in
      let end_a = joins p (members g a.last (arc a.last p (Test []) ∷ []) o.2).0 (ends ρ xs (p + 1) again l.1 ∙ sym l.0) here in
      by_place (Simulates g ρ q) q p a.last a.last (at p q here low)
      (λ l1 u1. simulates xs (p + 1) again s.2 l.1 o.1 end_a q (omega arith) u1) (λ l1 u1. absurd (omega arith))
      (λ l1. simulates more a.next k s.3 l.2 o.3 end q (omega arith) high)
