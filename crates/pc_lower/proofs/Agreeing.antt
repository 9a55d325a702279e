-- What a point needs depends on the rows at the targets of its edges alone, and these are at greater points or at heads.
use Rattle.std.proofs.Common.{◌≡◌, ◌∙◌, ℕ, zero, suc, ◌<◌, ◌==◌, List, [], ◌∷◌, ◌++◌, length, sym, refl, ap, eq-eqb, cond, Bool, true, false, arith, inl, inr, Some, slice_get}
use Rattle.std.specs.Prelude.{◌⊎◌}
use Rattle.std.specs.List.{AllByRecursion as Each}
use Rattle.std.proofs.lemmas.Bool.Decides.{eqb_tells}
use Rattle.pc_rows.specs.Linear.{Linear}
use Rattle.pc_rows.specs.Joins.{joined}
use Rattle.pc_flow.specs.declared.point.PointInfo.{PointInfo}
use Rattle.pc_flow.specs.Arc.{Arc}
use Rattle.pc_flow.specs.Exact.{PointRows}
use Rattle.pc_flow.specs.Lists.{In}
use Rattle.pc_flow.specs.Shape.{IsHead, LeadsUp}
use Rattle.pc_flow.proofs.Lists.{each_got, each_in}
use Rattle.pc_lower.specs.Annotation.{is_head}
use Rattle.pc_flow.specs.Incidence.{leaving}
use Rattle.pc_lower.specs.Need.{demanded, gathered}
use Rattle.pc_lower.specs.Operations.{Operation, edge_operations, edges_operations}

-- two annotations have the same rows at the targets of edges
abbrev pub Agree : PointRows → PointRows → List Arc → Type 0
Agree a b edges = Each (λ e. a e.to ≡ b e.to) edges

pub gathered_alike : (a b : PointRows) (rows : List Linear) (edges : List Arc) → Agree a b edges → gathered a rows edges ≡ gathered b rows edges
gathered_alike a b rows [] h = refl
gathered_alike a b rows (e ∷ edges) h =
    ap (λ (z : List Linear). gathered a (joined rows (demanded e.what z)) edges) h.0 ∙ gathered_alike a b (joined rows (demanded e.what (b e.to))) edges h.1

pub operations_alike : (a b : PointRows) (rows : List Linear) (edges : List Arc) → Agree a b edges → edges_operations a rows edges ≡ edges_operations b rows edges
operations_alike a b rows [] h = refl
operations_alike a b rows (e ∷ edges) h =
    ap (λ (z : List Linear). edge_operations e.what rows z ++ edges_operations a (joined rows (demanded e.what z)) edges) h.0
    ∙ ap (λ (z : List Operation). edge_operations e.what rows (b e.to) ++ z) (operations_alike a b (joined rows (demanded e.what (b e.to))) edges h.1)

pub each_both : {A : Type 0} (P Q : A → Type 0) (xs : List A) → Each P xs → Each Q xs → Each (λ x. P x × Q x) xs
each_both P Q [] h k = tt
each_both P Q (x ∷ xs) h k = ((h.0, k.0), each_both P Q xs h.1 k.1)

-- the edges from a point are those edges that leave it
pub each_leaving : (P : Arc → Type 0) (p : ℕ) (edges : List Arc) → Each P edges → Each (λ e. (e.from ≡ p) × P e) (leaving p edges)
each_leaving P p [] h = tt
each_leaving P p (e ∷ edges) h = by (e.from == p) (eqb_tells e.from p) (each_leaving P p edges h.1)
  where
    by : (t : Bool) → ((t ≡ true) × (e.from ≡ p)) ⊎ ((t ≡ false) × (e.from ≡ p → ⊥)) → Each (λ e. (e.from ≡ p) × P e) (leaving p edges) →
        Each (λ e. (e.from ≡ p) × P e) (cond t (e ∷ leaving p edges) (leaving p edges))
    by true (inl k) more = ((k.1, h.0), more)
    by true (inr k) more = absurd (cc)
    by false k more = more

-- the edge in some place of them
pub leaving_from : (p : ℕ) (edges : List Arc) (k : ℕ) (e : Arc) → slice_get (leaving p edges) k ≡ Some e → e.from ≡ p
leaving_from p edges k e at =
    (each_got (λ e. (e.from ≡ p) × In e edges) (leaving p edges) k e (each_leaving (λ e. In e edges) p edges (each_in edges)) at).0

pub in_leaving : (p : ℕ) (edges : List Arc) (e : Arc) → In e edges → e.from ≡ p → In e (leaving p edges)
in_leaving p [] e m from = absurd m
in_leaving p (f ∷ edges) e m from = by (f.from == p) refl m (λ m. in_leaving p edges e m from)
  where
    by : (t : Bool) → (f.from == p) ≡ t → (e ≡ f) ⊎ In e edges → (In e edges → In e (leaving p edges)) → In e (cond t (f ∷ leaving p edges) (leaving p edges))
    by true s (inl k) go = inl k
    by true s (inr k) go = inr (go k)
    by false s (inl k) go = let same = eq-eqb f.from p (ap (λ (z : Arc). z.from) (sym k) ∙ from) in absurd (cc)
    by false s (inr k) go = go k

-- a point that is a head in either way of saying it
pub is_the_head : (points : List PointInfo) (p : ℕ) → p < length points → IsHead points p → is_head points p ≡ true
is_the_head [] p lt h = absurd (omega arith)
is_the_head (point ∷ points) zero lt h = h
is_the_head (point ∷ points) (suc p) lt h = is_the_head points p (omega arith) h

-- the annotations have the same rows at points above p and at heads
pub record AgreeAbove (points : List PointInfo) (p : ℕ) (a b : PointRows) : Type 0 where
  pub above : (q : ℕ) → p < q → a q ≡ b q
  pub heads : (q : ℕ) → is_head points q ≡ true → a q ≡ b q

agrees : (points : List PointInfo) (variables p : ℕ) (a b : PointRows) → AgreeAbove points p a b → (edges : List Arc) →
    Each (λ e. (e.from ≡ p) × LeadsUp points variables e) edges → Agree a b edges
agrees points variables p a b h [] all = tt
agrees points variables p a b h (e ∷ edges) all = (by all.0.1.rises, agrees points variables p a b h edges all.1)
  where
    by : (e.from < e.to) ⊎ IsHead points e.to → a e.to ≡ b e.to
    by (inl up) = h.above e.to (let from = all.0.0 in omega arith)
    by (inr head) = h.heads e.to (is_the_head points e.to all.0.1.reaches head)

pub agree_leaving : (points : List PointInfo) (variables p : ℕ) (a b : PointRows) (edges : List Arc) → Each (LeadsUp points variables) edges → AgreeAbove points p a b →
    Agree a b (leaving p edges)
agree_leaving points variables p a b edges leads h = agrees points variables p a b h (leaving p edges) (each_leaving (LeadsUp points variables) p edges leads)
