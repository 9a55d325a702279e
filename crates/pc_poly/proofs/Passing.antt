-- Edges that lead from each point to the next one, and walks over them.
use Rattle.std.proofs.Common.{◌≡◌, ◌∙◌, ℕ, zero, suc, ◌+◌, ◌≤◌, List, [], ◌∷◌, Bool, true, false, Some, slice_get, refl, sym, ap, subst, inl, inr, arith, eq-eqb}
use Rattle.std.specs.Prelude.{◌==◌, filter}
use Rattle.std.proofs.lemmas.Bool.{ne_eqb}
use Rattle.pc_rows.specs.Linear.{State}
use Rattle.pc_flow.specs.Arc.{Arc}
use Rattle.pc_flow.specs.Flow.{Flow}
use Rattle.pc_flow.specs.Incidence.{entering}
use Rattle.pc_flow.specs.Lists.{In}
use Rattle.pc_flow.specs.Walk.{Pass, Walks, entered, Reach}
use Rattle.pc_poly.specs.Chains.{Follows}

abbrev pub Runs : ℕ → List Arc → Type 0
Runs n [] = Unit {0}
Runs n (e ∷ edges) = (e.from ≡ n) × (e.to ≡ suc n) × Runs (suc n) edges

pub runs_of : (n : ℕ) (edges : List Arc) → Follows n edges → Runs n edges
runs_of n [] h = tt
runs_of n (e ∷ edges) h =
    let next : n + 1 ≡ suc n = omega arith in
    (h.0, h.1 ∙ next, runs_of (suc n) edges (subst (λ (k : ℕ). Follows k edges) next h.3))

run_at : (n : ℕ) (edges : List Arc) (j : ℕ) (e : Arc) → Runs n edges → slice_get edges j ≡ Some e → (e.from ≡ n + j) × (e.to ≡ suc (n + j))
run_at n [] j e h at = absurd (cc)
run_at n (f ∷ edges) zero e h at =
    let same : f ≡ e = cc in
    subst (λ (x : Arc). (x.from ≡ n + 0) × (x.to ≡ suc (n + 0))) same ((let a = h.0 in omega arith), (let b = h.1 in omega arith))
run_at n (f ∷ edges) (suc j) e h at = let r = run_at (suc n) edges j e h.2 at in let a = r.0 in let b = r.1 in (omega arith, omega arith)

skips : (test : Arc → Bool) (e : Arc) (edges : List Arc) → test e ≡ false → filter test (e ∷ edges) ≡ filter test edges
skips test e edges is = rw is refl

takes : (test : Arc → Bool) (e : Arc) (edges : List Arc) → test e ≡ true → filter test (e ∷ edges) ≡ e ∷ filter test edges
takes test e edges is = rw is refl

-- no edge enters a point before the second
none_enters : (n p : ℕ) (edges : List Arc) → Runs n edges → p ≤ n → entering p edges ≡ []
none_enters n p [] h le = refl
none_enters n p (e ∷ edges) h le =
    skips (λ x. x.to == p) e edges (ne_eqb e.to p (λ is. let b = h.1 in omega arith)) ∙ none_enters (suc n) p edges h.2 (omega arith)

-- one edge enters each other point
pub one_enters : (n j p : ℕ) (edges : List Arc) (e : Arc) → Runs n edges → p ≡ suc (n + j) → slice_get edges j ≡ Some e → entering p edges ≡ e ∷ []
one_enters n j p [] e h is at = absurd (cc)
one_enters n zero p (f ∷ edges) e h is at =
    let same : f ≡ e = cc in
    takes (λ x. x.to == p) f edges (eq-eqb f.to p (let b = h.1 in omega arith))
    ∙ ap (λ (more : List Arc). f ∷ more) (none_enters (suc n) p edges h.2 (omega arith))
    ∙ ap (λ (x : Arc). x ∷ []) same
one_enters n (suc j) p (f ∷ edges) e h is at =
    skips (λ x. x.to == p) f edges (ne_eqb f.to p (λ eq. let b = h.1 in omega arith)) ∙ one_enters (suc n) j p edges e h.2 (omega arith) at

member : (edges : List Arc) (j : ℕ) (e : Arc) → slice_get edges j ≡ Some e → In e edges
member [] j e h = absurd (cc)
member (f ∷ edges) zero e h = inl (let same : f ≡ e = cc in sym same)
member (f ∷ edges) (suc j) e h = inr (member edges j e h)

place : (edges : List Arc) (e : Arc) → In e edges → (j : ℕ) × (slice_get edges j ≡ Some e)
place [] e m = absurd m
place (f ∷ edges) e (inl same) = (0, ap Some (sym same))
place (f ∷ edges) e (inr m) = let r = place edges e m in (suc r.0, r.1)

-- ---- walks

module _ (g : Flow) (runs : Runs 0 g.edges) (k : ℕ) (e : Arc) (at : slice_get g.edges k ≡ Some e) where
  pub ends : (e.from ≡ k) × (e.to ≡ suc k)
  ends = let r = run_at 0 g.edges k e runs at in let a = r.0 in let b = r.1 in (omega arith, omega arith)

  -- a walk comes to a point by the one edge that enters it
  pub came : (t : State) → Reach g (suc k) t → (u : State) × Pass e.what u t × Reach g k u
  came t (s, long, ([], w)) = absurd (let z = w.0 in omega arith)
  came t (s, long, (f ∷ es, w)) =
      let j = place g.edges f w.1 in
      let its = run_at 0 g.edges j.0 f runs j.1 in
      let here : j.0 ≡ k = let a = w.0 in let b = its.1 in omega arith in
      let same : f ≡ e = let got = j.1 in let moved = ap (slice_get g.edges) here in cc in
      let from : f.from ≡ k = let a = its.0 in omega arith in
      (w.2.0, subst (λ (x : Arc). Pass x.what w.2.0 t) same w.2.1, (s, long, (es, subst (λ (q : ℕ). Walks g.edges 0 (entered g s) es q w.2.0) from w.2.2)))

  pub goes : (u t : State) → Pass e.what u t → Reach g k u → Reach g (suc k) t
  goes u t pass (s, long, (es, w)) =
      (s, long, (e ∷ es, (sym ends.1, member g.edges k e at, (u, pass, subst (λ (q : ℕ). Walks g.edges 0 (entered g s) es q u) (sym ends.0) w))))
