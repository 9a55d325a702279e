-- The edges from a point, one after the other.
use Rattle.std.proofs.Common.{◌≡◌, ◌∙◌, ℕ, ◌+◌, ◌≤◌, List, [], ◌∷◌, ◌++◌, drop, length, sym, refl, ap, subst, Some, slice_get, Err}
use Rattle.std.specs.List.{AllByRecursion as Each}
use Rattle.std.proofs.lemmas.List.{drop_all}
use Rattle.pc_rows.specs.Linear.{Linear}
use Rattle.pc_rows.specs.Joins.{joined}
use Rattle.pc_rows.proofs.Adding.{drop_got}
use Rattle.pc_flow.specs.Arc.{Arc}
use Rattle.pc_flow.specs.Exact.{PointRows}
use Rattle.pc_lower.specs.declared.fault.CandidateFault.{CandidateFault}
use Rattle.pc_lower.specs.Need.{demanded, gathered}
use Rattle.pc_lower.specs.Operations.{Fits, Answers, edge_operations, edges_operations}
use Rattle.pc_lower.proofs.Answering.{Left, left_all, left_over, refused}

-- what is needed so far at a point, and what the edges from place k on demand
pub record Gathers (a : PointRows) (some : List Arc) (k : ℕ) (rows : List Linear) : Type 0 where
  pub rest : gathered a rows (drop k some) ≡ gathered a [] some
  pub left : Left (edges_operations a rows (drop k some)) (edges_operations a [] some)

gathers_by : (a : PointRows) (some more : List Arc) (k : ℕ) (rows : List Linear) → drop k some ≡ more → Gathers a some k rows →
    (gathered a rows more ≡ gathered a [] some) × Left (edges_operations a rows more) (edges_operations a [] some)
gathers_by a some more k rows same h = (
  ap (gathered a rows) (sym same) ∙ h.rest,
  subst (λ (z : List Arc). Left (edges_operations a rows z) (edges_operations a [] some)) same h.left,
)

module _ (a : PointRows) (some : List Arc) (k : ℕ) (e : Arc) (rows : List Linear) (at : slice_get some k ≡ Some e) (so_far : Gathers a some k rows) where
  abbrev more : List Arc
  more = drop (k + 1) some

  opened : (gathered a rows (e ∷ more) ≡ gathered a [] some) × Left (edges_operations a rows (e ∷ more)) (edges_operations a [] some)
  opened = gathers_by a some (e ∷ more) k rows (drop_got some k e at) so_far

  -- the operations over the edge are the next
  next_left : Left (edge_operations e.what rows (a e.to) ++ edges_operations a (joined rows (demanded e.what (a e.to))) more) (edges_operations a [] some)
  next_left = opened.1

  pub gathers_here : (target new : List Linear) → target ≡ a e.to → Each Fits (edge_operations e.what rows target) → new ≡ joined rows (demanded e.what target) →
      Gathers a some (k + 1) new
  gathers_here target new at_target fit is =
      let fits = subst (λ (z : List Linear). Each Fits (edge_operations e.what rows z)) at_target fit in
      let same = is ∙ ap (λ (z : List Linear). joined rows (demanded e.what z)) at_target in
      let left = left_over (edge_operations e.what rows (a e.to)) (edges_operations a (joined rows (demanded e.what (a e.to))) more) _ opened.1 fits in
      subst (Gathers a some (k + 1)) (sym same) (record { rest = opened.0; left = left })

  pub gathers_refused : (target part value : List Linear) (f : CandidateFault) → target ≡ a e.to → Answers (edge_operations e.what rows target) part (Err f) →
      Answers (edges_operations a [] some) value (Err f)
  gathers_refused target part value f at_target h =
      refused (edge_operations e.what rows (a e.to)) (edges_operations a (joined rows (demanded e.what (a e.to))) more) _ part value f next_left
      (subst (λ (z : List Linear). Answers (edge_operations e.what rows z) part (Err f)) at_target h)

pub gathers_none : (a : PointRows) (some : List Arc) → Gathers a some 0 []
gathers_none a some = record { rest = refl; left = left_all (edges_operations a [] some) }

pub gathers_all : (a : PointRows) (some : List Arc) (k : ℕ) (rows : List Linear) → length some ≤ k → Gathers a some k rows →
    Each Fits (edges_operations a [] some) × (rows ≡ gathered a [] some)
gathers_all a some k rows le h =
    let g = gathers_by a some [] k rows (drop_all k some le) h in
    (g.1.fit tt, g.0)
