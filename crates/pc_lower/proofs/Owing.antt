-- What the edges of a head owe, edge by edge.
use Rattle.std.proofs.Common.{◌≡◌, ◌∙◌, ℕ, ◌+◌, ◌≤◌, List, ◌∷◌, ◌++◌, drop, length, sym, ap, subst, Some, slice_get, Err}
use Rattle.std.specs.List.{AllByRecursion as Each}
use Rattle.std.proofs.lemmas.List.{drop_all}
use Rattle.pc_rows.specs.Linear.{Linear}
use Rattle.pc_rows.proofs.Adding.{drop_got}
use Rattle.pc_rows.proofs.Joining.{each_left, each_right}
use Rattle.pc_flow.specs.Arc.{Arc}
use Rattle.pc_flow.specs.Carry.{owes}
use Rattle.pc_flow.specs.Exact.{PointRows}
use Rattle.pc_flow.specs.Flow.{Flow}
use Rattle.pc_flow.specs.Incidence.{leaving}
use Rattle.pc_lower.specs.declared.fault.CandidateFault.{CandidateFault}
use Rattle.pc_lower.specs.declared.mode.Mode.{Mode}
use Rattle.pc_lower.specs.Candidate.{with_owed, with_edge_owed, turned_from}
use Rattle.pc_lower.specs.Course.{owed_operations, edge_owed_operations, edges_carries}
use Rattle.pc_lower.specs.Operations.{Operation, Fits, Answers, after_all, operations_of_all, carries}
use Rattle.pc_lower.proofs.Answering.{Left, left_all, left_over, refused}
use Rattle.pc_lower.proofs.Going.{Goes, goes_none, goes_next, goes_refused, goes_all}

-- ---- what is owed over each edge is carried back

module _ (a : PointRows) (some : List Arc) where
  abbrev pub Carried : ℕ → Type 0
  Carried k = Left (edges_carries a (drop k some)) (edges_carries a some)

  pub carried_none : Carried 0
  carried_none = left_all (edges_carries a some)

  module _ (k : ℕ) (e : Arc) (at : slice_get some k ≡ Some e) (so_far : Carried k) where
    carried_opened : Left (carries e.what (a e.to) ++ edges_carries a (drop (k + 1) some)) (edges_carries a some)
    carried_opened = subst (λ (z : List Arc). Left (edges_carries a z) (edges_carries a some)) (drop_got some k e at) so_far

    pub carried_here : (target : List Linear) → target ≡ a e.to → Each Fits (carries e.what target) → Carried (k + 1)
    carried_here target same fit =
        left_over (carries e.what (a e.to)) (edges_carries a (drop (k + 1) some)) (edges_carries a some) carried_opened
        (subst (λ (z : List Linear). Each Fits (carries e.what z)) same fit)

    pub carried_refused : {A B : Type 0} (target : List Linear) (part : A) (value : B) (f : CandidateFault) → target ≡ a e.to → Answers (carries e.what target) part (Err f) →
        Answers (edges_carries a some) value (Err f)
    carried_refused target part value f same answer =
        refused (carries e.what (a e.to)) (edges_carries a (drop (k + 1) some)) (edges_carries a some) part value f carried_opened
        (subst (λ (z : List Linear). Answers (carries e.what z) part (Err f)) same answer)

  pub carried_all : (k : ℕ) → length some ≤ k → Carried k → Each Fits (edges_carries a some)
  carried_all k le so_far = so_far.fit (subst (λ (z : List Arc). Each Fits (edges_carries a z)) (sym (drop_all k some le)) tt)

-- ---- the edges one after the other

module _ (g : Flow) (m : Mode) (h : ℕ) (a : PointRows) where
  abbrev some : List Arc
  some = leaving h g.edges

  abbrev edge_step : List Linear → Arc → List Linear
  edge_step = with_edge_owed g m a (a h)

  abbrev edge_step_operations : List Linear → Arc → List Operation
  edge_step_operations = edge_owed_operations g m a (a h)

  -- the rows so far, and that what is left to be carried back is in range
  pub record Passes (k : ℕ) (rows : List Linear) : Type 0 where
    pub goes : Goes (with_edge_owed g m a (a h)) (edge_owed_operations g m a (a h)) (a h) (leaving h g.edges) (drop k (leaving h g.edges)) rows
    pub carried : Each Fits (edges_carries a (drop k (leaving h g.edges)))

  pub passes_none : (rows : List Linear) → rows ≡ a h → Each Fits (edges_carries a (leaving h g.edges)) → Passes 0 rows
  passes_none rows is fit = subst (Passes 0) (sym is) (record { goes = goes_none edge_step edge_step_operations (a h) some; carried = fit })

  module _ (k : ℕ) (e : Arc) (rows : List Linear) (at : slice_get (leaving h g.edges) k ≡ Some e) (so_far : Passes k rows) where
    abbrev rest : List Arc
    rest = drop (k + 1) some

    opened : Goes edge_step edge_step_operations (a h) some (e ∷ rest) rows × Each Fits (edges_carries a (e ∷ rest))
    opened =
        subst (λ (z : List Arc). Goes edge_step edge_step_operations (a h) some z rows × Each Fits (edges_carries a z)) (drop_got some k e at) (so_far.goes, so_far.carried)

    pub carried_target : (target : List Linear) → target ≡ a e.to → Each Fits (carries e.what target)
    carried_target target same =
        subst (λ (z : List Linear). Each Fits (carries e.what z)) (sym same) (each_left Fits (carries e.what (a e.to)) (edges_carries a rest) opened.1)

    abbrev pub step : List Linear → List Linear → List Linear
    step begun target = after_all (with_owed g m e begun) rows (owes e.what target)

    abbrev pub step_operations : List Linear → List Linear → List Operation
    step_operations begun target = operations_of_all (with_owed g m e begun) (owed_operations g m e begun) rows (owes e.what target)

    pub passes_here : (begun target new : List Linear) → begun ≡ a h → target ≡ a e.to → Each Fits (step_operations begun target) → new ≡ step begun target → Passes (k + 1) new
    passes_here begun target new start same fit is = record {
      goes = goes_next edge_step edge_step_operations (a h) some e rest rows new opened.0
          (subst (λ (z : List Linear). Each Fits (step_operations (a h) z)) same (subst (λ (z : List Linear). Each Fits (step_operations z target)) start fit))
          (is ∙ ap (λ (z : List Linear). step z target) start ∙ ap (step (a h)) same);
      carried = each_right Fits (carries e.what (a e.to)) (edges_carries a rest) opened.1;
    }

    pub passes_refused : {A B : Type 0} (begun target : List Linear) (part : A) (value : B) (f : CandidateFault) → begun ≡ a h → target ≡ a e.to →
        Answers (step_operations begun target) part (Err f) →
        Answers (operations_of_all (with_edge_owed g m a (a h)) (edge_owed_operations g m a (a h)) (a h) (leaving h g.edges)) value (Err f)
    passes_refused begun target part value f start same answer =
        goes_refused edge_step edge_step_operations (a h) some e rest rows part value f opened.0
        (subst (λ (z : List Linear). Answers (step_operations (a h) z) part (Err f)) same (subst (λ (z : List Linear). Answers (step_operations z target) part (Err f)) start answer))

  pub passes_all : (k : ℕ) (rows : List Linear) → length (leaving h g.edges) ≤ k → Passes k rows →
      Each Fits (operations_of_all (with_edge_owed g m a (a h)) (edge_owed_operations g m a (a h)) (a h) (leaving h g.edges)) × (rows ≡ turned_from g m h a)
  passes_all k rows le so_far =
      goes_all edge_step edge_step_operations (a h) some rows
      (subst (λ (z : List Arc). Goes edge_step edge_step_operations (a h) some z rows) (drop_all k some le) so_far.goes)
