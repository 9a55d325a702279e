-- What is inferred of straight graphs is exact.
use Rattle.std.proofs.Common.{ℕ, ◌-◌, pos, ◌≤ℤ◌, List, [], ◌∷◌, ◌++◌, subst}
use Rattle.std.specs.Prelude.{replicate}
use Rattle.pc_rows.specs.Linear.{Linear, MeetsAll}
use Rattle.pc_rows.specs.Linear.{State}
use Rattle.pc_flow.proofs.Witness.{broken_has_walk}
use Rattle.pc_flow.specs.Annotation.{rows_at}
use Rattle.pc_lower.specs.Annotation.{no_rows}
use Rattle.pc_lower.proofs.Paying.{need_is_owed}
use Rattle.pc_replay.proofs.Sound.{entered_value, entered_long}
use Rattle.pc_certify.specs.Candidates.{graph_need}
use Rattle.pc_certify.specs.Laws.{InferIsExactOnGraphs}

-- the locals are 0 at the entry

left_meets : (rows : List Linear) (m : ℕ) (s : State) → MeetsAll (s ++ replicate m (pos 0)) rows → MeetsAll s rows
left_meets [] m s h = tt
left_meets (r ∷ rows) m s h = (subst (λ z. pos 0 ≤ℤ z) (entered_value r m s) h.0, left_meets rows m s h.1)

pub infer_is_exact_on_graphs : InferIsExactOnGraphs
infer_is_exact_on_graphs g c kept straight exact s entry not =
    broken_has_walk g (rows_at (graph_need g)) s
    (record { edges = straight.edges; owed = need_is_owed g (no_rows g.points) kept straight.heads })
    (entered_long g s kept entry)
    (λ meets. not (exact straight.tame s (left_meets (rows_at (graph_need g) 0) (g.variables - g.params) s meets)))
