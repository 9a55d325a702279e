-- The loop that goes through the rows.
use Rattle.std.proofs.Common.{◌≡◌, ℕ, ◌+◌, ◌≤◌, refl, sym, subst, ◌∙◌, ap, arith, List, [], ◌∷◌, ◌++◌, length, length-append, drop, slice_get, Some, inl, inr, Ok}
use Rattle.std.specs.Prelude.{◌⊎◌}
use Rattle.std.proofs.lemmas.List.{drop_all}
use Rattle.pc_rows.specs.Linear.{Linear}
use Rattle.pc_rows.proofs.Adding.{drop_got}
use Rattle.pc_entail.specs.Showing.{AllShown}
use Rattle.pc_entail.specs.Reduction.{Thins, Thinned}
use Rattle.pc_entail.specs.declared.renewal.Removed.{Removed}
use Rattle.pc_entail.specs.Steps.{rows_of, AllProved, FailsToShow, StepIs}
use Rattle.pc_entail.proofs.Renewing.{proved_shown}

-- so many rows are gone through
pub record Going (rows : List Linear) (i : ℕ) (kept : List Linear) (removed : List Removed) : Type 0 where
  pub count : length kept ≤ i
  pub goes_on : (answer : List Linear) → Thins kept (rows_of removed) (drop i rows) answer → Thinned rows answer

pub going_first : (rows kept : List Linear) (removed : List Removed) → kept ≡ [] → removed ≡ [] → Going rows 0 kept removed
going_first rows kept removed a b =
    subst (λ (z : List Linear). Going rows 0 z removed) (sym a) (subst (Going rows 0 []) (sym b) (record { count = omega arith; goes_on = λ answer h. h }))

pub going_next : (rows : List Linear) (i : ℕ) (kept : List Linear) (removed : List Removed) (r : Linear) (later new_kept : List Linear) (new_removed : List Removed) → Going rows i kept removed →
    slice_get rows i ≡ Some r → later ≡ drop (i + 1) rows → StepIs kept removed r later (Ok tt) new_kept new_removed → Going rows (i + 1) new_kept new_removed
going_next rows i kept removed r later new_kept new_removed g at is step = by step
  where
    here : drop i rows ≡ r ∷ later
    here = drop_got rows i r at ∙ ap (λ (z : List Linear). r ∷ z) (sym is)

    on : (answer : List Linear) → Thins kept (rows_of removed) (r ∷ later) answer → Thinned rows answer
    on answer h = g.goes_on answer (subst (λ (z : List Linear). Thins kept (rows_of removed) z answer) (sym here) h)

    moved : (kept' removed' : List Linear) → new_kept ≡ kept' → rows_of new_removed ≡ removed' → length kept' ≤ i + 1 →
        ((answer : List Linear) → Thins kept' removed' later answer → Thins kept (rows_of removed) (r ∷ later) answer) → Going rows (i + 1) new_kept new_removed
    moved kept' removed' a b count more = record {
      count = subst (λ (z : List Linear). length z ≤ i + 1) (sym a) count;
      goes_on = λ answer h. on answer (more answer (subst (λ (z : List Linear). Thins kept' removed' z answer) (sym is)
          (subst (λ (z : List Linear). Thins kept' z (drop (i + 1) rows) answer) b (subst (λ (z : List Linear). Thins z (rows_of new_removed) (drop (i + 1) rows) answer) a h))));
    }

    by : (AllProved (kept ++ later) new_removed × (new_kept ≡ kept) × (rows_of new_removed ≡ rows_of removed ++ r ∷ [])) ⊎
        (FailsToShow (kept ++ later) (rows_of removed ++ r ∷ []) × (new_kept ≡ kept ++ r ∷ []) × (new_removed ≡ removed)) → Going rows (i + 1) new_kept new_removed
    by (inl (proved, a, b)) = moved kept (rows_of removed ++ r ∷ []) a b (let c = g.count in omega arith)
        (λ answer h. inl (subst (AllShown (kept ++ later)) b (proved_shown (kept ++ later) new_removed proved), h))
    by (inr (fails, a, b)) = moved (kept ++ r ∷ []) (rows_of removed) a (ap rows_of b) (let c = g.count in let l = length-append kept (r ∷ []) in omega arith) (λ answer h. inr (fails, h))

pub going_last : (rows : List Linear) (i : ℕ) (kept : List Linear) (removed : List Removed) → Going rows i kept removed → length rows ≤ i → Thinned rows kept
going_last rows i kept removed g past = g.goes_on kept (subst (λ (z : List Linear). Thins kept (rows_of removed) z kept) (sym (drop_all i rows past)) refl)
