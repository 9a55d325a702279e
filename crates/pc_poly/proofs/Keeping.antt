-- Rows that are kept since others show them.
use Rattle.std.proofs.Common.{◌≡◌, ◌∙◌, ℕ, ◌+◌, ◌<◌, List, [], ◌∷◌, ◌++◌, length, length-append, take, slice_get, Some, refl, sym, ap, subst, arith, inl, inr}
use Rattle.std.specs.Prelude.{◌≢◌, ◌⊎◌, Result, Ok}
use Rattle.std.proofs.lemmas.List.{take_more}
use Rattle.std.proofs.lemmas.Option.{slice_get_within, get_or_from_slice_get}
use Rattle.pc_rows.specs.Linear.{Linear, State, Meets, MeetsAll}
use Rattle.pc_rows.specs.Evidence.{Proof}
use Rattle.pc_rows.specs.declared.rows.NoMemory.{NoMemory}
use Rattle.pc_rows.proofs.Farkas.{shown_is_met}
use Rattle.pc_rows.proofs.Meeting.{meets_left, meets_right, meets_join}
use Rattle.pc_elim.specs.declared.decision.Answer.{Answer}
use Rattle.pc_elim.specs.declared.decision.Answer.TheVariants.{Shown}
use Rattle.pc_elim.specs.Deciding.{DecideIs}
use Rattle.pc_entail.specs.Showing.{question}
use Rattle.pc_poly.specs.Rows.{gathered, KeepsShown, IsKept}
use Rattle.pc_poly.proofs.Gathering.{gathered_each}

-- a row that is found to be shown is met
pub found_met : (rows : List Linear) (r : Linear) (found : Result Answer NoMemory) (p : Proof) → DecideIs (question (rows ++ []) r) found → found ≡ Ok (Shown p) →
    (s : State) → MeetsAll s rows → Meets s r
found_met rows r found p h is s m =
    let evidence = subst (DecideIs (question (rows ++ []) r)) is h in
    shown_is_met (rows ++ []) r p s evidence.shows (meets_join s rows [] m tt)

pub kept_none : (other : List Linear) → IsKept [] other []
kept_none other = record { few = omega arith; all = λ e. refl; own = λ s h. tt; shown = λ s h. tt }

module _ (rows other kept : List Linear) (r : Linear) (so_far : IsKept rows other kept) where
  next : (new : List Linear) → KeepsShown other r kept new → IsKept (rows ++ r ∷ []) other new
  next new (inl is) =
      subst (IsKept (rows ++ r ∷ []) other) (sym is)
      (record {
        few = let l = length-append rows (r ∷ []) in let few = so_far.few in omega arith;
        all = λ e. absurd (let l = length-append rows (r ∷ []) in let few = so_far.few in omega arith);
        own = λ s h. so_far.own s (meets_left s rows (r ∷ []) h);
        shown = so_far.shown;
      })
  next new (inr (is, shows)) =
      subst (IsKept (rows ++ r ∷ []) other) (sym is)
      (record {
        few = let l = length-append rows (r ∷ []) in let l2 = length-append kept (r ∷ []) in let few = so_far.few in omega arith;
        all = λ e. ap (λ (z : List Linear). z ++ r ∷ []) (so_far.all (let l = length-append rows (r ∷ []) in let l2 = length-append kept (r ∷ []) in omega arith));
        own = λ s h. meets_join s kept (r ∷ []) (so_far.own s (meets_left s rows (r ∷ []) h)) (meets_right s rows (r ∷ []) h);
        shown = λ s h. meets_join s kept (r ∷ []) (so_far.shown s h) (shows s h, tt);
      })

-- one row more is looked at
pub kept_next : (rows other kept new : List Linear) (i : ℕ) (r : Linear) → slice_get rows i ≡ Some r → IsKept (take i rows) other kept → KeepsShown other r kept new →
    IsKept (take (i + 1) rows) other new
kept_next rows other kept new i r at so_far keeps =
    let is = take_more rows i r (slice_get_within rows i r at) ∙ ap (λ (z : Linear). take i rows ++ z ∷ []) (get_or_from_slice_get rows i r r at) in
    subst (λ (z : List Linear). IsKept z other new) (sym is) (next (take i rows) other kept r so_far new keeps)

-- the rows of either list that the other one shows are met by the states of either
pub kept_hull : (a b kept others : List Linear) (s : State) → IsKept a b kept → IsKept b a others → MeetsAll s a ⊎ MeetsAll s b → MeetsAll s (gathered (gathered [] kept) others)
kept_hull a b kept others s h g (inl m) = gathered_each (Meets s) (gathered [] kept) others (gathered_each (Meets s) [] kept tt (h.own s m)) (g.shown s m)
kept_hull a b kept others s h g (inr m) = gathered_each (Meets s) (gathered [] kept) others (gathered_each (Meets s) [] kept tt (h.shown s m)) (g.own s m)

module _ (rows other kept : List Linear) (h : IsKept rows other kept) where
  pub kept_either : (s : State) → MeetsAll s rows ⊎ MeetsAll s other → MeetsAll s kept
  kept_either s (inl m) = h.own s m
  kept_either s (inr m) = h.shown s m

  -- where as many are kept as there are, the others show all
  pub kept_all : length kept ≡ length rows → (s : State) → MeetsAll s other → MeetsAll s rows
  kept_all same s m = subst (MeetsAll s) (h.all same) (h.shown s m)

  pub kept_fewer : length kept ≢ length rows → length kept < length rows
  kept_fewer other' = let few = h.few in grind arith
