-- The proofs of removed rows.
use Rattle.std.proofs.Common.{◌≡◌, ℕ, ◌+◌, ◌<◌, ◌≤◌, refl, sym, ◌∙◌, ap, subst, List, [], ◌∷◌, ◌++◌, length, drop, get_or, Option, Some, None, Result, Ok, Err, inl, inr, append_assoc}
use Rattle.std.proofs.lemmas.List.{append-nil, drop_all}
use Rattle.pc_rows.specs.declared.rows.NoMemory.{NoMemory}
use Rattle.pc_rows.specs.Linear.{Linear}
use Rattle.pc_rows.specs.Evidence.{System, Proof}
use Rattle.pc_rows.specs.Shows.{Shows}
use Rattle.pc_rows.proofs.Adding.{drop_at}
use Rattle.pc_rows.proofs.Joining.{each_join}
use Rattle.pc_entail.specs.declared.renewal.Removed.{Removed}
use Rattle.pc_entail.specs.Showing.{question, IsNotFound, SomeNotFound, AllShown}
use Rattle.pc_entail.specs.Steps.{rows_of, AllProved, FoundIs, RenewedIs, WithIs, GoesIs}
use Rattle.pc_entail.proofs.Finding.{removed_stays}

pub proved_shown : (rows : List Linear) (removed : List Removed) → AllProved rows removed → AllShown rows (rows_of removed)
proved_shown rows [] h = tt
proved_shown rows (q ∷ removed) h = ((q.proof, h.0), proved_shown rows removed h.1)

-- what is found of a system is found of what it asks
pub asked_found : (rows : List Linear) (goal : Linear) (system : System) (found : Option Proof) → system ≡ question rows goal → FoundIs system.premises system.goal (Ok found) → FoundIs rows goal (Ok found)
asked_found rows goal system found is h = subst (λ (s : System). FoundIs s.premises s.goal (Ok found)) is h

pub asked_renewed : (rows : List Linear) (goal : Linear) (system : System) (removed : List Removed) (found : Option (List Removed)) → system ≡ question rows goal → RenewedIs system.premises removed (Ok found) → RenewedIs rows removed (Ok found)
asked_renewed rows goal system removed found is h = subst (λ (s : System). RenewedIs s.premises removed (Ok found)) is h

pub asked_anew : (rows premises : List Linear) (goal r : Linear) (system : System) (found : Option Proof) → system ≡ question premises goal → premises ≡ rows → FoundIs system.premises r (Ok found) → FoundIs rows r (Ok found)
asked_anew rows premises goal r system found is same h = subst (λ (z : List Linear). FoundIs z r (Ok found)) (ap (λ (s : System). s.premises) is ∙ same) h

rows-join : (a b : List Removed) → rows_of (a ++ b) ≡ rows_of a ++ rows_of b
rows-join [] b = refl
rows-join (q ∷ a) b = ap (λ (z : List Linear). q.row ∷ z) (rows-join a b)

-- so many removed rows have new proofs
pub record Renewing (rows : List Linear) (removed : List Removed) (i : ℕ) (all : List Removed) : Type 0 where
  pub same : rows_of all ++ rows_of (drop i removed) ≡ rows_of removed
  pub proved : AllProved rows all
  pub fails : SomeNotFound rows (rows_of (drop i removed)) → SomeNotFound rows (rows_of removed)

module _ (rows : List Linear) (removed : List Removed) where
  pub renewing_first : Renewing rows removed 0 []
  renewing_first = record { same = refl; proved = tt; fails = λ h. h }

  pub renewing_more : (i : ℕ) (all new : List Removed) (old : Removed) (p : Proof) → i < length removed → old ≡ get_or removed i old → Shows rows old.row p →
      new ≡ all ++ (record { row = old.row; proof = p }) ∷ [] → Renewing rows removed i all → Renewing rows removed (i + 1) new
  renewing_more i all new old p lt at shows is g =
      let here = drop_at removed i old lt at in
      let q : Removed = record { row = old.row; proof = p } in
      record {
        same =
            ap (λ (z : List Removed). rows_of z ++ rows_of (drop (i + 1) removed)) is
            ∙ ap (λ (z : List Linear). z ++ rows_of (drop (i + 1) removed)) (rows-join all (q ∷ []))
            ∙ append_assoc (rows_of all) (old.row ∷ []) (rows_of (drop (i + 1) removed))
            ∙ ap (λ (z : List Removed). rows_of all ++ rows_of z) (sym here)
            ∙ g.same;
        proved = subst (AllProved rows) (sym is) (each_join (λ (x : Removed). Shows rows x.row x.proof) all (q ∷ []) g.proved (shows, tt));
        fails = λ h. g.fails (subst (λ (z : List Removed). SomeNotFound rows (rows_of z)) (sym here) (inr h));
      }

  pub renewing_fails : (i : ℕ) (all : List Removed) (old : Removed) → i < length removed → old ≡ get_or removed i old → IsNotFound rows old.row → Renewing rows removed i all →
      SomeNotFound rows (rows_of removed)
  renewing_fails i all old lt at fails g = g.fails (subst (λ (z : List Removed). SomeNotFound rows (rows_of z)) (sym (drop_at removed i old lt at)) (inl fails))

  pub renewing_last : (i : ℕ) (all : List Removed) → length removed ≤ i → Renewing rows removed i all → (rows_of all ≡ rows_of removed) × AllProved rows all
  renewing_last i all past g =
      (sym (append-nil (rows_of all)) ∙ ap (λ (z : List Removed). rows_of all ++ rows_of z) (sym (drop_all i removed past)) ∙ g.same, g.proved)

  -- the row that goes comes behind those that went
  pub with_row : (r : Linear) (p : Proof) (found : Option (List Removed)) (result : Result (Option (List Removed)) NoMemory) →
      RenewedIs rows removed (Ok found) → Shows rows r p → WithIs found r p result → GoesIs rows (rows_of removed ++ r ∷ []) result
  with_row r p (Some all) (Ok (Some new)) h shows is = (
    ap rows_of is ∙ rows-join all ((record { row = r; proof = p }) ∷ []) ∙ ap (λ (z : List Linear). z ++ r ∷ []) h.0,
    subst (AllProved rows) (sym is) (each_join (λ (x : Removed). Shows rows x.row x.proof) all ((record { row = r; proof = p }) ∷ []) h.1 (shows, tt)),
  )
  with_row r p (Some all) (Ok None) h shows is = absurd is
  with_row r p (Some all) (Err e) h shows is = tt
  with_row r p None (Ok (Some new)) h shows is = absurd is
  with_row r p None (Ok None) h shows is = removed_stays rows (rows_of removed) r h
  with_row r p None (Err e) h shows is = tt
