-- Which rows are left of a list, row by row.
use Rattle.std.proofs.Common.{◌≡◌, ◌∙◌, ℕ, ◌+◌, ◌<◌, ◌≤◌, refl, sym, ap, subst, List, [], ◌∷◌, ◌++◌, length, drop, get_or, slice_get, Option, Some, None, Result, Ok, Err, inl, inr, append_assoc}
use Rattle.std.specs.Prelude.{◌⊎◌, IfOk}
use Rattle.std.proofs.lemmas.List.{append-nil, drop_all}
use Rattle.pc_rows.specs.declared.rows.NoMemory.{NoMemory}
use Rattle.pc_rows.specs.Linear.{Linear}
use Rattle.pc_rows.specs.Evidence.{System, Proof}
use Rattle.pc_rows.specs.Shows.{Proves}
use Rattle.pc_rows.proofs.Adding.{drop_got, drop_at}
use Rattle.pc_entail.specs.declared.renewal.Removed.{Removed}
use Rattle.pc_entail.specs.Showing.{question}
use Rattle.pc_entail.specs.Found.{IsProofFound, Gives}
use Rattle.pc_entail.specs.Composition.{IsComposed}
use Rattle.pc_entail.specs.Composing.{ComposedIs}
use Rattle.pc_entail.specs.Steps.{WithIs}
use Rattle.pc_entail.specs.Removal.{IsRenewed, AreRenewed, Goes, Removes, AreLeft, LeavesOnce, CheckedIs, TakesStep}
use Rattle.pc_entail.proofs.Composing.{composed_once}
use Rattle.pc_entail.proofs.Settling.{proof_once}

-- ---- the new proof of one row

module _ (stay : List Linear) (place : ℕ) (gone : Proof) (old : Removed) where
  checked_renews : (guess : Proof) (result : Result (Option Proof) NoMemory) → IsComposed old.proof gone place guess →
      CheckedIs (question stay old.row) guess result → Gives (IsRenewed stay place gone old) result
  checked_renews guess (Ok (Some p)) composed (inl (is, proves)) =
      inl (subst (IsComposed old.proof gone place) (sym is) composed, subst (Proves stay old.row) (sym is) proves)
  checked_renews guess (Ok (Some p)) composed (inr (fails, found)) =
      inr (λ q h proves. fails (subst (Proves stay old.row) (composed_once old.proof gone place q guess h composed) proves), found)
  checked_renews guess (Ok None) composed (fails, none) = λ p h. by p h
    where
      by : (p : Proof) → IsRenewed stay place gone old p → ⊥
      by p (inl (h, proves)) = fails (subst (Proves stay old.row) (composed_once old.proof gone place p guess h composed) proves)
      by p (inr (h, found)) = none p found
  checked_renews guess (Err e) composed h = tt

  found_renews : (result : Result (Option Proof) NoMemory) → ComposedIs old.proof gone place (Ok None) → Gives (IsProofFound (question stay old.row)) result →
      Gives (IsRenewed stay place gone old) result
  found_renews (Ok (Some p)) past found = inr (λ q h proves. past h.fits, found)
  found_renews (Ok None) past none = λ p h. by p h
    where
      by : (p : Proof) → IsRenewed stay place gone old p → ⊥
      by p (inl (h, proves)) = past h.fits
      by p (inr (h, found)) = none p found
  found_renews (Err e) past h = tt

  renewed_once : (p q : Proof) → IsRenewed stay place gone old p → IsRenewed stay place gone old q → p ≡ q
  renewed_once p q (inl h) (inl k) = composed_once old.proof gone place p q h.0 k.0
  renewed_once p q (inl h) (inr k) = absurd (k.0 p h.0 h.1)
  renewed_once p q (inr h) (inl k) = absurd (h.0 q k.0 k.1)
  renewed_once p q (inr h) (inr k) = proof_once (question stay old.row) p q h.1 k.1

-- the system asks for the row
module _ (s : System) (place : ℕ) (gone : Proof) (old : Removed) (same : old.row ≡ s.goal) where
  pub renews_checked : (guess : Proof) (result : Result (Option Proof) NoMemory) → IsComposed old.proof gone place guess → CheckedIs s guess result →
      Gives (IsRenewed s.premises place gone old) result
  renews_checked guess result composed h =
      checked_renews s.premises place gone old guess result composed (subst (λ (r : Linear). CheckedIs (question s.premises r) guess result) (sym same) h)

  pub renews_found : (result : Result (Option Proof) NoMemory) → ComposedIs old.proof gone place (Ok None) → Gives (IsProofFound s) result →
      Gives (IsRenewed s.premises place gone old) result
  renews_found result past h =
      found_renews s.premises place gone old result past (subst (λ (r : Linear). Gives (IsProofFound (question s.premises r)) result) (sym same) h)

-- the system's premises are the rows that stay
pub renews_anew : (rows premises : List Linear) (goal : Linear) (place : ℕ) (gone : Proof) (old : Removed) (s : System) (found : Option Proof) → s ≡ question premises goal → premises ≡ rows →
    Gives (IsRenewed s.premises place gone old) (Ok found) → Gives (IsRenewed rows place gone old) (Ok found)
renews_anew rows premises goal place gone old s found is same h =
    subst (λ (z : List Linear). Gives (IsRenewed z place gone old) (Ok found)) (ap (λ (z : System). z.premises) is ∙ same) h

-- ---- the new proofs of all of them

module _ (stay : List Linear) (place : ℕ) (gone : Proof) where
  all_once : (removed a b : List Removed) → AreRenewed stay place gone removed a → AreRenewed stay place gone removed b → a ≡ b
  all_once [] [] [] h k = refl
  all_once [] [] (y ∷ b) h k = absurd k
  all_once [] (x ∷ a) b h k = absurd h
  all_once (old ∷ removed) [] b h k = absurd h
  all_once (old ∷ removed) (x ∷ a) [] h k = absurd k
  all_once (old ∷ removed) (x ∷ a) (y ∷ b) h k =
      let p = renewed_once stay place gone old x.proof y.proof h.0.1 k.0.1 in
      let r = h.0.0 ∙ sym k.0.0 in
      same_pair x.row y.row x.proof y.proof a b r p (all_once removed a b h.1 k.1)
    where
      same_pair : (r r' : Linear) (p p' : Proof) (a b : List Removed) → r ≡ r' → p ≡ p' → a ≡ b → (record { row = r; proof = p }) ∷ a ≡ (record { row = r'; proof = p' }) ∷ b
      same_pair r r' p p' a b e f g = cc

  module _ (removed : List Removed) where
    -- so many rows have new proofs
    pub record Renews (i : ℕ) (all : List Removed) : Type 0 where
      pub on : (rest : List Removed) → AreRenewed stay place gone (drop i removed) rest → AreRenewed stay place gone removed (all ++ rest)
      pub stuck : ((new : List Removed) → AreRenewed stay place gone (drop i removed) new → ⊥) → (new : List Removed) → AreRenewed stay place gone removed new → ⊥

    pub renews_first : Renews 0 []
    renews_first = record { on = λ rest h. h; stuck = λ h. h }

    first_renewed : (old : Removed) (later new : List Removed) → AreRenewed stay place gone (old ∷ later) new →
        (q : Removed) × (rest : List Removed) × IsRenewed stay place gone old q.proof × AreRenewed stay place gone later rest
    first_renewed old later [] h = absurd h
    first_renewed old later (q ∷ rest) h = (q, rest, h.0.1, h.1)

    pub renews_next : (i : ℕ) (all new : List Removed) (old : Removed) (p : Proof) → i < length removed → old ≡ get_or removed i old →
        IsRenewed stay place gone old p → new ≡ all ++ (record { row = old.row; proof = p }) ∷ [] → Renews i all → Renews (i + 1) new
    renews_next i all new old p lt at h is g =
        let here = drop_at removed i old lt at in
        let q : Removed = record { row = old.row; proof = p } in
        record {
          on = λ rest k. subst (AreRenewed stay place gone removed) (sym (append_assoc all (q ∷ []) rest) ∙ ap (λ (z : List Removed). z ++ rest) (sym is))
              (g.on (q ∷ rest) (subst (λ (z : List Removed). AreRenewed stay place gone z (q ∷ rest)) (sym here) ((refl, h), k)));
          stuck = λ none. g.stuck (λ x k. let f = first_renewed old (drop (i + 1) removed) x (subst (λ (z : List Removed). AreRenewed stay place gone z x) here k) in none f.1 f.3);
        }

    pub renews_stuck : (i : ℕ) (all : List Removed) (old : Removed) → i < length removed → old ≡ get_or removed i old →
        ((p : Proof) → IsRenewed stay place gone old p → ⊥) → Renews i all → (new : List Removed) → AreRenewed stay place gone removed new → ⊥
    renews_stuck i all old lt at none g =
        g.stuck (λ x k. let f = first_renewed old (drop (i + 1) removed) x (subst (λ (z : List Removed). AreRenewed stay place gone z x) (drop_at removed i old lt at) k) in none f.0.proof f.2)

    pub renews_last : (i : ℕ) (all : List Removed) → length removed ≤ i → Renews i all → AreRenewed stay place gone removed all
    renews_last i all past g =
        subst (AreRenewed stay place gone removed) (append-nil all) (g.on [] (subst (λ (z : List Removed). AreRenewed stay place gone z []) (sym (drop_all i removed past)) tt))

-- ---- whether a row goes

module _ (kept : List Linear) (removed : List Removed) (r : Linear) (later : List Linear) where
  module _ (s : System) (is : s ≡ question (kept ++ later) r) where
    pub goes_with : (place : ℕ) → place ≡ length kept → (gone : Proof) (all : Option (List Removed)) (result : Result (Option (List Removed)) NoMemory) → IsProofFound s gone →
        Gives (AreRenewed s.premises place gone removed) (Ok all) → WithIs all r gone result → Gives (Goes kept removed r later) result
    goes_with place at gone all result found renewed h =
        by all result (subst (λ (n : ℕ). Gives (AreRenewed (kept ++ later) n gone removed) (Ok all)) at (subst (λ (z : System). Gives (AreRenewed z.premises place gone removed) (Ok all)) is renewed)) h
      where
        here : IsProofFound (question (kept ++ later) r) gone
        here = subst (λ (z : System). IsProofFound z gone) is found

        by : (all : Option (List Removed)) (result : Result (Option (List Removed)) NoMemory) → Gives (AreRenewed (kept ++ later) (length kept) gone removed) (Ok all) →
            WithIs all r gone result → Gives (Goes kept removed r later) result
        by (Some all) (Ok (Some new)) renewed h = record { gone = gone; found = here; before = all; renewed = renewed; is = h }
        by (Some all) (Ok None) renewed h = absurd h
        by (Some all) (Err e) renewed h = tt
        by None (Ok (Some new)) renewed h = absurd h
        by None (Ok None) renewed h = λ new goes.
            renewed goes.before (subst (λ (p : Proof). AreRenewed (kept ++ later) (length kept) p removed goes.before) (proof_once (question (kept ++ later) r) goes.gone gone goes.found here) goes.renewed)
        by None (Err e) renewed h = tt

    pub stays_without : ((p : Proof) → IsProofFound s p → ⊥) → (new : List Removed) → Goes kept removed r later new → ⊥
    stays_without none new goes = none goes.gone (subst (λ (z : System). IsProofFound z goes.gone) (sym is) goes.found)

  goes_once : (a b : List Removed) → Goes kept removed r later a → Goes kept removed r later b → a ≡ b
  goes_once a b h k =
      let p = proof_once (question (kept ++ later) r) k.gone h.gone k.found h.found in
      let before = all_once (kept ++ later) (length kept) h.gone removed h.before k.before h.renewed
      (subst (λ (z : Proof). AreRenewed (kept ++ later) (length kept) z removed k.before) p k.renewed) in
      h.is
      ∙ ap (λ (z : List Removed). z ++ (record { row = r; proof = h.gone }) ∷ []) before
      ∙ ap (λ (z : Proof). k.before ++ (record { row = r; proof = z }) ∷ []) (sym p)
      ∙ sym k.is

  pub step_keeps : (result : Result (Unit {0}) NoMemory) (new : List Linear) → ((new : List Removed) → Goes kept removed r later new → ⊥) → IfOk result (λ u. new ≡ kept ++ r ∷ []) →
      TakesStep kept removed r later result new removed
  step_keeps (Ok u) new none is = inr (none, is, refl)
  step_keeps (Err e) new none is = tt

-- ---- all rows

-- so many rows are gone through
pub record Leaving (rows : List Linear) (i : ℕ) (kept : List Linear) (removed : List Removed) : Type 0 where
  pub goes_on : (answer : List Linear) → Removes kept removed (drop i rows) answer → AreLeft rows answer

pub leaving_first : (rows kept : List Linear) (removed : List Removed) → kept ≡ [] → removed ≡ [] → Leaving rows 0 kept removed
leaving_first rows kept removed a b = subst (λ (z : List Linear). Leaving rows 0 z removed) (sym a) (subst (Leaving rows 0 []) (sym b) (record { goes_on = λ answer h. h }))

pub leaving_next : (rows : List Linear) (i : ℕ) (kept : List Linear) (removed : List Removed) (r : Linear) (later new_kept : List Linear) (new_removed : List Removed) →
    Leaving rows i kept removed → slice_get rows i ≡ Some r → later ≡ drop (i + 1) rows → TakesStep kept removed r later (Ok tt) new_kept new_removed →
    Leaving rows (i + 1) new_kept new_removed
leaving_next rows i kept removed r later new_kept new_removed g at is step =
    record { goes_on = λ answer h. g.goes_on answer (subst (λ (z : List Linear). Removes kept removed z answer) (sym here) (by step answer (subst (λ (z : List Linear). Removes new_kept new_removed z answer) (sym is) h))) }
  where
    here : drop i rows ≡ r ∷ later
    here = drop_got rows i r at ∙ ap (λ (z : List Linear). r ∷ z) (sym is)

    by : (Goes kept removed r later new_removed × (new_kept ≡ kept)) ⊎
        (((new : List Removed) → Goes kept removed r later new → ⊥) × (new_kept ≡ kept ++ r ∷ []) × (new_removed ≡ removed)) →
        (answer : List Linear) → Removes new_kept new_removed later answer → Removes kept removed (r ∷ later) answer
    by (inl (goes, a)) answer h = inl (new_removed, goes, subst (λ (z : List Linear). Removes z new_removed later answer) a h)
    by (inr (stays, a, b)) answer h =
        inr (stays, subst (λ (z : List Linear). Removes z removed later answer) a (subst (λ (z : List Removed). Removes new_kept z later answer) b h))

pub leaving_last : (rows : List Linear) (i : ℕ) (kept : List Linear) (removed : List Removed) → Leaving rows i kept removed → length rows ≤ i → AreLeft rows kept
leaving_last rows i kept removed g past = g.goes_on kept (subst (λ (z : List Linear). Removes kept removed z kept) (sym (drop_all i rows past)) refl)

removes_once : (kept : List Linear) (removed : List Removed) (rows a b : List Linear) → Removes kept removed rows a → Removes kept removed rows b → a ≡ b
removes_once kept removed [] a b h k = h ∙ sym k
removes_once kept removed (r ∷ later) a b (inl h) (inl k) =
    removes_once kept h.0 later a b h.2 (subst (λ (z : List Removed). Removes kept z later b) (goes_once kept removed r later k.0 h.0 k.1 h.1) k.2)
removes_once kept removed (r ∷ later) a b (inl h) (inr k) = absurd (k.0 h.0 h.1)
removes_once kept removed (r ∷ later) a b (inr h) (inl k) = absurd (h.0 k.0 k.1)
removes_once kept removed (r ∷ later) a b (inr h) (inr k) = removes_once (kept ++ r ∷ []) removed later a b h.1 k.1

pub leaves_once : LeavesOnce
leaves_once rows a b h k = removes_once [] [] rows a b h k
