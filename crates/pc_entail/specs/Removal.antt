-- Which rows of a list are removed, as the questions are settled.
use Rattle.std.specs.Prelude.{◌≡◌, ◌⊎◌, ◌++◌, ℕ, List, [], ◌∷◌, length, Option, Some, None, Result, Ok, Err}
use Rattle.pc_rows.specs.declared.rows.NoMemory.{NoMemory}
use Rattle.pc_rows.specs.Linear.{Linear}
use Rattle.pc_rows.specs.Evidence.{System, Proof}
use Rattle.pc_rows.specs.Shows.{Proves, IsEvidence}
use Rattle.pc_entail.specs.declared.renewal.Removed.{Removed}
use Rattle.pc_entail.specs.Showing.{question}
use Rattle.pc_entail.specs.Found.{IsProofFound}
use Rattle.pc_entail.specs.Composition.{IsComposed}

-- the new proof of a row that was removed, where the premise at `place` goes, which `gone` shows: the old proof with `gone` in that premise's
-- place, where this proves the row from the rows that stay; else the proof that is found
abbrev pub IsRenewed : List Linear → ℕ → Proof → Removed → Proof → Type 0
IsRenewed stay place gone old p =
    (IsComposed old.proof gone place p × Proves stay old.row p) ⊎
    (((q : Proof) → IsComposed old.proof gone place q → Proves stay old.row q → ⊥) × IsProofFound (question stay old.row) p)

-- the removed rows, each with its new proof
abbrev pub AreRenewed : List Linear → ℕ → Proof → List Removed → List Removed → Type 0
AreRenewed stay place gone [] [] = Unit {0}
AreRenewed stay place gone [] (q ∷ new) = ⊥
AreRenewed stay place gone (old ∷ removed) [] = ⊥
AreRenewed stay place gone (old ∷ removed) (q ∷ new) =
    ((q.row ≡ old.row) × IsRenewed stay place gone old q.proof) × AreRenewed stay place gone removed new

-- a row goes where the rows that would stay are found to show it, and each row that was removed before has a new proof
pub record Goes (kept : List Linear) (removed : List Removed) (r : Linear) (later : List Linear) (new : List Removed) : Type 0 where
  pub gone : Proof
  pub found : IsProofFound (question (kept ++ later) r) gone
  pub before : List Removed
  pub renewed : AreRenewed (kept ++ later) (length kept) gone removed before
  pub is : new ≡ before ++ (record { row = r; proof = gone }) ∷ []

-- The rows are gone through from the first to the last, and each goes or is kept.
abbrev pub Removes : List Linear → List Removed → List Linear → List Linear → Type 0
Removes kept removed [] answer = answer ≡ kept
Removes kept removed (r ∷ later) answer =
    ((new : List Removed) × Goes kept removed r later new × Removes kept new later answer) ⊎
    (((new : List Removed) → Goes kept removed r later new → ⊥) × Removes (kept ++ r ∷ []) removed later answer)

-- the rows that are left of a list
abbrev pub AreLeft : List Linear → List Linear → Type 0
AreLeft rows answer = Removes [] [] rows answer

-- a list leaves one list
abbrev pub LeavesOnce : Type 0
LeavesOnce = (rows a b : List Linear) → AreLeft rows a → AreLeft rows b → a ≡ b

-- a guess at a proof, where it is one; else the proof that is found
abbrev pub CheckedIs : System → Proof → Result (Option Proof) NoMemory → Type 0
CheckedIs s guess (Ok (Some p)) = ((p ≡ guess) × IsEvidence s guess) ⊎ ((IsEvidence s guess → ⊥) × IsProofFound s p)
CheckedIs s guess (Ok None) = (IsEvidence s guess → ⊥) × ((p : Proof) → IsProofFound s p → ⊥)
CheckedIs s guess (Err e) = Unit {0}

-- one row, before the later ones, goes or is kept
abbrev pub TakesStep : List Linear → List Removed → Linear → List Linear → Result (Unit {0}) NoMemory → List Linear → List Removed → Type 0
TakesStep kept removed r later (Ok u) new_kept new_removed =
    (Goes kept removed r later new_removed × (new_kept ≡ kept)) ⊎
    (((new : List Removed) → Goes kept removed r later new → ⊥) × (new_kept ≡ kept ++ r ∷ []) × (new_removed ≡ removed))
TakesStep kept removed r later (Err e) new_kept new_removed = Unit {0}
