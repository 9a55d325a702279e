-- One row of a list that is reduced.
use Rattle.std.specs.Prelude.{◌≡◌, ◌⊎◌, ◌++◌, List, [], ◌∷◌, map, Option, Some, None, Result, Ok, Err}
use Rattle.std.specs.List.{AllByRecursion}
use Rattle.pc_rows.specs.declared.rows.NoMemory.{NoMemory}
use Rattle.pc_rows.specs.Linear.{Linear}
use Rattle.pc_rows.specs.Evidence.{Proof}
use Rattle.pc_rows.specs.Shows.{Shows}
use Rattle.pc_entail.specs.declared.renewal.Removed.{Removed}
use Rattle.pc_entail.specs.Showing.{AllShown, IsNotFound, SomeNotFound}
use Rattle.pc_entail.specs.Reduction.{AllModest}

-- the removed rows without their proofs
abbrev pub rows_of : List Removed → List Linear
rows_of removed = map (λ q. q.row) removed

-- the proof of each removed row shows it from the rows
abbrev pub AllProved : List Linear → List Removed → Type 0
AllProved rows removed = AllByRecursion (λ q. Shows rows q.row q.proof) removed

-- a proof by which the rows show the goal, or none that is found
abbrev pub FoundIs : List Linear → Linear → Result (Option Proof) NoMemory → Type 0
FoundIs rows goal (Ok (Some p)) = Shows rows goal p
FoundIs rows goal (Ok None) = IsNotFound rows goal
FoundIs rows goal (Err e) = Unit {0}

-- the removed rows, each with a proof over the rows, or one of them is not found to be shown
abbrev pub RenewedIs : List Linear → List Removed → Result (Option (List Removed)) NoMemory → Type 0
RenewedIs rows removed (Ok (Some new)) = (rows_of new ≡ rows_of removed) × AllProved rows new
RenewedIs rows removed (Ok None) = SomeNotFound rows (rows_of removed)
RenewedIs rows removed (Err e) = Unit {0}

-- a row and its proof behind those of a list that may be none
abbrev pub WithIs : Option (List Removed) → Linear → Proof → Result (Option (List Removed)) NoMemory → Type 0
WithIs (Some all) r p (Ok (Some new)) = new ≡ all ++ (record { row = r; proof = p }) ∷ []
WithIs (Some all) r p (Ok None) = ⊥
WithIs None r p (Ok (Some new)) = ⊥
WithIs None r p (Ok None) = Unit {0}
WithIs all r p (Err e) = Unit {0}

-- the rows do not show all of the goals, unless a question was not modest
abbrev pub FailsToShow : List Linear → List Linear → Type 0
FailsToShow rows goals = AllModest rows goals → AllShown rows goals → ⊥

-- whether a row goes, which leaves rows that are to show it and those that went before
abbrev pub GoesIs : List Linear → List Linear → Result (Option (List Removed)) NoMemory → Type 0
GoesIs stay gone (Ok (Some new)) = (rows_of new ≡ gone) × AllProved stay new
GoesIs stay gone (Ok None) = FailsToShow stay gone
GoesIs stay gone (Err e) = Unit {0}

-- the row r, before the later ones, is removed or kept
abbrev pub StepIs : List Linear → List Removed → Linear → List Linear → Result (Unit {0}) NoMemory → List Linear → List Removed → Type 0
StepIs kept removed r later (Ok u) new_kept new_removed =
    (AllProved (kept ++ later) new_removed × (new_kept ≡ kept) × (rows_of new_removed ≡ rows_of removed ++ r ∷ [])) ⊎
    (FailsToShow (kept ++ later) (rows_of removed ++ r ∷ []) × (new_kept ≡ kept ++ r ∷ []) × (new_removed ≡ removed))
StepIs kept removed r later (Err e) new_kept new_removed = Unit {0}
