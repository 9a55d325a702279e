-- Lists of rows without those that the others show.
use Rattle.std.specs.Prelude.{◌≡◌, ◌⊎◌, ◌++◌, ◌≤◌, List, [], ◌∷◌, length}
use Rattle.std.specs.List.{AllByRecursion}
use Rattle.pc_rows.specs.declared.row.TheConstants.{VARIABLES}
use Rattle.pc_rows.specs.declared.system.TheConstants.{MODEST_ROWS, MODEST_VARIABLES, MODEST_NUMBER}
use Rattle.pc_rows.specs.Linear.{Linear, negation}
use Rattle.pc_rows.specs.Bounds.{Within, AllWithin}
use Rattle.pc_rows.specs.Modest.{IsModest, occurring}
use Rattle.pc_entail.specs.Showing.{question, AllShown}

-- The rows are gone through from the first to the last. A row is removed where it and every row removed before are shown by the rows that would stay, which are those kept so far and all later ones; else it is kept.
abbrev pub Reduces : List Linear → List Linear → List Linear → List Linear → Type 0
Reduces kept removed [] answer = answer ≡ kept
Reduces kept removed (r ∷ later) answer =
    (AllShown (kept ++ later) (removed ++ r ∷ []) × Reduces kept (removed ++ r ∷ []) later answer) ⊎
    ((AllShown (kept ++ later) (removed ++ r ∷ []) → ⊥) × Reduces (kept ++ r ∷ []) removed later answer)

-- the reduced rows
abbrev pub Reduced : List Linear → List Linear → Type 0
Reduced rows answer = Reduces [] [] rows answer

-- each of the questions is modest
abbrev pub AllModest : List Linear → List Linear → Type 0
AllModest rows goals = AllByRecursion (λ goal. IsModest (question rows goal)) goals

-- the same where a question that is not modest may have no answer: then the row is kept
abbrev pub Thins : List Linear → List Linear → List Linear → List Linear → Type 0
Thins kept removed [] answer = answer ≡ kept
Thins kept removed (r ∷ later) answer =
    (AllShown (kept ++ later) (removed ++ r ∷ []) × Thins kept (removed ++ r ∷ []) later answer) ⊎
    ((AllModest (kept ++ later) (removed ++ r ∷ []) → AllShown (kept ++ later) (removed ++ r ∷ []) → ⊥) × Thins (kept ++ r ∷ []) removed later answer)

-- the rows with some removed, for none of which a modest question was left without an answer
abbrev pub Thinned : List Linear → List Linear → Type 0
Thinned rows answer = Thins [] [] rows answer

-- the rows are those that stay and those that are removed, both in the order of the rows
abbrev pub IsSplit : List Linear → List Linear → List Linear → Type 0
IsSplit [] stay removed = (stay ≡ []) × (removed ≡ [])
IsSplit (r ∷ rows) stay removed =
    ((more : List Linear) × (stay ≡ r ∷ more) × IsSplit rows more removed) ⊎
    ((more : List Linear) × (removed ≡ r ∷ more) × IsSplit rows stay more)

-- some rows are removed, each of which those that stay show
abbrev pub RemovesShown : List Linear → List Linear → Type 0
RemovesShown rows stay = (removed : List Linear) × IsSplit rows stay removed × AllShown stay removed

-- few rows and few variables, and small numbers in the rows and in their negations
pub record AreModest (rows : List Linear) : Type 0 where
  pub few : length rows ≤ MODEST_ROWS
  pub variables : occurring VARIABLES 0 rows ≤ MODEST_VARIABLES
  pub numbers : AllWithin MODEST_NUMBER rows
  pub negations : AllByRecursion (λ r. Within MODEST_NUMBER (negation r)) rows
