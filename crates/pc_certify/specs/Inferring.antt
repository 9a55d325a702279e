-- What is inferred of a graph.
use Rattle.std.specs.Prelude.{◌≡◌, ◌⊎◌, ◌≤◌, List, [], ◌∷◌, length, Option, Some, None, Result, Ok, Err}
use Rattle.std.specs.List.{AllByRecursion}
use Rattle.pc_rows.specs.declared.rows.NoMemory.{NoMemory}
use Rattle.pc_rows.specs.Linear.{Linear, State, MeetsAll, MeetsSome}
use Rattle.pc_flow.specs.Annotation.{Annotation, rows_at}
use Rattle.pc_flow.specs.Flow.{Flow}
use Rattle.pc_flow.specs.Shape.{NoHeads}
use Rattle.pc_lower.specs.declared.mode.Mode.{Mode}
use Rattle.pc_lower.specs.declared.mode.Mode.TheVariants.{Hint, Plain, Tilt1, Tilt2, Escape}
use Rattle.pc_lower.specs.Candidate.{candidate}
use Rattle.pc_lower.specs.Laws.{IsComplete}
use Rattle.pc_lower.specs.Tame.{IsTame}
use Rattle.pc_certificate.specs.declared.certificate.Annotated.{Annotated}
use Rattle.pc_certificate.specs.Certificate.{Certificate, condition_of}
use Rattle.pc_certify.specs.declared.inference.TheConstants.{CANDIDATES}
use Rattle.pc_certify.specs.Candidates.{Candidate, graph_need, of_mode, of_heads, IsTried, IsOrigin, IsRefused, IsPromised}
use Rattle.pc_certify.specs.Causes.{Fails}
use Rattle.pc_certify.specs.Claims.{IsProved, claim}
use Rattle.pc_certify.specs.Entries.{AreEntryRows, IsMetNowhere, IsContradictory, HasRows}
use Rattle.pc_certify.specs.Selecting.{Selects, AreApart}

-- where the graph is tame, every state that meets what is needed at the entry meets the condition
abbrev pub IsExact : Flow → Certificate → Type 0
IsExact g c = IsTame g → (s : State) → MeetsAll s (rows_at (graph_need g) 0) → MeetsSome s (condition_of c)

-- where the candidate of a mode is promised, every state that meets its rows at the entry meets the condition
abbrev pub Covers : Flow → Mode → List (List Linear) → Type 0
Covers g m condition = IsPromised g m → (s : State) → MeetsAll s (rows_at (candidate g m) 0) → MeetsSome s condition

-- an alternative of the certificate: a candidate, with its rows at the entry reduced
pub record IsAlternative (g : Flow) (b : Annotated) : Type 0 where
  pub candidate : Candidate
  pub origin : IsOrigin g candidate
  pub entry : AreEntryRows g candidate.rows (rows_at b.rows 0)
  pub others : HasRows candidate.rows b

-- why a candidate has no alternative
abbrev pub HasNone : Flow → Candidate → Type 0
HasNone g k = IsRefused k ⊎ (Fails g k.rows ⊎ IsContradictory g k.rows)

-- an alternative of an annotation
pub record IsChosen (g : Flow) (a : Annotation) (b : Annotated) : Type 0 where
  pub proved : IsProved g b
  pub entry : AreEntryRows g a (rows_at b.rows 0)
  pub states : (s : State) → MeetsAll s (rows_at a 0) → MeetsAll s (rows_at b.rows 0)
  pub others : HasRows a b

-- the alternative of an annotation; else why there is none. Want of memory is free
abbrev pub ChosenIs : Flow → Annotation → Result (Option Annotated) NoMemory → Type 0
ChosenIs g a (Ok (Some b)) = IsChosen g a b
ChosenIs g a (Ok None) = Fails g a ⊎ (IsContradictory g a × IsMetNowhere (rows_at a 0))
ChosenIs g a (Err e) = Unit {0}

-- a candidate that is computed; else it is refused, which it is not where it is tame
abbrev pub FoundIs : Flow → Candidate → Type 0 → Result (Option Annotation) NoMemory → Type 0
FoundIs g k Tame (Ok (Some a)) = IsComplete g a × (a ≡ k.rows)
FoundIs g k Tame (Ok None) = IsRefused k × (Tame → ⊥)
FoundIs g k Tame (Err e) = Unit {0}

-- the alternative of an annotation that is there, or none
abbrev pub ChosenOf : Flow → Option Annotation → Result (Option Annotated) NoMemory → Type 0
ChosenOf g (Some a) found = ChosenIs g a found
ChosenOf g None (Ok choice) = choice ≡ None
ChosenOf g None (Err e) = Unit {0}

-- a candidate has no alternative: there is a cause, and where it is promised no state meets its rows at the entry
pub record IsNotChosen (g : Flow) (k : Candidate) (Promised : Type 0) : Type 0 where
  pub cause : HasNone g k
  pub states : Promised → IsMetNowhere (rows_at k.rows 0)

-- the alternative of a candidate, or none
abbrev pub ChoiceIs : Flow → Candidate → Type 0 → Result (Option Annotated) NoMemory → Type 0
ChoiceIs g k Promised (Ok (Some b)) = IsChosen g k.rows b
ChoiceIs g k Promised (Ok None) = IsNotChosen g k Promised
ChoiceIs g k Promised (Err e) = Unit {0}

-- what is kept after the choice for a candidate
abbrev pub SelectsNext : Option Annotated → List Annotated → List Annotated → Type 0
SelectsNext None kept new = new ≡ kept
SelectsNext (Some a) kept new = Selects a kept new

-- what is kept after a candidate
abbrev pub TakesNext : Flow → Candidate → Type 0 → List Annotated → List Annotated → Type 0
TakesNext g k Promised kept new = (choice : Option Annotated) × ChoiceIs g k Promised (Ok choice) × SelectsNext choice kept new

-- after the candidate of a mode, and after that of rows at the heads, of which nothing is promised
abbrev pub Takes : Flow → Mode → List Annotated → List Annotated → Type 0
Takes g m kept new = TakesNext g (of_mode g m) (IsPromised g m) kept new

abbrev pub TakesHeads : Flow → Annotation → List Annotated → List Annotated → Type 0
TakesHeads g heads kept new = TakesNext g (of_heads g heads) ⊥ kept new

-- after an annotation that is there, or none
abbrev pub TakesFound : Flow → Option Annotation → List Annotated → List Annotated → Type 0
TakesFound g found kept new = (choice : Option Annotated) × ChosenOf g found (Ok choice) × SelectsNext choice kept new

-- what is kept after several, one after the other
abbrev pub TakesEach : {A : Type 0} → (A → List Annotated → List Annotated → Type 0) → List A → List Annotated → List Annotated → Type 0
TakesEach R [] kept new = new ≡ kept
TakesEach R (x ∷ xs) kept new = (next : List Annotated) × R x kept next × TakesEach R xs next new

-- the modes in the order in which they are tried
abbrev pub modes : List Mode
modes = Hint ∷ Plain ∷ Tilt1 ∷ Tilt2 ∷ Escape ∷ []

-- an alternative with proofs
pub record IsKept (g : Flow) (a : Annotated) : Type 0 where
  pub proved : IsProved g a
  pub alternative : IsAlternative g a

-- the alternatives of a graph
pub record AreAlternatives (g : Flow) (all : List Annotated) : Type 0 where
  pub each : AllByRecursion (IsKept g) all
  pub few : length all ≤ CANDIDATES
  pub one : NoHeads g.points → length all ≤ 1
  pub apart : AreApart all
  pub none : all ≡ [] → (k : Candidate) → IsTried g k → HasNone g k
  pub exact : NoHeads g.points → IsExact g (claim g all)
  pub covers : (m : Mode) → Covers g m (condition_of (claim g all))
