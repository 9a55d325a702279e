-- What is found to be shown: how the question is settled tells it, so that it depends on nothing else.
use Rattle.std.specs.Prelude.{◌≡◌, Bool, true, false, List, Option, Some, None, Result, Ok, Err}
use Rattle.std.specs.List.{AllByRecursion}
use Rattle.pc_rows.specs.declared.rows.NoMemory.{NoMemory}
use Rattle.pc_rows.specs.Linear.{Linear}
use Rattle.pc_rows.specs.Evidence.{System, Proof}
use Rattle.pc_elim.specs.declared.decision.Answer.{Answer}
use Rattle.pc_elim.specs.declared.decision.Answer.TheVariants.{Shown}
use Rattle.pc_entail.specs.Showing.{question}
use Rattle.pc_entail.specs.Settled.{SettledIs}

-- the proof that is found of what a system asks
unfoldable pub IsProofFound : System → Proof → Type 0
IsProofFound s p = SettledIs s (Ok (Shown p))

-- the rows are found to show the goal
abbrev pub IsFound : List Linear → Linear → Type 0
IsFound rows goal = (p : Proof) × IsProofFound (question rows goal) p

-- the rows are found to show each goal
abbrev pub AllFound : List Linear → List Linear → Type 0
AllFound rows goals = AllByRecursion (IsFound rows) goals

-- whether P. Want of memory is free
abbrev pub Tells : Type 0 → Result Bool NoMemory → Type 0
Tells P (Ok true) = P
Tells P (Ok false) = P → ⊥
Tells P (Err e) = Unit {0}

-- what has property P, or that nothing has it. Want of memory is free
abbrev pub Gives : {A : Type 0} → (A → Type 0) → Result (Option A) NoMemory → Type 0
Gives P (Ok (Some x)) = P x
Gives P (Ok None) = (x : _) → P x → ⊥
Gives P (Err e) = Unit {0}

-- a question is settled in one way
abbrev pub SettlesOnce : Type 0
SettlesOnce = (s : System) (a b : Answer) → SettledIs s (Ok a) → SettledIs s (Ok b) → a ≡ b
