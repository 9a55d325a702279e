-- The verdict on a run: its first step that ends it, or the first that computes a value that is not in range.
use Rattle.std.specs.Prelude.{ℕ, ◌+◌, ℤ, List, [], ◌∷◌, Option, Some, None, Result, Ok, Err}
use Rattle.pc_text.specs.declared.place.Place.{Place}
use Rattle.pc_program.specs.declared.tree.Stmt.{Stmt}
use Rattle.pc_program.specs.declared.program.Program.{Program}
use Rattle.pc_rows.specs.Linear.{State}
use Rattle.pc_program.specs.Machine.{Outcome, Going, Violated, Blocked, Ended, step, started}
use Rattle.pc_runner.specs.declared.verdict.Verdict.{Verdict}
use Rattle.pc_runner.specs.declared.verdict.Verdict.TheVariants as verdict
use Rattle.pc_runner.specs.Computed.{computed, first_past}

-- an answer, unless a value was past the range
abbrev pub unless : {A : Type 0} → Option Place → A → Result A Place
unless None x = Ok x
unless (Some p) x = Err p

-- the machine's step, or the place of its first value that is not in range
abbrev pub taken : List Stmt → State → ℤ → Result Outcome Place
taken k s c = unless (first_past (computed k s c)) (step k s c)

-- a verdict on a run that begins `n` steps later
abbrev pub later : ℕ → Verdict → Verdict
later n (verdict.Violated m p) = verdict.Violated (m + n) p
later n (verdict.Blocked m p) = verdict.Blocked (m + n) p
later n (verdict.Ended m) = verdict.Ended (m + n)
later n (verdict.Going s) = verdict.Going s
later n (verdict.Past m p) = verdict.Past (m + n) p

-- the verdict where the first step has come out so, and what it is where the machine goes on
abbrev pub concluded : Result Outcome Place → (List Stmt → State → Verdict) → Verdict
concluded (Ok (Going k s)) more = more k s
concluded (Ok (Violated p)) more = verdict.Violated 1 p
concluded (Ok (Blocked p)) more = verdict.Blocked 1 p
concluded (Ok Ended) more = verdict.Ended 1
concluded (Err p) more = verdict.Past 1 p

-- the verdict on the run of the statements `k` from the state `s`, one step for each choice
abbrev pub verdict_from : List Stmt → State → List ℤ → Verdict
verdict_from k s [] = verdict.Going s
verdict_from k s (c ∷ cs) = concluded (taken k s c) (λ k s. later 1 (verdict_from k s cs))

-- the verdict on the run of a program from an entry state
abbrev pub verdict_of : Program → State → List ℤ → Verdict
verdict_of p s cs = verdict_from p.body (started p s) cs
