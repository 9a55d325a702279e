-- What each verdict says of the machine's run over a list of choices.
use Rattle.std.specs.Prelude.{◌≡◌, ◌<◌, ◌≤◌, ℕ, ◌+◌, ℤ, pos, List, [], length, take, slice_index_or, Some, None}
use Rattle.pc_text.specs.declared.place.Place.{Place}
use Rattle.pc_program.specs.declared.tree.Stmt.{Stmt}
use Rattle.pc_program.specs.declared.program.Program.{Program}
use Rattle.pc_rows.specs.Linear.{State}
use Rattle.pc_program.specs.Machine.{Outcome, Going, Violated, Blocked, Ended, run, started}
use Rattle.pc_runner.specs.declared.verdict.Verdict.{Verdict}
use Rattle.pc_runner.specs.declared.verdict.Verdict.TheVariants as verdict
use Rattle.pc_runner.specs.Computed.{Computed, computed, first_past}

-- the machine after the first `n` choices, where it begins as `o`
abbrev pub after : Outcome → List ℤ → ℕ → Outcome
after o cs n = run o (take n cs)

abbrev pub IsGoing : Outcome → Type 0
IsGoing (Going k s) = Unit {0}
IsGoing (Violated p) = ⊥
IsGoing (Blocked p) = ⊥
IsGoing Ended = ⊥

-- the values that the machine computes in a step; where it has come to an end there are none
abbrev pub computed_by : Outcome → ℤ → List Computed
computed_by (Going k s) c = computed k s c
computed_by (Violated p) c = []
computed_by (Blocked p) c = []
computed_by Ended c = []

-- the values of the step after the first `n`
abbrev pub computed_after : Outcome → List ℤ → ℕ → List Computed
computed_after o cs n = computed_by (after o cs n) (slice_index_or cs n (pos 0))

-- all values of the first `n` steps are in range
abbrev pub InRangeFor : Outcome → List ℤ → ℕ → Type 0
InRangeFor o cs n = (m : ℕ) → m < n → first_past (computed_after o cs m) ≡ None

-- the machine still goes before step `n`, and step `n` makes it `end`; no value is past the range
pub record EndsAt (o : Outcome) (cs : List ℤ) (n : ℕ) (end : Outcome) : Type 0 where
  pub before : ℕ
  pub next : n ≡ before + 1
  pub within : n ≤ length cs
  pub going : IsGoing (after o cs before)
  pub in_range : InRangeFor o cs n
  pub ends : after o cs n ≡ end

-- the machine still goes before step `n`, whose first value past the range is the first of all, and is made at `p`
pub record PastAt (o : Outcome) (cs : List ℤ) (n : ℕ) (p : Place) : Type 0 where
  pub before : ℕ
  pub next : n ≡ before + 1
  pub within : n ≤ length cs
  pub going : IsGoing (after o cs before)
  pub in_range : InRangeFor o cs before
  pub past : first_past (computed_after o cs before) ≡ Some p

-- the machine still goes after all choices, in the state `s`; no value is past the range
pub record StillGoes (o : Outcome) (cs : List ℤ) (s : State) : Type 0 where
  pub left : List Stmt
  pub goes : run o cs ≡ Going left s
  pub in_range : InRangeFor o cs (length cs)

-- what a verdict says of the run that begins as `o`
abbrev pub Says : Outcome → List ℤ → Verdict → Type 0
Says o cs (verdict.Violated n p) = EndsAt o cs n (Violated p)
Says o cs (verdict.Blocked n p) = EndsAt o cs n (Blocked p)
Says o cs (verdict.Ended n) = EndsAt o cs n Ended
Says o cs (verdict.Going s) = StillGoes o cs s
Says o cs (verdict.Past n p) = PastAt o cs n p

-- what a verdict says of the run of a program from an entry state
abbrev pub SaysOf : Program → State → List ℤ → Verdict → Type 0
SaysOf p s cs v = Says (Going p.body (started p s)) cs v
