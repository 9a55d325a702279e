-- How the machine is kept: the statements that are still to be run as a stack of slices, whose last one is run first.
use Rattle.std.specs.Prelude.{List, [], ◌∷◌, ◌++◌, Result, Ok, Err}
use Rattle.std.specs.Borrow.{Bor}
use Rattle.pc_text.specs.declared.place.Place.{Place}
use Rattle.pc_program.specs.declared.tree.Stmt.{Stmt}
use Rattle.pc_rows.specs.Linear.{State}
use Rattle.pc_program.specs.Machine.{Outcome, Going, Violated, Blocked, Ended}
use Rattle.pc_runner.specs.declared.machine.Step.{Step}
use Rattle.pc_runner.specs.declared.machine.Step.TheVariants as step

abbrev pub flat : List (Bor (List Stmt)) → List Stmt
flat [] = []
flat (x ∷ xs) = flat xs ++ x.now

-- what a step has led to, where the machine is left with the statements `k` and the state `s`
abbrev pub led_to : Step → List Stmt → State → Result Outcome Place
led_to step.Going k s = Ok (Going k s)
led_to (step.Violated p) k s = Ok (Violated p)
led_to (step.Blocked p) k s = Ok (Blocked p)
led_to step.Ended k s = Ok Ended
led_to (step.Past p) k s = Err p

-- the state that an assignment leaves, unless a value is past the range
abbrev pub state_or_past : Result (Unit {0}) Place → State → Result State Place
state_or_past (Ok x) s = Ok s
state_or_past (Err p) s = Err p
