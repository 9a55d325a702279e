-- `breach F S` prints choices that break an assertion of the source F from the entry of the script S.
use Rattle.std.specs.Prelude.{◌≡◌, ◌≢◌, ◌++◌, ℕ, Option, Some, None, Ok, codes}
use Rattle.pc_text.specs.Bytes.{Bytes}
use Rattle.pc_text.specs.declared.place.Place.{Place}
use Rattle.pc_rows.specs.Bounds.{AreWithin}
use Rattle.pc_rows.specs.Linear.{State, MeetsAll}
use Rattle.pc_flow.specs.Flow.{Flow}
use Rattle.pc_graph.specs.Lowering.{graph}
use Rattle.pc_lower.specs.Tame.{IsTame, tame_bound}
use Rattle.pc_program.specs.Loops.{first}
use Rattle.pc_program.specs.Machine.{Violated, run_of, Safe}
use Rattle.pc_program.specs.declared.program.Program.{Program}
use Rattle.pc_runner.specs.Scripts.{Choosing, script_of}
use Rattle.pc_breach.specs.Answers.{IsSettled, entry_rows, choices}
use Rattle.pc_breach.specs.Scripts.{script_text}
use Rattle.pc_breach.specs.Sought.{bends, open_ends}
use Rattle.pc_app.specs.declared.breach.Unfit.{Unfit}
use Rattle.pc_app.specs.declared.breach.Unfit.TheVariants as unfit
use Rattle.pc_app.specs.declared.status.TheConstants.{DONE, FAILED, PAST}
use Rattle.pc_app.specs.Files.{Kind, with_fault}
use Rattle.pc_app.specs.Inputs.{TwoFiles}
use Rattle.pc_app.specs.Kinds.{source_kind, script_kind}
use Rattle.pc_app.specs.Run.{IsVerdict}
use Rattle.pc_app.specs.Tasks.{Task}
use Rattle.pc_app.specs.Texts.{place_text, refused}

-- ---- the source

abbrev pub unfit_by : Option Place → Option Place → Option Unfit
unfit_by (Some place) end = Some (unfit.NotStraight place)
unfit_by None (Some place) = Some (unfit.OpenEnd place)
unfit_by None None = None

-- why no choices are sought in a program: its first bend, and where it is straight its first open end
abbrev pub unfit_of : Program → Option Unfit
unfit_of p = unfit_by (first (bends p)) (first (open_ends p))

abbrev pub unfit_text : Unfit → Bytes
unfit_text (unfit.NotStraight place) = codes "not-straight " ++ place_text place
unfit_text (unfit.OpenEnd place) = codes "open-end " ++ place_text place

-- a source that spells a straight program without open ends
abbrev pub straight_kind : Kind
straight_kind = with_fault source_kind Unfit unfit_of (λ u. refused (unfit_text u))

-- ---- the answer

abbrev pub unsettled : Bytes
unsettled = codes "unsettled\n"

abbrev pub safe : Bytes
safe = codes "safe\n"

-- how an entry state of a graph is answered: past exactly where it is not settled; of those that are, safe exactly where all rows of the
-- entry are met; of any other by the choices, as a script
pub data IsAnswer (g : Flow) (s : State) (status : ℕ) (text : Bytes) : Type 0 where
  IsUnsettled : (IsSettled g s → ⊥) → status ≡ PAST → text ≡ unsettled → IsAnswer g s status text
  IsSafe : IsSettled g s → MeetsAll s (entry_rows g) → status ≡ DONE → text ≡ safe → IsAnswer g s status text
  IsBroken : IsSettled g s → (MeetsAll s (entry_rows g) → ⊥) → status ≡ FAILED → text ≡ script_text s (choices g s) → IsAnswer g s status text

-- the text is a script with this entry, and the machine's run over its choices violates an assertion
pub record IsViolating (p : Program) (entry : State) (text : Bytes) : Type 0 where
  pub script : Choosing
  pub read : script_of p.names.params text ≡ Ok script
  pub entry_is : script.entry ≡ entry
  pub place : Place
  pub violated : run_of p entry script.choices ≡ Violated place

-- what an answer says of the entry state: safe where it is done; violating where it failed; and never past where numbers are tame
pub record IsTold (p : Program) (entry : State) (status : ℕ) (text : Bytes) : Type 0 where
  pub safe : status ≡ DONE → Safe p entry
  pub violating : status ≡ FAILED → IsViolating p entry text
  pub settled : IsTame (graph p) → AreWithin tame_bound entry → status ≢ PAST

-- the answer, and what it says where the source is fit for it and some bytes are the script
pub record BreachSays (p : Program) (script : Choosing) (status : ℕ) (text : Bytes) : Type 0 where
  pub answer : IsAnswer (graph p) script.entry status text
  pub told : unfit_of p ≡ None → (bytes : Bytes) → script_of p.names.params bytes ≡ Ok script → IsTold p script.entry status text

-- ---- the command

-- it fails where it is settled and a row of the entry is not met, and is past where it is not settled
abbrev pub breach : Bytes → Bytes → Task
breach source script = record {
  inputs = TwoFiles straight_kind source (λ p. script_kind p.names.params) script;
  Says = λ given. BreachSays given.0 given.1;
  Ends = IsVerdict;
  Fails = λ given. IsSettled (graph given.0) given.1.entry × (MeetsAll given.1.entry (entry_rows (graph given.0)) → ⊥);
  IsPast = λ given. IsSettled (graph given.0) given.1.entry → ⊥;
}
