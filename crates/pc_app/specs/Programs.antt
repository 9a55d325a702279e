-- What certificates for its graph promise of a program.
use Rattle.std.specs.Prelude.{◌≡◌, ℤ, List, true}
use Rattle.pc_text.specs.declared.place.Place.{Place}
use Rattle.pc_rows.specs.Linear.{State, MeetsSome}
use Rattle.pc_program.specs.Machine.{Violated, run_of, Safe}
use Rattle.pc_program.specs.declared.program.Program.{Program}
use Rattle.pc_flow.specs.Walk.{IsEntry}
use Rattle.pc_graph.specs.Lowering.{graph}
use Rattle.pc_graph.specs.Straight.{are_straight}
use Rattle.pc_lower.specs.Tame.{IsTame}
use Rattle.pc_certificate.specs.Certificate.{Certificate, condition_of}
use Rattle.pc_replay.specs.Accepts.{Accepts}
use Rattle.pc_certify.specs.Inferring.{IsExact}

-- what is right for the graph of a program, whoever made it: the program is safe from every entry state that meets the condition
abbrev pub AcceptedProgramsAreSafe : Type 0
AcceptedProgramsAreSafe =
    (p : Program) (c : Certificate) → Accepts (graph p) c → (s : State) → IsEntry (graph p) s → MeetsSome s (condition_of c) → Safe p s

-- from an entry state that meets the condition the program is safe; from one that does not some choices violate an assertion
pub record IsDecided (p : Program) (c : Certificate) (s : State) : Type 0 where
  pub safe : MeetsSome s (condition_of c) → Safe p s
  pub violated : (MeetsSome s (condition_of c) → ⊥) → (cs : List ℤ) × (q : Place) × (run_of p s cs ≡ Violated q)

-- the condition of a straight program with tame numbers holds of exactly the safe entry states
abbrev pub InferIsExact : Type 0
InferIsExact =
    (p : Program) (c : Certificate) → are_straight p.body ≡ true → IsTame (graph p) → Accepts (graph p) c → IsExact (graph p) c →
    (s : State) → IsEntry (graph p) s → IsDecided p c s
