-- What conditions, facts and certificates are told of: a graph, the names of its variables, and which of its entry states are safe.
use Rattle.std.specs.Prelude.{◌≡◌, ℤ, List, [], true}
use Rattle.pc_text.specs.Bytes.{Bytes}
use Rattle.pc_text.specs.declared.place.Place.{Place}
use Rattle.pc_rows.specs.Linear.{State}
use Rattle.pc_flow.specs.Flow.{Flow}
use Rattle.pc_graph.specs.Lowering.{graph}
use Rattle.pc_graph.specs.Straight.{are_straight}
use Rattle.pc_program.specs.Loops.{whiles_of}
use Rattle.pc_program.specs.Machine.{Violated, run_of, Safe}
use Rattle.pc_program.specs.declared.program.Program.{Program}
use Rattle.pc_app.specs.Checks.{AreChecks}

pub record Subject : Type 1 where
  pub names : List Bytes
  pub flow : Flow
  -- which entry states are safe, and from which some choices lead to a violated assertion
  pub Safe : State → Type 0
  pub HasViolation : State → Type 0
  -- it has no loops; besides no assumptions and no tests but `*`; it has assertions and assumptions alone, and few rows
  pub IsLoopFree : Type 0
  pub IsStraight : Type 0
  pub HasChecksAlone : Type 0

-- from the entry state some list of choices leads to a violated assertion
abbrev pub HasViolation : Program → State → Type 0
HasViolation p s = (cs : List ℤ) × (q : Place) × (run_of p s cs ≡ Violated q)

-- a program, with its graph
abbrev pub of_program : Program → Subject
of_program p = record {
  names = p.names.names;
  flow = graph p;
  Safe = Safe p;
  HasViolation = HasViolation p;
  IsLoopFree = whiles_of p.body ≡ [];
  IsStraight = are_straight p.body ≡ true;
  HasChecksAlone = AreChecks p;
}
