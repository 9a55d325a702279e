-- What a decision answers: the answer of elimination over unbounded integers, and when there is none in range.
use Rattle.std.specs.Prelude.{◌≡◌, ℤ, List, Option, Some, None, Result, Ok, Err, length}
use Rattle.pc_rows.specs.declared.row.TheConstants.{VARIABLES}
use Rattle.pc_rows.specs.declared.rows.NoMemory.{NoMemory}
use Rattle.pc_rows.specs.Linear.{IsInRange, negation}
use Rattle.pc_rows.specs.Evidence.{System, Proof}
use Rattle.pc_rows.specs.Shows.{Shows, TotalFits}
pub use Rattle.pc_rows.specs.Shows.{IsEvidence}
use Rattle.pc_rows.specs.Points.{Refutes}
use Rattle.pc_rows.specs.Modest.{refuting, IsModest}
use Rattle.pc_elim.specs.declared.decision.Answer.{Answer}
use Rattle.pc_elim.specs.declared.decision.Answer.TheVariants.{Shown, Point, Unsettled}
use Rattle.pc_elim.specs.declared.made.TheConstants.{PARTS}
use Rattle.pc_elim.specs.Elimination.{Made, level, started}
use Rattle.pc_elim.specs.Settling.{origin, contradiction_of, taken_back, proof_of}
use Rattle.pc_elim.specs.Fits.{LevelFits, BackFits}

-- a proof that shows the goal; or a point that refutes it, so that no proof does; or neither, which no modest system gets
abbrev pub DecideIs : System → Result Answer NoMemory → Type 0
DecideIs s (Ok (Shown p)) = IsEvidence s p
DecideIs s (Ok (Point p)) = Refutes s.premises s.goal p × ((q : Proof) → Shows s.premises s.goal q → ⊥)
DecideIs s (Ok Unsettled) = IsModest s → ⊥
DecideIs s (Err e) = Unit {0}

-- the premises in order and then the negated goal, each made of itself
unfoldable pub start : System → List Made
start s = started PARTS (refuting s)

-- all variables are eliminated in order: the first row below 0 among those that are left
unfoldable pub contradiction : System → Option (List ℤ)
contradiction s = contradiction_of (level VARIABLES (start s))

-- its multipliers show the goal; where there is none, the origin is taken back over the variables from the last to the first
abbrev pub answer_by : System → Option (List ℤ) → Answer
answer_by s (Some ms) = Shown (proof_of (length s.premises) ms)
answer_by s None = Point (taken_back VARIABLES (start s) (origin VARIABLES))

-- what elimination over unbounded integers and without a limit answers: never Unsettled
abbrev pub answer : System → Answer
answer s = answer_by s (contradiction s)

-- the numbers that the evidence takes are in range: those of the proof's total, or those of the way back
abbrev pub EvidenceFits : System → Option (List ℤ) → Type 0
EvidenceFits s (Some ms) = TotalFits s.premises s.goal (proof_of (length s.premises) ms)
EvidenceFits s None = BackFits VARIABLES (start s) (origin VARIABLES)

-- no elimination makes more than LIMIT rows, and all numbers that the answer takes are in range
pub record DecisionFits (s : System) : Type 0 where
  pub negated_goal : IsInRange (negation s.goal)
  pub levels : LevelFits VARIABLES (start s)
  pub evidence : EvidenceFits s (contradiction s)

-- the answer of elimination, and Unsettled exactly where it does not fit; want of memory is free
abbrev pub AnswerIs : System → Result Answer NoMemory → Type 0
AnswerIs s (Ok (Shown p)) = DecisionFits s × (Shown p ≡ answer s)
AnswerIs s (Ok (Point p)) = DecisionFits s × (Point p ≡ answer s)
AnswerIs s (Ok Unsettled) = DecisionFits s → ⊥
AnswerIs s (Err e) = Unit {0}

-- the multipliers as a proof, where its total is computed in range
abbrev pub ShownIs : System → List ℤ → Result Answer NoMemory → Type 0
ShownIs s ms (Ok (Shown p)) = (p ≡ proof_of (length s.premises) ms) × TotalFits s.premises s.goal p
ShownIs s ms (Ok (Point p)) = ⊥
ShownIs s ms (Ok Unsettled) = TotalFits s.premises s.goal (proof_of (length s.premises) ms) → ⊥
ShownIs s ms (Err e) = Unit {0}
