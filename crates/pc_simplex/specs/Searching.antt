-- What a search answers.
use Rattle.std.specs.Prelude.{◌≡◌, pos, ◌≤ℤ◌, Result, Ok, Err}
use Rattle.std.specs.List.{AllByRecursion}
use Rattle.pc_rows.specs.declared.rows.NoMemory.{NoMemory}
use Rattle.pc_rows.specs.Linear.{Linear}
use Rattle.pc_rows.specs.Evidence.{System, Proof, Point as Place}
use Rattle.pc_rows.specs.Shows.{Shows}
pub use Rattle.pc_rows.specs.Shows.{IsEvidence}
use Rattle.pc_rows.specs.Points.{Refutes, MeetsAt, NumeratorFits}
use Rattle.pc_rows.specs.Modest.{refuting}
use Rattle.pc_simplex.specs.declared.guess.Guess.{Guess}
use Rattle.pc_simplex.specs.declared.guess.Guess.TheVariants.{Shown, Point, GaveUp}
use Rattle.pc_simplex.specs.Turns.{found}

-- the row is met at the point, and its sign there is computed in range
pub record IsTold (p : Place) (r : Linear) : Type 0 where
  pub meets : MeetsAt p r
  pub fits : NumeratorFits r p

-- so are the premises and the negated goal
abbrev pub AreTold : System → Place → Type 0
AreTold s p = AllByRecursion (IsTold p) (refuting s)

-- what was found fails its check, or nothing was found
abbrev pub Fails : System → Guess → Type 0
Fails s (Shown p) = IsEvidence s p → ⊥
Fails s (Point p) = AreTold s p → ⊥
Fails s GaveUp = Unit {0}

-- what the turns find is answered where it passes its check; and a search gives up exactly where nothing is found, or what is found fails
abbrev pub SearchIs : System → Result Guess NoMemory → Type 0
SearchIs s (Ok (Shown p)) = (Shown p ≡ found s) × IsEvidence s p
SearchIs s (Ok (Point p)) = (Point p ≡ found s) × AreTold s p
SearchIs s (Ok GaveUp) = Fails s (found s)
SearchIs s (Err e) = Unit {0}

-- a proof that shows the goal; or a point that refutes it, so that no proof does
abbrev pub EvidenceIs : System → Result Guess NoMemory → Type 0
EvidenceIs s (Ok (Shown p)) = IsEvidence s p
EvidenceIs s (Ok (Point p)) = Refutes s.premises s.goal p × ((q : Proof) → Shows s.premises s.goal q → ⊥)
EvidenceIs s (Ok GaveUp) = Unit {0}
EvidenceIs s (Err e) = Unit {0}

-- a point is answered where it is told; its denominator is at least 1
abbrev pub PointIs : System → Place → Guess → Type 0
PointIs s p (Point q) = (q ≡ p) × AreTold s p × (pos 1 ≤ℤ p.denominator)
PointIs s p (Shown q) = ⊥
PointIs s p GaveUp = AreTold s p → ⊥

-- a proof is answered where it is evidence
abbrev pub ProofIs : System → Proof → Result Guess NoMemory → Type 0
ProofIs s p (Ok (Shown q)) = (q ≡ p) × IsEvidence s p
ProofIs s p (Ok (Point q)) = ⊥
ProofIs s p (Ok GaveUp) = IsEvidence s p → ⊥
ProofIs s p (Err e) = Unit {0}
