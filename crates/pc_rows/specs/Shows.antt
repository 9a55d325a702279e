-- When a proof shows a goal from premises (Farkas's lemma in its easy direction, with the integer negation).
use Rattle.std.specs.Prelude.{◌<◌, pos, negsuc, ◌≤ℤ◌, List, [], ◌∷◌, length, slice_index_or}
use Rattle.std.specs.List.{AllByRecursion}
use Rattle.pc_rows.specs.declared.proof.Part.{Part}
use Rattle.pc_rows.specs.Linear.{Linear, IsInRange, IsNumber, sum_of, scaled_by, negation}
use Rattle.pc_rows.specs.Evidence.{System, Proof}

abbrev pub nothing_row : Linear
nothing_row = record { constant = pos 0; coefficients = [] }

-- the premise that a part names, times its multiplier
abbrev pub times_premise : List Linear → Part → Linear
times_premise premises p = scaled_by p.multiplier (slice_index_or premises p.index nothing_row)

-- the sum, and the parts added to it in order
abbrev pub with_parts : List Linear → Linear → List Part → Linear
with_parts premises sum [] = sum
with_parts premises sum (p ∷ ps) = with_parts premises (sum_of sum (times_premise premises p)) ps

-- the negated goal times its multiplier, and then the parts added to it
abbrev pub total : List Linear → Linear → Proof → Linear
total premises goal p = with_parts premises (scaled_by p.goal (negation goal)) p.parts

-- no multiplier is negative, each index is that of a premise, and the total has no variable and a negative constant
pub record Shows (premises : List Linear) (goal : Linear) (p : Proof) : Type 0 where
  pub goal_multiplier : pos 0 ≤ℤ p.goal
  pub multipliers : AllByRecursion (λ q. pos 0 ≤ℤ q.multiplier) p.parts
  pub indices : AllByRecursion (λ q. q.index < length premises) p.parts
  pub left : IsNumber (total premises goal p)
  pub below : (total premises goal p).constant ≤ℤ negsuc 0

-- each product and each sum is in range, part by part
abbrev pub PartsFit : List Linear → Linear → List Part → Type 0
PartsFit premises sum [] = Unit {0}
PartsFit premises sum (p ∷ ps) =
    IsInRange (times_premise premises p) ×
    IsInRange (sum_of sum (times_premise premises p)) ×
    PartsFit premises (sum_of sum (times_premise premises p)) ps

-- all that is computed for the total is in range
pub record TotalFits (premises : List Linear) (goal : Linear) (p : Proof) : Type 0 where
  pub negated_goal : IsInRange (negation goal)
  pub product : IsInRange (scaled_by p.goal (negation goal))
  pub parts : PartsFit premises (scaled_by p.goal (negation goal)) p.parts

-- a proof shows the goal from the premises, and all that is computed for its total is in range
pub record Proves (premises : List Linear) (goal : Linear) (p : Proof) : Type 0 where
  pub shows : Shows premises goal p
  pub fits : TotalFits premises goal p

-- a proof is evidence for a system where it proves the goal from the premises
abbrev pub IsEvidence : System → Proof → Type 0
IsEvidence s p = Proves s.premises s.goal p
