-- What the steps of the code answer.
use Rattle.std.specs.Prelude.{◌≡◌, ◌++◌, ◌<◌, ◌≤◌, ℕ, ℤ, ◌+ℤ◌, ◌*ℤ◌, List, Option, Some, None, Result, Ok, Err, length}
use Rattle.pc_rows.specs.Linear.{InRange}
use Rattle.pc_elim.specs.declared.made.Fault.{Fault}
use Rattle.pc_elim.specs.declared.made.Fault.TheVariants.{Past, Full, NoMemory}
use Rattle.pc_elim.specs.declared.made.TheConstants.{LIMIT}
use Rattle.pc_elim.specs.Elimination.{Made, level, eliminated}
use Rattle.pc_elim.specs.Settling.{origin, contradiction_of}
use Rattle.pc_elim.specs.Fits.{LevelFits, BackFits}

-- a fault comes only where something does not fit, and want of memory is free
abbrev pub FaultIs : Type 0 → Fault → Type 0
FaultIs Fits Past = Fits → ⊥
FaultIs Fits Full = Fits → ⊥
FaultIs Fits NoMemory = Unit {0}

-- the answer, and all that is computed for it fits
abbrev pub SettleIs : {A : Type 0} → A → Type 0 → Result A Fault → Type 0
SettleIs v Fits (Ok f) = Fits × (f ≡ v)
SettleIs v Fits (Err e) = FaultIs Fits e

-- the same where not all of it is computed, so that the answer may come though something does not fit
abbrev pub Unless : {A : Type 0} → A → Type 0 → Result A Fault → Type 0
Unless v Fits (Ok f) = f ≡ v
Unless v Fits (Err e) = FaultIs Fits e

-- a point is looked for only where there is no contradiction
abbrev pub PointFits : ℕ → List Made → Option (List ℤ) → Type 0
PointFits width start (Some multipliers) = Unit {0}
PointFits width start None = BackFits width start (origin width)

-- all that is computed to settle the rows is in range, and there is room for the rows
pub record SettleFits (width : ℕ) (start : List Made) : Type 0 where
  pub levels : LevelFits width start
  pub point : PointFits width start (contradiction_of (level width start))

-- the items are added, and what is computed for them fits; Past exactly where it does not
abbrev pub Adds : List Made → Type 0 → List Made → Result (Unit {0}) Fault → List Made → Type 0
Adds items Fits old (Ok u) new = Fits × (new ≡ old ++ items)
Adds items Fits old (Err Past) new = Fits → ⊥
Adds items Fits old (Err Full) new = ⊥
Adds items Fits old (Err NoMemory) new = Unit {0}

-- the places are added, unless there is no memory
abbrev pub PlacesAdded : List ℕ → List ℕ → Result (Unit {0}) Fault → List ℕ → Type 0
PlacesAdded places old (Ok u) new = new ≡ old ++ places
PlacesAdded places old (Err Past) new = ⊥
PlacesAdded places old (Err Full) new = ⊥
PlacesAdded places old (Err NoMemory) new = Unit {0}

-- how many rows an elimination makes; Full comes exactly where these are too many
abbrev pub CountIs : ℕ → List Made → Result ℕ Fault → Type 0
CountIs k rs (Ok count) = (count ≡ length (eliminated k rs)) × (count ≤ LIMIT)
CountIs k rs (Err Full) = LIMIT < length (eliminated k rs)
CountIs k rs (Err Past) = ⊥
CountIs k rs (Err NoMemory) = ⊥

-- the constant alone
pub record ConstantFits (b c a d : ℤ) : Type 0 where
  pub left : InRange (b *ℤ c)
  pub right : InRange (a *ℤ d)
  pub sum : InRange (b *ℤ c +ℤ a *ℤ d)
