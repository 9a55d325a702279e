-- Rows are settled by multipliers that make a contradiction of them, or by a point that meets them all.
use Rattle.std.specs.Prelude.{ℕ, zero, suc, ℤ, pos, int_lt, Bool, List, [], ◌∷◌, Option, Some, None, take, replicate, slice_index_or, if◌then◌else◌}
use Rattle.pc_rows.specs.Evidence.{Point, Proof}
use Rattle.pc_rows.specs.Parts.{parts_from}
use Rattle.pc_elim.specs.declared.settle.Found.{Found}
use Rattle.pc_elim.specs.declared.settle.Found.TheVariants.{Shown, At}
use Rattle.pc_elim.specs.Elimination.{Made, level}
use Rattle.pc_elim.specs.Placing.{placed}

-- the point at which all variables are 0
abbrev pub origin : ℕ → Point
origin width = record { numerators = replicate width (pos 0); denominator = pos 1 }

-- a row without variables says that its constant is at least 0
abbrev pub is_contradiction : Made → Bool
is_contradiction r = int_lt r.row.constant (pos 0)

-- the multipliers of the first contradiction
abbrev pub contradiction_of : List Made → Option (List ℤ)
contradiction_of [] = None
contradiction_of (r ∷ rs) = if is_contradiction r then Some r.multipliers else contradiction_of rs

-- a point of the rows without the first k variables is taken back over the last of these, and then over those before it
abbrev pub taken_back : ℕ → List Made → Point → Point
taken_back zero start p = p
taken_back (suc k) start p = taken_back k start (placed k (level k start) p)

-- by the contradiction, or by the origin taken back over all variables where there is none
abbrev pub settled_by : ℕ → List Made → Option (List ℤ) → Found
settled_by width start (Some multipliers) = Shown multipliers
settled_by width start None = At (taken_back width start (origin width))

-- a contradiction of the rows without variables is looked for
abbrev pub settle : ℕ → List Made → Found
settle width start = settled_by width start (contradiction_of (level width start))

-- the multipliers of so many premises, and then that of the negated goal, as a proof
abbrev pub proof_of : ℕ → List ℤ → Proof
proof_of premises ms = record { goal = slice_index_or ms premises (pos 0); parts = parts_from 0 (take premises ms) }
