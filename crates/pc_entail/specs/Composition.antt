-- Proofs put together: a proof without one of its premises, in whose place stands what shows that premise.
use Rattle.std.specs.Prelude.{◌≡◌, ℕ, ◌-◌, ◌/◌, ◌==◌, max, nat_lt, Bool, true, false, if◌then◌else◌, ℤ, pos, ◌+ℤ◌, ◌*ℤ◌, unsigned_abs, List, [], ◌∷◌, map, replicate, slice_index_or, slice_set}
use Rattle.std.specs.Int.{IsGcd}
use Rattle.pc_rows.specs.declared.proof.Part.{Part}
use Rattle.pc_rows.specs.declared.system.TheConstants.{PREMISES}
use Rattle.pc_rows.specs.Linear.{InRange, is_zero}
use Rattle.pc_rows.specs.Evidence.{Proof}
use Rattle.pc_rows.specs.Parts.{parts_from}

-- ---- multipliers of premises

-- that of the premise at a place: 0 where no part names it
abbrev pub multiplier_at : List Part → ℕ → ℤ
multiplier_at [] place = pos 0
multiplier_at (q ∷ parts) place = if q.index == place then q.multiplier else multiplier_at parts place

-- the index of a premise in a list without the premise at `place`
abbrev pub index_without : ℕ → ℕ → ℕ
index_without place i = if nat_lt i place then i else i - 1

-- a number added to that of a premise
abbrev pub more_at : ℕ → ℤ → List ℤ → List ℤ
more_at i n ms = slice_set ms i (slice_index_or ms i (pos 0) +ℤ n)

-- a part, `times` as often, added to the multipliers of a list without the premise at `place`
abbrev pub with_part : ℤ → ℕ → List ℤ → Part → List ℤ
with_part times place ms q = if q.index == place then ms else more_at (index_without place q.index) (times *ℤ q.multiplier) ms

-- parts, one after the other
abbrev pub with_parts : ℤ → ℕ → List ℤ → List Part → List ℤ
with_parts times place ms [] = ms
with_parts times place ms (q ∷ parts) = with_parts times place (with_part times place ms q) parts

-- the product and the sum are in range, unless nothing is added
abbrev pub FitsUnless : Bool → ℤ → ℤ → Type 0
FitsUnless true product sum = Unit {0}
FitsUnless false product sum = InRange product × InRange sum

abbrev pub PartFits : ℤ → ℕ → List ℤ → Part → Type 0
PartFits times place ms q =
    FitsUnless (q.index == place) (times *ℤ q.multiplier) (slice_index_or ms (index_without place q.index) (pos 0) +ℤ times *ℤ q.multiplier)

abbrev pub PartsFit : ℤ → ℕ → List ℤ → List Part → Type 0
PartsFit times place ms [] = Unit {0}
PartsFit times place ms (q ∷ parts) = PartFits times place ms q × PartsFit times place (with_part times place ms q) parts

-- ---- the sum

-- a multiplier of the negated goal, and one for each premise that a system may have
pub record Sum : Type 0 where
  pub goal : ℤ
  pub premises : List ℤ

-- by how often the old proof takes the premise that goes, and whether that is 0: then only the indices are others; else the old proof as often as
-- `gone` takes the negated premise, and `gone` as often as the old proof takes the premise
abbrev pub sum_by : Bool → ℤ → List ℤ → Proof → Proof → ℕ → Sum
sum_by true taken ms old gone place = record { goal = old.goal; premises = with_parts (pos 1) place ms old.parts }
sum_by false taken ms old gone place =
    record { goal = gone.goal *ℤ old.goal; premises = with_parts taken PREMISES (with_parts gone.goal place ms old.parts) gone.parts }

abbrev pub SumFitsBy : Bool → ℤ → List ℤ → Proof → Proof → ℕ → Type 0
SumFitsBy true taken ms old gone place = PartsFit (pos 1) place ms old.parts
SumFitsBy false taken ms old gone place =
    PartsFit gone.goal place ms old.parts ×
    PartsFit taken PREMISES (with_parts gone.goal place ms old.parts) gone.parts ×
    InRange (gone.goal *ℤ old.goal)

-- added to multipliers that there are
abbrev pub sum_onto : List ℤ → Proof → Proof → ℕ → Sum
sum_onto ms old gone place = let taken = multiplier_at old.parts place in sum_by (is_zero taken) taken ms old gone place

abbrev pub SumFitsOnto : List ℤ → Proof → Proof → ℕ → Type 0
SumFitsOnto ms old gone place = let taken = multiplier_at old.parts place in SumFitsBy (is_zero taken) taken ms old gone place

-- ---- the sum over the greatest common divisor

-- the greatest common divisor of n and the numbers
abbrev pub IsDivisor : ℕ → List ℤ → ℕ → Type 0
IsDivisor n [] d = d ≡ n
IsDivisor n (x ∷ xs) d = (m : ℕ) × IsGcd (unsigned_abs x) n m × IsDivisor m xs d

abbrev pub over : ℕ → ℤ → ℤ
over d n = pos (unsigned_abs n / d)

-- the absolute values over their greatest common divisor, or over 1 where all are 0
abbrev pub proof_over : ℕ → Sum → Proof
proof_over d sum = record { goal = over (max 1 d) sum.goal; parts = parts_from 0 (map (over (max 1 d)) sum.premises) }

abbrev pub IsSmallest : Sum → Proof → Type 0
IsSmallest sum p = (d : ℕ) × IsDivisor (unsigned_abs sum.goal) sum.premises d × (p ≡ proof_over d sum)

-- the proof `old` without the premise at `place`, in whose place stands what `gone` shows that premise by; none where a number is not in range
pub record IsComposed (old gone : Proof) (place : ℕ) (p : Proof) : Type 0 where
  pub fits : SumFitsOnto (replicate PREMISES (pos 0)) old gone place
  pub smallest : IsSmallest (sum_onto (replicate PREMISES (pos 0)) old gone place) p
