-- What the steps of a composition answer.
use Rattle.std.specs.Prelude.{◌≡◌, ℕ, ℤ, pos, List, replicate, Option, Some, None, Result, Ok, Err}
use Rattle.pc_rows.specs.declared.number.Past.{Past}
use Rattle.pc_rows.specs.declared.proof.Part.{Part}
use Rattle.pc_rows.specs.declared.rows.NoMemory.{NoMemory}
use Rattle.pc_rows.specs.declared.system.TheConstants.{PREMISES}
use Rattle.pc_rows.specs.Evidence.{Proof}
use Rattle.pc_entail.specs.Composition.{with_part, with_parts, PartFits, PartsFit, sum_onto, SumFitsOnto, IsSmallest, IsComposed}

-- a part is added exactly where the product and the sum are in range
abbrev pub PartIs : ℤ → ℕ → List ℤ → Part → Result (Unit {0}) Past → List ℤ → Type 0
PartIs times place ms q (Ok u) new = PartFits times place ms q × (new ≡ with_part times place ms q)
PartIs times place ms q (Err e) new = PartFits times place ms q → ⊥

-- parts, one after the other
abbrev pub PartsAre : ℤ → ℕ → List ℤ → List Part → Result (Unit {0}) Past → List ℤ → Type 0
PartsAre times place ms parts (Ok u) new = PartsFit times place ms parts × (new ≡ with_parts times place ms parts)
PartsAre times place ms parts (Err e) new = PartsFit times place ms parts → ⊥

-- the sum, onto multipliers that there are
abbrev pub SumIs : List ℤ → Proof → Proof → ℕ → Result ℤ Past → List ℤ → Type 0
SumIs ms old gone place (Ok goal) new =
    SumFitsOnto ms old gone place × (record { goal = goal; premises = new } ≡ sum_onto ms old gone place)
SumIs ms old gone place (Err e) new = SumFitsOnto ms old gone place → ⊥

-- the proof of a sum
abbrev pub ProofIs : ℤ → List ℤ → Result Proof NoMemory → Type 0
ProofIs goal ms (Ok p) = IsSmallest (record { goal = goal; premises = ms }) p
ProofIs goal ms (Err e) = Unit {0}

-- the composed proof, exactly where its numbers are in range
abbrev pub ComposedIs : Proof → Proof → ℕ → Result (Option Proof) NoMemory → Type 0
ComposedIs old gone place (Ok (Some p)) = IsComposed old gone place p
ComposedIs old gone place (Ok None) = SumFitsOnto (replicate PREMISES (pos 0)) old gone place → ⊥
ComposedIs old gone place (Err e) = Unit {0}
