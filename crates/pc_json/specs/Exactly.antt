-- What a reader of one value answers exactly.
use Rattle.std.specs.Prelude.{◌≡◌, ◌≤◌, ℕ, List, ◌∷◌, [], map, take, Result, Ok, Err}
use Rattle.serde_json.specs.Data.{Data}
use Rattle.serde_json.specs.View.{view}
use Rattle.serde_json.specs.declared.Value.{Value}
use Rattle.pc_rows.specs.declared.proof.Part.{Part}
use Rattle.pc_rows.specs.Linear.{Linear, InRange, of_constant}
use Rattle.pc_rows.specs.Evidence.{IsPart}
use Rattle.pc_json.specs.Values.{of_numeral, of_part}
use Rattle.pc_json.specs.declared.fault.JsonFault.{JsonFault}
use Rattle.pc_json.specs.declared.fault.JsonFault.TheVariants as fault

-- the answer is exact: at Ok it keeps P and the value is its own, and at the fault Value the value is that of nothing that keeps P; want of
-- memory is free
abbrev pub IsExactly : {X : Type 0} → (X → Type 0) → (X → Data) → Data → Result X JsonFault → Type 0
IsExactly P f d (Ok x) = P x × (d ≡ f x)
IsExactly P f d (Err fault.Json) = ⊥
IsExactly P f d (Err fault.Value) = (x : _) → P x → d ≡ f x → ⊥
IsExactly P f d (Err fault.NoMemory) = Unit {0}

-- the part of two values, with an index from `least` on
abbrev pub IsNext : ℕ → Data → Data → Result Part JsonFault → Type 0
IsNext least i m (Ok p) = (least ≤ p.index) × IsPart p × (i ∷ m ∷ [] ≡ of_part p)
IsNext least i m (Err fault.Json) = ⊥
IsNext least i m (Err fault.Value) = (p : Part) → least ≤ p.index → IsPart p → i ∷ m ∷ [] ≡ of_part p → ⊥
IsNext least i m (Err fault.NoMemory) = Unit {0}

-- the row has the constant of the first value, and no variables
abbrev pub IsConstant : Linear → List Value → Type 0
IsConstant r list = InRange r.constant × (r ≡ of_constant r.constant) × (map view (take 1 list) ≡ of_numeral r.constant ∷ [])
