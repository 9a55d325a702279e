-- The values at the keys of an object.
use Rattle.std.specs.Prelude.{◌≡◌, ℕ, List, Result, Ok, Err}
use Rattle.serde_json.specs.Data.{Data, Members, member}
use Rattle.serde_json.specs.View.{view}
use Rattle.serde_json.specs.declared.Value.{Value}
use Rattle.pc_json.specs.declared.fault.JsonFault.{JsonFault}
use Rattle.pc_json.specs.declared.fault.JsonFault.TheVariants as fault
use Rattle.pc_json.specs.declared.members.Head.{Head}
use Rattle.pc_json.specs.declared.members.Body.{Body}
use Rattle.pc_json.specs.Values.{of_two, of_five}

abbrev pub of_body : Body → Data
of_body b = of_two (view b.proofs) (view b.rows)

abbrev pub of_head : Head → Data
of_head h = of_five (view h.alternatives) (view h.edges) (view h.points) (view h.variables) (view h.version)

-- the first member is taken: it has the key, and the others are left; at the fault there is no such member
abbrev pub StartsWith : Members → List ℕ → Result Value JsonFault → Members → Type 0
StartsWith old key (Ok v) new = old ≡ member key (view v) new
StartsWith old key (Err e) new = (e ≡ fault.Value) × ((d : Data) (more : Members) → old ≡ member key d more → ⊥)

-- the values at the two keys; at the fault the value is no such object
abbrev pub IsBody : Data → Result Body JsonFault → Type 0
IsBody d (Ok b) = d ≡ of_body b
IsBody d (Err e) = (e ≡ fault.Value) × ((x y : Data) → d ≡ of_two x y → ⊥)

-- the values at the five keys; at the fault the value is no such object
abbrev pub IsHead : Data → Result Head JsonFault → Type 0
IsHead d (Ok h) = d ≡ of_head h
IsHead d (Err e) = (e ≡ fault.Value) × ((a b x y z : Data) → d ≡ of_five a b x y z → ⊥)
