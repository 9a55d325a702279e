-- What stores and sinks tell of the outside.
use Rattle.std.specs.Prelude.{◌≡◌, ℕ, ◌<◌, ◌≤◌, ◌+◌, ◌⊎◌, List, ◌++◌, length, take, Option, Some, None}
use Rattle.pc_ports.specs.declared.lists.TheConstants.{LAST_COUNT}
use Rattle.pc_ports.specs.declared.reads.FetchFault.{FetchFault}
use Rattle.pc_ports.specs.declared.reads.FetchFault.TheVariants.{Failed, Missing, NoMemory}

-- what is told of a name: nothing at all, that nothing is held under it, or the bytes held under it
pub data Holding : Type 0 where
  Untold : Holding
  Nothing : Holding
  Held : List ℕ → Holding

-- a count is greater after a call than before it, or stands at its last value
abbrev pub Rose : ℕ → ℕ → Type 0
Rose before now = (before < now) ⊎ (now ≡ LAST_COUNT)

-- these are the first `limit + 1` of the bytes held, or all of them; where nothing is told, no more than so many
abbrev pub TakenFrom : Holding → ℕ → List ℕ → Type 0
TakenFrom Untold limit bytes = length bytes ≤ limit + 1
TakenFrom Nothing limit bytes = ⊥
TakenFrom (Held held) limit bytes = bytes ≡ take (limit + 1) held

-- when each fault of a fetch comes, by what is held under the name and the counts before and after
abbrev pub FetchCause : Holding → ℕ → ℕ → FetchFault → Type 0
FetchCause held before now Failed = Rose before now
FetchCause held before now Missing = (held ≡ Nothing) × (now ≡ before)
FetchCause held before now NoMemory = Unit {0}

-- what was written is followed by these bytes, where it is told
abbrev pub Appended : Option (List ℕ) → Option (List ℕ) → List ℕ → Type 0
Appended None new bytes = new ≡ None
Appended (Some old) new bytes = new ≡ Some (old ++ bytes)

-- what was written is followed by some first bytes of these, and not by all of them
abbrev pub FrontAppended : Option (List ℕ) → Option (List ℕ) → List ℕ → Type 0
FrontAppended old new bytes = (n : ℕ) × (n < length bytes) × Appended old new (take n bytes)
