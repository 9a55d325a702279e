-- Stores and sinks in memory, as their contracts see them.
use Rattle.std.specs.Prelude.{◌≡◌, ℕ, ◌+◌, ◌-◌, min, ◌==◌, ◌||◌, nat_le, Bool, true, false, if◌then◌else◌, List, ◌++◌, length, take, find}
use Rattle.std.specs.List.{list_any}
use Rattle.std.specs.Option.{option_map_or}
use Rattle.std.specs.Str.{bytes_eq}
use Rattle.pc_ports.specs.declared.lists.TheConstants.{LAST_COUNT}
use Rattle.pc_ports.specs.declared.reads.FetchFault.{FetchFault}
use Rattle.pc_ports.specs.declared.reads.FetchFault.TheVariants.{Failed, Missing, NoMemory}
use Rattle.pc_ports.specs.Outside.{Holding, Nothing, Held}

-- a store in memory: its files as names and bytes, the numbers of the calls that are to fail, how many calls and faults there were
pub record StoreState : Type 0 where
  pub files : List (List ℕ × List ℕ)
  pub fails : List ℕ
  pub calls : ℕ
  pub faults : ℕ

-- a sink in memory: how many bytes it has room for, the most that a put takes, what was written, and the rest as for a store
pub record SinkState : Type 0 where
  pub room : ℕ
  pub most : ℕ
  pub fails : List ℕ
  pub calls : ℕ
  pub faults : ℕ
  pub written : List ℕ

-- one more, up to the last value of a count, where it stays
abbrev pub one_more : ℕ → ℕ
one_more count = min (count + 1) LAST_COUNT

-- whether the call after so many calls is listed to fail
abbrev pub is_to_fail : List ℕ → ℕ → Bool
is_to_fail fails calls = list_any (λ number. number == one_more calls) fails

-- what files hold under a name: the bytes of the first file of that name
abbrev pub held_under : List (List ℕ × List ℕ) → List ℕ → Holding
held_under files name = option_map_or (λ file. Held file.1) (find (λ file. bytes_eq file.0 name) files) Nothing

-- the store after one more fetch
abbrev pub after_fetch : StoreState → StoreState
after_fetch store =
    record store {
      calls = one_more store.calls;
      faults = if is_to_fail store.fails store.calls then one_more store.faults else store.faults;
    }

-- exactly when a fetch from memory gives each fault, but for want of memory
abbrev pub MemoryFetchCause : StoreState → List ℕ → FetchFault → Type 0
MemoryFetchCause store name Failed = is_to_fail store.fails store.calls ≡ true
MemoryFetchCause store name Missing = (is_to_fail store.fails store.calls ≡ false) × (held_under store.files name ≡ Nothing)
MemoryFetchCause store name NoMemory = is_to_fail store.fails store.calls ≡ false

-- whether the next put is a fault: no room is left, or its call is listed to fail
abbrev pub is_put_fault : SinkState → Bool
is_put_fault sink = nat_le sink.room (length sink.written) || is_to_fail sink.fails sink.calls

-- how many of these bytes the next put takes, where it is no fault
abbrev pub put_len : SinkState → List ℕ → ℕ
put_len sink bytes = min (length bytes) (min sink.most (sink.room - length sink.written))

-- the sink after one more put of these bytes
abbrev pub after_put : SinkState → List ℕ → SinkState
after_put sink bytes =
    if is_put_fault sink
    then record sink { calls = one_more sink.calls; faults = one_more sink.faults }
    else record sink { calls = one_more sink.calls; written = sink.written ++ take (put_len sink bytes) bytes }
