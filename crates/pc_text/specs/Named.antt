-- Names and the numbers that stand for them.
use Rattle.std.specs.Prelude.{◌≡◌, ℕ, ◌+◌, ◌-◌, List, [], ◌∷◌, length, map, Vec, Option, Some, None, option_map, if◌then◌else◌, slice_get, bytes_eq}
use Rattle.std.specs.declared.alloc.Global.{Global}
use Rattle.pc_text.specs.Bytes.{Bytes}

-- the names in the order of their numbers; the first `params` of them are parameters, the others locals
pub record Named : Type 0 where
  pub names : List Bytes
  pub params : ℕ

-- how many of the names are locals
abbrev pub locals : Named → ℕ
locals n = length n.names - n.params

-- the number of a name: how many names stand before it
abbrev pub number_of : List Bytes → Bytes → Option ℕ
number_of [] word = None
number_of (name ∷ names) word = if bytes_eq name word then Some 0 else option_map (λ (v : ℕ). v + 1) (number_of names word)

-- names that own their bytes, as texts
abbrev pub texts : List (Vec ℕ Global) → List Bytes
texts names = map (λ name. name.items) names

-- no two names are the same: each is found under its own number
abbrev pub AreDistinct : List Bytes → Type 0
AreDistinct names = (i : ℕ) (name : Bytes) → slice_get names i ≡ Some name → number_of names name ≡ Some i
