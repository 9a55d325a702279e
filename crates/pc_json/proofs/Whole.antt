-- What is read of bytes.
use Rattle.std.proofs.Common.{◌≡◌, ◌∙◌, ℕ, ◌+◌, List, [], ◌∷◌, length, get_or, remove, Option, Some, None, Result, Ok, Err, sym, ap, ap₂, arith}
use Rattle.serde_json.specs.Data.{Data, null, object, Members, member, no_members}
use Rattle.serde_json.specs.View.{view}
use Rattle.serde_json.specs.declared.Value.{Value}
use Rattle.pc_text.specs.Bytes.{Bytes}
use Rattle.pc_certificate.specs.Certificate.{Certificate}
use Rattle.pc_json.specs.declared.fault.JsonFault.{JsonFault}
use Rattle.pc_json.specs.declared.fault.JsonFault.TheVariants as fault
use Rattle.pc_json.specs.declared.members.Head.{Head}
use Rattle.pc_json.specs.declared.sizes.Sizes.{Sizes}
use Rattle.pc_json.specs.Values.{of_count, of_certificate, version}
use Rattle.pc_json.specs.Kept.{IsKept}
use Rattle.pc_json.specs.Keys.{of_head}
use Rattle.pc_json.specs.Named.{IsWithin, of_three, of_sizes, sizes_in}
use Rattle.pc_json.specs.Exactly.{IsExactly}
use Rattle.pc_json.specs.Answers.{IsJson, Means}
use Rattle.pc_json.proofs.Keeping.{is_certificate, is_showable, is_kept}

abbrev pub members_in : Data → Members
members_in (object ms) = ms
members_in _ = no_members

abbrev pub first : Members → Data
first no_members = null
first (member k d ms) = d

abbrev pub rest : Members → Members
rest no_members = no_members
rest (member k d ms) = ms

sizes : ℕ → ℕ → ℕ → Sizes
sizes p e v = record { points = p; edges = e; variables = v }

-- the fault of the version is that of the whole
pub version_err : (h : Head) (e : JsonFault) → IsExactly {X = Unit {0}} (λ _. Unit {0}) (λ _. of_count version) (view h.version) (Err e) → IsExactly IsKept of_certificate (of_head h) (Err e)
version_err h fault.Json g = g
version_err h fault.Value g = λ c kept is. g tt tt (ap (λ d. first (rest (rest (rest (rest (members_in d)))))) is)
version_err h fault.NoMemory g = tt

-- the fault of the sizes is that of the whole
pub sizes_err : (h : Head) (e : JsonFault) → IsExactly IsWithin of_sizes (sizes_in h) (Err e) → IsExactly IsKept of_certificate (of_head h) (Err e)
unfolding sizes
sizes_err h fault.Json g = g
sizes_err h fault.Value g = λ c kept is.
    g (sizes c.points c.edges c.variables) (record { points = kept.points; edges = kept.edges; variables = kept.variables })
    (ap (λ d. of_three (first (rest (rest (members_in d)))) (first (rest (members_in d))) (first (rest (rest (rest (members_in d)))))) is)
sizes_err h fault.NoMemory g = tt

-- the first of some values is taken
pub front_taken : (old new : List Value) (v : Value) → length new + 1 ≡ length old → v ≡ get_or old 0 v → new ≡ remove old 0 → old ≡ v ∷ new
front_taken [] new v long at is = absurd (omega (arith, long))
front_taken (x ∷ old) new v long at is = ap₂ (λ a b. a ∷ b) (sym at) (sym is)

-- what is read of the value is what the bytes mean
pub means_of : (b : Bytes) (d : Data) (r : Result Certificate JsonFault) → IsJson b d → IsExactly IsKept of_certificate d r → Means b r
means_of b d (Ok c) json h = record { kept = is_certificate c h.0; showable = is_showable c h.0; value = (json.0, json.1 ∙ ap Some h.1) }
means_of b d (Err fault.Json) json h = absurd h
means_of b d (Err fault.Value) json h = (d, json, λ c kept showable is. h c (is_kept c kept showable) is)
means_of b d (Err fault.NoMemory) json h = tt

abbrev data_or : Data → Option Data → Data
data_or d None = d
data_or d (Some e) = e

pub one_value : (b : Bytes) (d e : Data) → IsJson b d → IsJson b e → d ≡ e
one_value b d e h g = ap (data_or d) (sym h.1 ∙ g.1)
