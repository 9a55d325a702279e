use Rattle.std.proofs.Common.{◌≡◌, ℕ, List, [], ◌∷◌, map, refl, sym, ap, ◌∙◌, cond, true, false, Some, None}
use Rattle.std.specs.List.{find}
use Rattle.std.specs.Option.{option_map_or}
use Rattle.std.specs.Str.{bytes_eq}
use Rattle.pc_ports.specs.Memory.{held_under}
use Rattle.pc_ports.specs.Outside.{Held, Nothing}

-- files of any form are seen as names and bytes: the first of a name is the same in either form
held_under-map : {File : Type 0} (files : List File) (seen : File → List ℕ × List ℕ) (name : List ℕ) → held_under (map seen files) name ≡ option_map_or (λ file. Held (seen file).1) (find (λ file. bytes_eq (seen file).0 name) files) Nothing
held_under-map [] seen name = refl
held_under-map (file ∷ files) seen name =
    elim (bytes_eq (seen file).0 name) as (λ same. option_map_or (λ (file : List ℕ × List ℕ). Held file.1) (cond same (Some (seen file)) (find (λ file. bytes_eq file.0 name) (map seen files))) Nothing ≡ option_map_or (λ file. Held (seen file).1) (cond same (Some file) (find (λ file. bytes_eq (seen file).0 name) files)) Nothing) [
      | true ↦ refl
      | false ↦ held_under-map files seen name
    ]

-- what is held under the name of the first file that has it
pub held_at_found : {File : Type 0} (files : List File) (seen : File → List ℕ × List ℕ) (name : List ℕ) (file : File) → Some file ≡ find (λ file. bytes_eq (seen file).0 name) files → held_under (map seen files) name ≡ Held (seen file).1
held_at_found files seen name file found =
    held_under-map files seen name ∙ ap (λ found. option_map_or (λ file. Held (seen file).1) found Nothing) (sym found)

-- under a name that no file has nothing is held
pub held_at_none : {File : Type 0} (files : List File) (seen : File → List ℕ × List ℕ) (name : List ℕ) → None ≡ find (λ file. bytes_eq (seen file).0 name) files → held_under (map seen files) name ≡ Nothing
held_at_none files seen name found =
    held_under-map files seen name ∙ ap (λ found. option_map_or (λ file. Held (seen file).1) found Nothing) (sym found)
