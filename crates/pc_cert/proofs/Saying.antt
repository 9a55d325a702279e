-- What certificates say of the entry, alternative by alternative.
use Rattle.std.proofs.Common.{◌≡◌, ◌<◌, List, [], ◌∷◌, ◌++◌, length, map, refl, ap, arith}
use Rattle.std.specs.List.{flat_map}
use Rattle.pc_text.specs.Bytes.{Bytes}
use Rattle.pc_certificate.specs.declared.certificate.Annotated.{Annotated}
use Rattle.pc_certificate.specs.Certificate.{entry_rows}
use Rattle.pc_condition.specs.Conditions.{line_text, rows_text, suffices, condition_text}

lines_of : (names : List Bytes) (as' : List Annotated) →
    flat_map (λ rows. line_text suffices (rows_text names rows)) (map (λ a. entry_rows a.rows) as') ≡ flat_map (λ a. line_text suffices (rows_text names (entry_rows a.rows))) as'
lines_of names [] = refl
lines_of names (a ∷ as') = ap (λ z. line_text suffices (rows_text names (entry_rows a.rows)) ++ z) (lines_of names as')

pub said : (names : List Bytes) (as' : List Annotated) → 0 < length as' →
    condition_text names (map (λ a. entry_rows a.rows) as') ≡ flat_map (λ a. line_text suffices (rows_text names (entry_rows a.rows))) as'
said names [] h = absurd (omega arith)
said names (a ∷ as') h = lines_of names (a ∷ as')
