-- The values of variables, one after the other.
use Rattle.std.proofs.Common.{◌≡◌, ◌∙◌, sym, ℕ, ℤ, ◌+◌, ◌≤◌, ◌<◌, get_or, List, [], ◌∷◌, ◌++◌, length, drop, slice_get, Some, refl, codes, append_assoc, append-nil}
use Rattle.std.proofs.lemmas.List.{drop_all}
use Rattle.pc_text.specs.Bytes.{Bytes}
use Rattle.pc_text.specs.Numerals.{numeral}
use Rattle.pc_rows.proofs.Adding.{drop_at, drop_got}
use Rattle.pc_app.specs.Run.{values_text}

no_values : (names : List Bytes) → values_text names [] ≡ []
no_values [] = refl
no_values (name ∷ names) = refl

-- the text of what is left of names and values, behind a text
abbrev pub with_rest : Bytes → ℕ → List Bytes → List ℤ → Bytes
with_rest text i names values = text ++ values_text (drop i names) (drop i values)

pub next_value : (text whole : Bytes) (names : List Bytes) (values : List ℤ) (i : ℕ) (name : Bytes) (value : ℤ) → slice_get names i ≡ Some name → i < length values → value ≡ get_or values i value →
    with_rest text i names values ≡ whole → with_rest (text ++ (codes " " ++ name ++ codes "=" ++ numeral value)) (i + 1) names values ≡ whole
next_value text whole names values i name value e within f h =
    append_assoc text (codes " " ++ name ++ codes "=" ++ numeral value) (values_text (drop (i + 1) names) (drop (i + 1) values))
    ∙ sym (rw (drop_got names i name e, drop_at values i value within f) refl)
    ∙ h

pub no_names_left : (text whole : Bytes) (names : List Bytes) (values : List ℤ) (i : ℕ) → length names ≤ i → with_rest text i names values ≡ whole → text ≡ whole
no_names_left text whole names values i le h = sym (append-nil text) ∙ sym (rw (drop_all i names le) refl) ∙ h

pub no_values_left : (text whole : Bytes) (names : List Bytes) (values : List ℤ) (i : ℕ) → length values ≤ i → with_rest text i names values ≡ whole → text ≡ whole
no_values_left text whole names values i le h = sym (append-nil text) ∙ sym (rw (drop_all i values le, no_values (drop i names)) refl) ∙ h
