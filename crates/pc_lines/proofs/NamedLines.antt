-- Lines that have a name, and those that are just one text.
use Rattle.std.proofs.Common.{◌≡◌, ◌∙◌, refl, ap, sym, Bool, true, [], ◌∷◌}
use Rattle.std.specs.Prelude.{bytes_eq}
use Rattle.std.proofs.lemmas.Bool.{and_parts}
use Rattle.std.proofs.lemmas.Slice.Eq.{bytes_eq-Decides}
use Rattle.pc_rows.proofs.Tests.{same_truth}
use Rattle.pc_text.specs.Bytes.{Bytes}
use Rattle.pc_text.specs.Words.{Words, words}
use Rattle.pc_text.proofs.NumeralWords.{empty_is}
use Rattle.pc_text.proofs.WordLists.{joined, line_of_words}
use Rattle.pc_lines.specs.Forms.{is_named, is_just}
use Rattle.pc_lines.specs.Kinds.{just}
use Rattle.pc_text.proofs.PlainWords.{ArePlain}
use Rattle.pc_lines.proofs.Spelled.{IsSpelled}

pub named_is : (name : Bytes) (p : Words → Bool) (ws : Words) → is_named name p ws ≡ true → (rest : Words) × (ws ≡ name ∷ rest) × (p rest ≡ true)
named_is name p [] h = absurd (cc)
named_is name p (w ∷ ws) h =
    let both = and_parts (bytes_eq w name) (p ws) h in
    (ws, ap (λ z. z ∷ ws) ((bytes_eq-Decides w name).0 both.0), both.1)

pub just_is : (names ws : Words) → is_just names ws ≡ true → ws ≡ names
just_is [] ws h = empty_is ws h
just_is (name ∷ names) ws h = let is = named_is name (is_just names) ws h in is.1 ∙ ap (λ z. name ∷ z) (just_is names is.0 is.2)

just_same : (names : Words) → is_just names names ≡ true
just_same [] = refl
just_same (name ∷ names) = rw ((bytes_eq-Decides name name).1 refl) (just_same names)

-- a line is this text exactly where its words are those of the text
pub just_test : (text line : Bytes) → bytes_eq line text ≡ is_just (words text) (words line)
just_test text line =
    same_truth (bytes_eq line text) (is_just (words text) (words line))
    (λ h. ap (λ z. is_just (words text) (words z)) ((bytes_eq-Decides line text).0 h) ∙ just_same (words text))
    (λ h. (bytes_eq-Decides line text).1 (sym (line_of_words line) ∙ ap joined (just_is (words text) (words line) h) ∙ line_of_words text))

-- the line with just a text spells that nothing more is told
pub just_spelled : (text : Bytes) → ArePlain (words text) → IsSpelled {A = Unit {0}} (just text) (λ _. tt) (λ _. words text) (λ _. Unit {0})
just_spelled text plain = record {
  back = λ ws h k. (tt, sym (just_is (words text) ws h));
  plain = λ u h. plain;
  form = λ u h. just_same (words text);
  rules = λ u h. refl;
  forth = λ u h. refl;
}
