-- The text of an alternative, from its points and its edges.
use Rattle.std.proofs.Common.{◌≡◌, ◌∙◌, ap, sym, List, [], ◌∷◌, ◌++◌, append_assoc}
use Rattle.std.specs.Prelude.{codes}
use Rattle.pc_text.specs.Bytes.{Bytes}
use Rattle.pc_text.specs.Words.{Words}
use Rattle.pc_lines.specs.Texts.{lines_text}
use Rattle.pc_lines.proofs.Shown.{grown, lines_on}

pub two_parts : (old head mid new : Bytes) (a b : List Words) → head ≡ old ++ codes "alternative\n" → mid ≡ head ++ lines_text a → new ≡ mid ++ lines_text b →
    new ≡ old ++ lines_text ((codes "alternative" ∷ []) ∷ (a ++ b))
two_parts old head mid new a b e f g =
    grown head mid new (lines_text a) (lines_text b) f g
    ∙ ap (λ z. head ++ z) (sym (lines_on a b))
    ∙ ap (λ z. z ++ lines_text (a ++ b)) e
    ∙ append_assoc old (codes "alternative\n") (lines_text (a ++ b))
