-- A part more at the end of a sum.
use Rattle.std.proofs.Common.{◌≡◌, true, false, List, [], ◌∷◌, ◌++◌, refl, sym, ap, ◌∙◌, append_assoc}
use Rattle.std.specs.List.{flat_map}
use Rattle.std.proofs.lemmas.List.{append-nil}
use Rattle.std.proofs.lemmas.List.Concat.{flat_map-append}
use Rattle.pc_condition.specs.Conditions.{Part, part_text, sum_text, is_empty}

pub sum_text-push :
    (ps : List Part) (p : Part) → sum_text (ps ++ p ∷ []) ≡ sum_text ps ++ part_text (is_empty ps) p
sum_text-push [] p = append-nil (part_text true p)
sum_text-push (q ∷ ps) p =
    ap (λ z. part_text true q ++ z) (flat_map-append (part_text false) ps (p ∷ []) ∙ ap (λ z. flat_map (part_text false) ps ++ z) (append-nil (part_text false p)))
    ∙ sym (append_assoc (part_text true q) (flat_map (part_text false) ps) (part_text false p))

pub is_empty-push : (ps : List Part) (p : Part) → is_empty (ps ++ p ∷ []) ≡ false
is_empty-push [] p = refl
is_empty-push (q ∷ ps) p = refl
