-- Lists that are gone through, or written, place by place.
use Rattle.std.proofs.Common.{◌≡◌, ℕ, ◌+◌, ◌<◌, ℤ, refl, sym, ◌∙◌, ap, List, [], ◌∷◌, ◌++◌, length, take, drop, set, get_or, false}
use Rattle.std.proofs.lemmas.List.{append_assoc, take_more_set, drop_more}
use Rattle.pc_simplex.specs.declared.label.Label.{Label}
use Rattle.pc_simplex.specs.Found.{is_label, number_of}

-- the next place is written
pub written : {A : Type 0} (all : List A) (k : ℕ) (x : A) (more rest goal : List A) → k < length all → rest ≡ x ∷ more → take k all ++ rest ≡ goal → take (k + 1) (set all k x) ++ more ≡ goal
written all k x more rest goal lt e h =
    ap (λ z. z ++ more) (take_more_set all k x lt)
    ∙ append_assoc (take k all) (x ∷ []) more
    ∙ ap (λ z. take k all ++ z) (sym e)
    ∙ h

-- a column with another label is passed over
pub passed : (label : Label) (cs : List Label) (xs : List ℤ) (k : ℕ) (c : Label) (x : ℤ) → k < length cs → k < length xs → is_label label (get_or cs k c) ≡ false →
    number_of label (drop (k + 1) cs) (drop (k + 1) xs) ≡ number_of label (drop k cs) (drop k xs)
passed label cs xs k c x lt lt' e =
    sym (ap (λ z. number_of label z (drop k xs)) (drop_more cs k c lt)
    ∙ ap (λ z. number_of label (get_or cs k c ∷ drop (k + 1) cs) z) (drop_more xs k x lt')
    ∙ rw e refl)
