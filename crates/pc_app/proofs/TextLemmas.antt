-- Texts that grow by several pieces.
use Rattle.std.proofs.Common.{◌≡◌, ◌∙◌, ap, ℕ, List, ◌++◌, append_assoc, Result, Ok, Err, OnOk}

-- three pieces, one after the other
pub three_pieces : {A E : Type 0} (r : Result A E) (old a b c first second third : List ℕ) → first ≡ old ++ a → second ≡ first ++ b → OnOk r (third ≡ second ++ c) → OnOk r (third ≡ old ++ (a ++ b ++ c))
three_pieces (Ok u) old a b c first second third p q r = r ∙ ap (λ z. z ++ c) (q ∙ ap (λ z. z ++ b) p ∙ append_assoc old a b) ∙ append_assoc old (a ++ b) c
three_pieces (Err e) old a b c first second third p q r = tt

-- the same, with the last two pieces in one
pub piece_and_two : {A E : Type 0} (r : Result A E) (old a b c first second third : List ℕ) → first ≡ old ++ a → second ≡ first ++ b → OnOk r (third ≡ second ++ c) → OnOk r (third ≡ old ++ (a ++ (b ++ c)))
piece_and_two (Ok u) old a b c first second third p q r = r ∙ ap (λ z. z ++ c) (q ∙ ap (λ z. z ++ b) p) ∙ append_assoc (old ++ a) b c ∙ append_assoc old a (b ++ c)
piece_and_two (Err e) old a b c first second third p q r = tt
