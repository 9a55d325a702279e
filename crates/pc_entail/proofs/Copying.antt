-- Loops that copy rows to the end of a list.
use Rattle.std.proofs.Common.{◌≡◌, ℕ, ◌+◌, ◌∙◌, ap, sym, List, [], ◌∷◌, ◌++◌, take, drop, slice_get, Some, append_assoc}
use Rattle.std.proofs.lemmas.List.{take_more}
use Rattle.std.proofs.lemmas.Option.{slice_get_within, get_or_from_slice_get}
use Rattle.pc_rows.specs.Linear.{Linear}
use Rattle.pc_rows.specs.Evidence.{System}
use Rattle.pc_rows.proofs.Adding.{drop_got}
use Rattle.pc_entail.specs.Showing.{question}

take_next : (rows : List Linear) (i : ℕ) (r : Linear) → slice_get rows i ≡ Some r → take i rows ++ r ∷ [] ≡ take (i + 1) rows
take_next rows i r at =
    ap (λ (x : Linear). take i rows ++ x ∷ []) (sym (get_or_from_slice_get rows i r r at))
    ∙ sym (take_more rows i r (slice_get_within rows i r at))

-- a premise more
pub premise_more : (first rows : List Linear) (goal : Linear) (i : ℕ) (r : Linear) (system new : System) → slice_get rows i ≡ Some r →
    system ≡ question (first ++ take i rows) goal → new ≡ question (system.premises ++ r ∷ []) system.goal → new ≡ question (first ++ take (i + 1) rows) goal
premise_more first rows goal i r system new at is more =
    more
    ∙ ap (λ (s : System). question (s.premises ++ r ∷ []) s.goal) is
    ∙ ap (λ (z : List Linear). question z goal) (append_assoc first (take i rows) (r ∷ []) ∙ ap (λ (z : List Linear). first ++ z) (take_next rows i r at))

-- a row more
pub row_more : (rows copied new all : List Linear) (i : ℕ) (r : Linear) → slice_get rows i ≡ Some r → copied ++ drop i rows ≡ all → new ≡ copied ++ r ∷ [] → new ++ drop (i + 1) rows ≡ all
row_more rows copied new all i r at rest more =
    ap (λ (z : List Linear). z ++ drop (i + 1) rows) more
    ∙ append_assoc copied (r ∷ []) (drop (i + 1) rows)
    ∙ ap (λ (z : List Linear). copied ++ z) (sym (drop_got rows i r at))
    ∙ rest
