-- What an edge owes, and the rows that it has to show.
use Rattle.std.proofs.Common.{◌≡◌, List, [], ◌∷◌, ◌++◌, map, length, refl, ap, ◌∙◌}
use Rattle.std.proofs.lemmas.List.{length-map}
use Rattle.pc_rows.specs.Linear.{Linear}
use Rattle.pc_flow.specs.Arc.{What, Enter, Test, Set, Check}
use Rattle.pc_flow.specs.Carry.{back, back_all, owes, asked, OwedIsAsked}

back_all_is : (w : What) (rows : List Linear) → back_all w rows ≡ map (back w) rows
back_all_is w [] = refl
back_all_is w (r ∷ rows) = ap (λ z. back w r ∷ z) (back_all_is w rows)

asserted : (own rows : List Linear) → rows ≡ map (back (Check own)) rows
asserted own [] = refl
asserted own (r ∷ rows) = ap (λ z. r ∷ z) (asserted own rows)

pub owed_is_asked : OwedIsAsked
owed_is_asked (Enter params) rows = back_all_is (Enter params) rows
owed_is_asked (Test own) rows = back_all_is (Test own) rows
owed_is_asked (Set x form lo hi) rows = back_all_is (Set x form lo hi) rows
owed_is_asked (Check own) rows = asserted own (own ++ rows)

pub owed_long : (w : What) (rows : List Linear) → length (owes w rows) ≡ length (asked w rows)
owed_long w rows = ap (length {A = Linear}) (owed_is_asked w rows) ∙ length-map (asked w rows) (back w)
