-- Two lists of which the items belong together, and a list of at most one item.
use Rattle.std.specs.Prelude.{List, [], ◌∷◌, Option, Some, None}

-- the lists are equally long, and R holds of the items at each place
abbrev pub Pairwise : {A B : Type 0} → (A → B → Type 0) → List A → List B → Type 0
Pairwise R [] [] = Unit {0}
Pairwise R [] (y ∷ ys) = ⊥
Pairwise R (x ∷ xs) [] = ⊥
Pairwise R (x ∷ xs) (y ∷ ys) = R x y × Pairwise R xs ys

-- the item, where there is one
abbrev pub as_list : {A : Type 0} → Option A → List A
as_list (Some x) = x ∷ []
as_list None = []
