-- The first loop of a program.
use Rattle.std.specs.Prelude.{List, [], ◌∷◌, ◌++◌, map, Option, Some, None}
use Rattle.pc_text.specs.declared.place.Place.{Place}
use Rattle.pc_program.specs.declared.tree.Stmt.{Stmt, Stmt-F, fold-Stmt}
use Rattle.pc_program.specs.declared.tree.Stmt.TheOpen as stmt

abbrev pub all_of : List (List Place) → List Place
all_of [] = []
all_of (ps ∷ more) = ps ++ all_of more

abbrev pub whiles_step : Stmt-F (List Place) → List Place
whiles_step (stmt.Set p v r) = []
whiles_step (stmt.If p t xs ys) = all_of xs ++ all_of ys
whiles_step (stmt.While p t tried xs) = p ∷ all_of xs
whiles_step (stmt.Assert p cs) = []
whiles_step (stmt.Assume p cs) = []

-- the places of the loops of a statement, in the order of the text
abbrev pub whiles : Stmt → List Place
whiles s = fold-Stmt (List Place) whiles_step s

abbrev pub whiles_of : List Stmt → List Place
whiles_of ss = all_of (map whiles ss)

-- the first item, or nothing where there is none
abbrev pub first : List Place → Option Place
first [] = None
first (p ∷ ps) = Some p
