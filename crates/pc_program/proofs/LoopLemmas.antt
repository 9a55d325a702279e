-- The first loop of an `if` is that of its first block, or else that of its second.
use Rattle.std.proofs.Common.{◌≡◌, List, [], ◌∷◌, ◌++◌, Option, Some, None, refl, sym, ap, ◌∙◌}
use Rattle.pc_text.specs.declared.place.Place.{Place}
use Rattle.pc_program.specs.Loops.{whiles, whiles_step, whiles_of, first}
use Rattle.pc_program.specs.declared.tree.Test.{Test}
use Rattle.pc_program.specs.declared.tree.Stmt.{Stmt, fold-roll-Stmt}
use Rattle.pc_program.specs.declared.tree.Stmt.TheVariants.{If, rolls-If}
use Rattle.pc_program.specs.declared.tree.Stmt.TheOpen as stmt

whiles-if : (x : Stmt) (p : Place) (t : Test) (xs ys : List Stmt) → x ≡ If p t xs ys → whiles x ≡ (whiles_of xs ++ whiles_of ys)
whiles-if x p t xs ys e = ap whiles (e ∙ sym (rolls-If p t xs ys)) ∙ fold-roll-Stmt (List Place) whiles_step (stmt.If p t xs ys)

first-left : (ps qs : List Place) (place : Place) → Some place ≡ first ps → Some place ≡ first (ps ++ qs)
first-left [] qs place h = cc
first-left (p ∷ ps) qs place h = h

first-right : (ps qs : List Place) → None ≡ first ps → first qs ≡ first (ps ++ qs)
first-right [] qs h = refl
first-right (p ∷ ps) qs h = cc

pub found_first : (x : Stmt) (p : Place) (t : Test) (xs ys list : List Stmt) (place : Place) → x ≡ If p t xs ys → list ≡ xs → Some place ≡ first (whiles_of list) →
    Some place ≡ first (whiles x)
found_first x p t xs ys list place e same h =
    first-left (whiles_of xs) (whiles_of ys) place (h ∙ ap (λ (z : List Stmt). first (whiles_of z)) same) ∙ ap first (sym (whiles-if x p t xs ys e))

pub found_second : (x : Stmt) (p : Place) (t : Test) (xs ys list more : List Stmt) (found : Option Place) → x ≡ If p t xs ys → list ≡ xs → None ≡ first (whiles_of list) →
    more ≡ ys → found ≡ first (whiles_of more) → found ≡ first (whiles x)
found_second x p t xs ys list more found e same none also h =
    h ∙ ap (λ (z : List Stmt). first (whiles_of z)) also ∙ first-right (whiles_of xs) (whiles_of ys) (none ∙ ap (λ (z : List Stmt). first (whiles_of z)) same) ∙
    ap first (sym (whiles-if x p t xs ys e))
