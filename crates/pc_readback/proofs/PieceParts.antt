-- Symbols of pieces that stand one behind the other.
use Rattle.std.proofs.Common.{◌≡◌, refl, ap, List, [], ◌∷◌, ◌++◌}
use Rattle.pc_text.specs.Bytes.{Bytes}
use Rattle.pc_grammar.specs.Combinators.{Text}
use Rattle.pc_show.specs.Pieces.{Piece, Blank, LineEnd, Mark, Name, Number}
use Rattle.pc_readback.specs.Matched.{AreOf}

-- the symbols of the first pieces, and those of the others
pub record Parts (src : Bytes) (ps qs : List Piece) (u : Text) : Type 0 where
  pub left : Text
  pub right : Text
  pub split : u ≡ left ++ right
  pub first : AreOf src ps left
  pub second : AreOf src qs right

pub parts_of : (src : Bytes) (ps qs : List Piece) (u : Text) → AreOf src (ps ++ qs) u → Parts src ps qs u
parts_of src [] qs u h = record { left = []; right = u; split = refl; first = tt; second = h }
parts_of src (Blank n ∷ ps) qs u h = let r = parts_of src ps qs u h in record { left = r.left; right = r.right; split = r.split; first = r.first; second = r.second }
parts_of src (LineEnd ∷ ps) qs u h = let r = parts_of src ps qs u h in record { left = r.left; right = r.right; split = r.split; first = r.first; second = r.second }
parts_of src (Mark t ∷ ps) qs [] h = absurd h
parts_of src (Mark t ∷ ps) qs (s ∷ u) (e, h) =
    let r = parts_of src ps qs u h in record { left = s ∷ r.left; right = r.right; split = ap (λ u. s ∷ u) r.split; first = (e, r.first); second = r.second }
parts_of src (Name w ∷ ps) qs [] h = absurd h
parts_of src (Name w ∷ ps) qs (s ∷ u) (e, f, h) =
    let r = parts_of src ps qs u h in record { left = s ∷ r.left; right = r.right; split = ap (λ u. s ∷ u) r.split; first = (e, f, r.first); second = r.second }
parts_of src (Number z ∷ ps) qs [] h = absurd h
parts_of src (Number z ∷ ps) qs (s ∷ u) (e, f, h) =
    let r = parts_of src ps qs u h in record { left = s ∷ r.left; right = r.right; split = ap (λ u. s ∷ u) r.split; first = (e, f, r.first); second = r.second }
