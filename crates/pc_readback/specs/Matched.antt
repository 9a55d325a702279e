-- When symbols are those of pieces, wherever they stand.
use Rattle.std.specs.Prelude.{◌≡◌, List, [], ◌∷◌}
use Rattle.pc_text.specs.Bytes.{Bytes}
use Rattle.pc_grammar.specs.declared.symbol.Symbol.{Symbol}
use Rattle.pc_language.specs.declared.terminal.Terminal.TheVariants as terminal
use Rattle.pc_show.specs.Pieces.{Piece, Blank, LineEnd, Mark, Name, Number}
use Rattle.pc_syntax.specs.Context.{word}

-- the symbols, which stand in the text `src`, are those of the pieces in order; blanks and ends of lines have none
abbrev pub AreOf : Bytes → List Piece → List Symbol → Type 0
AreOf src [] [] = Unit {0}
AreOf src [] (s ∷ u) = ⊥
AreOf src (Blank n ∷ ps) u = AreOf src ps u
AreOf src (LineEnd ∷ ps) u = AreOf src ps u
AreOf src (Mark t ∷ ps) [] = ⊥
AreOf src (Mark t ∷ ps) (s ∷ u) = (s.terminal ≡ t) × AreOf src ps u
AreOf src (Name w ∷ ps) [] = ⊥
AreOf src (Name w ∷ ps) (s ∷ u) = (s.terminal ≡ terminal.Name) × (word src s ≡ w) × AreOf src ps u
AreOf src (Number z ∷ ps) [] = ⊥
AreOf src (Number z ∷ ps) (s ∷ u) = (s.terminal ≡ terminal.Number) × (s.number ≡ z) × AreOf src ps u
