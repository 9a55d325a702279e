-- A canonical text has the tokens of its pieces.
use Rattle.std.specs.Prelude.{◌≡◌, List, Ok, true}
use Rattle.pc_text.specs.Answers as tokens
use Rattle.pc_text.specs.declared.token.Token.{Token}
use Rattle.pc_grammar.specs.Symbols.{symbols_of}
use Rattle.pc_program.specs.declared.program.Program.{Program}
use Rattle.pc_show.specs.Canonical.{program_pieces}
use Rattle.pc_readback.specs.Matched.{AreOf}
use Rattle.pc_readback.specs.Showable.{is_showable}
use Rattle.pc_show.specs.Pieces.{Piece, bytes_of}

-- the text of the pieces has tokens, and these are the pieces
pub record AreCut (ps : List Piece) : Type 0 where
  pub found : List Token
  pub means : tokens.Means (bytes_of ps) (Ok found)
  pub are : AreOf (bytes_of ps) ps (symbols_of (bytes_of ps) found)

-- so with the canonical text of a showable program
abbrev pub CanonicalTextsAreCut : Type 0
CanonicalTextsAreCut = (p : Program) → is_showable p.names p.body ≡ true → AreCut (program_pieces p.names p.body)
