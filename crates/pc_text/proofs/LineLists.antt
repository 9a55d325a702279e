-- The lines of a text, one after another, as the list of what stands between its line feeds.
use Rattle.std.proofs.Common.{◌≡◌, ◌∙◌, refl, ap, subst, ℕ, zero, suc, ◌<◌, true, false, [], ◌∷◌, ◌++◌, length, arith}
use Rattle.std.specs.List.{All}
use Rattle.std.proofs.lemmas.Bool.{not-true}
use Rattle.std.proofs.lemmas.List.Splits.{slice_split_at, slice_split_none}
use Rattle.pc_text.specs.Bytes.{Bytes}
use Rattle.pc_text.specs.Lexemes.{in_line, EachPasses}
use Rattle.pc_text.specs.Lines.{lines, IsLine}
use Rattle.pc_text.specs.Places.{is_line_feed}
use Rattle.pc_text.specs.Words.{is_empty}

feed_by : (b : ℕ) (line : Bytes) → is_line_feed b ≡ false → All (λ b. is_line_feed b ≡ false) line → All (λ b. is_line_feed b ≡ false) (b ∷ line)
feed_by b line h more zero d l = h
feed_by b line h more (suc k) d l = more k d (omega arith)

-- no byte of a line is a line feed
no_feed : (line : Bytes) → EachPasses in_line line → All (λ b. is_line_feed b ≡ false) line
no_feed [] h = λ k d l. absurd (omega arith)
no_feed (b ∷ line) h = feed_by b line (not-true (is_line_feed b) h.0) (no_feed line h.1)

-- a line and its line feed at the front
pub line_on : (line rest : Bytes) → EachPasses in_line line → lines (line ++ 10 ∷ rest) ≡ line ∷ lines rest
line_on line rest h = slice_split_at is_line_feed line 10 rest (no_feed line h) refl

pub line_first : (b line rest : Bytes) → IsLine b line true rest → lines b ≡ line ∷ lines rest
line_first b line rest h = ap lines h.0 ∙ line_on line rest h.1

pub line_last : (b line rest : Bytes) → IsLine b line false rest → lines b ≡ line ∷ []
line_last b line rest h = ap lines h.0 ∙ slice_split_none is_line_feed line (no_feed line h.2)

not_empty : (b : Bytes) → 0 < length b → is_empty b ≡ false
not_empty [] h = absurd (omega arith)
not_empty (x ∷ b) h = refl

-- a last line is not empty
pub some_last : (b line rest : Bytes) → 0 < length b → IsLine b line false rest → is_empty line ≡ false
some_last b line rest some h = not_empty line (subst (λ z. 0 < length z) h.0 some)
