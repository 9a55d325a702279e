-- The tokens of pieces are their symbols.
use Rattle.std.proofs.Common.{◌≡◌, ℕ, zero, suc, ◌+◌, ◌-◌, take, drop, true, false, cond, List, [], ◌∷◌, ◌++◌, length, replicate, Option, Some, Ok, refl, sym, ap, ◌∙◌, subst, arith, append_assoc, append-nil, length-append}
use Rattle.std.specs.Prelude.{slice_range}
use Rattle.std.proofs.lemmas.List.{take_at, drop_at}
use Rattle.pc_text.specs.declared.lexeme.Form.TheVariants as form
use Rattle.pc_text.specs.declared.token.Kind.{Kind}
use Rattle.pc_text.specs.declared.token.Kind.TheVariants as kind
use Rattle.pc_text.specs.declared.token.Token.{Token}
use Rattle.pc_text.specs.Bytes.{Bytes}
use Rattle.pc_text.specs.Answers.{Means}
use Rattle.pc_text.specs.Lexemes.{is_keyword, kind_of, Lexeme, IsSplit, with_token, tokens_from}
use Rattle.pc_text.proofs.LongestLemmas.{lexeme}
use Rattle.pc_grammar.specs.Symbols.{keyword_of, byte_sign, pair_sign, terminal_of, symbols_of}
use Rattle.pc_language.specs.declared.terminal.Terminal.{Terminal}
use Rattle.pc_language.specs.declared.terminal.Terminal.TheVariants as terminal
use Rattle.pc_show.specs.Pieces.{Piece, Blank, LineEnd, Mark, Name, Number, blanks, spelling, spelled, bytes_of}
use Rattle.pc_readback.specs.Matched.{AreOf}
use Rattle.pc_readback.proofs.PieceLexemes.{is_mark, is_word_mark, form_of, lexemes_of_piece, lexemes_of, IsApart, AreApart, named, written, pieces_split, pieces_fit}

-- a front of a text, and what stands behind it
pub slice_is : (front w rest : Bytes) (at : ℕ) → length front ≡ at → slice_range (front ++ (w ++ rest)) at (at + length w) ≡ w
slice_is front w rest at e =
    let count : at + length w - at ≡ length w = omega arith in
    ap (λ (n : ℕ). take n (drop at (front ++ (w ++ rest)))) count ∙ ap (take (length w)) (drop_at front (w ++ rest) at e) ∙ take_at w rest (length w) refl

-- the kind of a mark's token
abbrev kind_of_mark : Terminal → Kind
kind_of_mark t = cond (is_word_mark t) kind.Keyword kind.Sign

mark_kind : (t : Terminal) → is_mark t ≡ true → kind_of (form_of t) (spelling t) ≡ Some (kind_of_mark t)
unfolding is_keyword
mark_kind terminal.Name e = cc
mark_kind terminal.Number e = cc
mark_kind t e = refl

mark_terminal : (t : Terminal) → is_mark t ≡ true → terminal_of (kind_of_mark t) (spelling t) ≡ t
unfolding keyword_of byte_sign pair_sign
mark_terminal terminal.Name e = cc
mark_terminal terminal.Number e = cc
mark_terminal t e = refl

name_kind : (w : Bytes) → is_keyword w ≡ false → kind_of form.Word w ≡ Some kind.Name
name_kind w e = rw e refl

-- blanks have no tokens
blank_tokens : (n at : ℕ) (ls : List Lexeme) → tokens_from at (replicate n (lexeme form.Blank (32 ∷ [])) ++ ls) ≡ tokens_from (at + n) ls
blank_tokens zero at ls = ap (λ (k : ℕ). tokens_from k ls) (omega arith)
blank_tokens (suc n) at ls = blank_tokens n (at + 1) ls ∙ ap (λ (k : ℕ). tokens_from k ls) (omega arith)

blanks_long : (n : ℕ) → length (blanks n) ≡ n
blanks_long zero = refl
blanks_long (suc n) = ap suc (blanks_long n)

module _ (src : Bytes) where
  -- behind a piece that stands between `front` and `b`
  piece_is : (p : Piece) (ps : List Piece) (front b : Bytes) (at : ℕ) (ls : List Lexeme) → src ≡ front ++ (spelled p ++ b) → length front ≡ at → IsApart p b →
      AreOf src ps (symbols_of src (tokens_from (at + length (spelled p)) ls)) → AreOf src (p ∷ ps) (symbols_of src (tokens_from at (lexemes_of_piece p ++ ls)))
  piece_is (Blank n) ps front b at ls e l h g =
      subst (λ (ts : List Token). AreOf src ps (symbols_of src ts)) (ap (λ (k : ℕ). tokens_from (at + k) ls) (blanks_long n) ∙ sym (blank_tokens n at ls)) g
  piece_is LineEnd ps front b at ls e l h g = g
  piece_is (Mark t) ps front b at ls e l h g =
      let range = ap (λ z. slice_range z at (at + length (spelling t))) e ∙ slice_is front (spelling t) b at l in
      subst (λ (k : Option Kind). AreOf src (Mark t ∷ ps) (symbols_of src (with_token k at (at + length (spelling t)) (tokens_from (at + length (spelling t)) ls)))) (sym (mark_kind t h.0))
      (ap (terminal_of (kind_of_mark t)) range ∙ mark_terminal t h.0, g)
  piece_is (Name w) ps front b at ls e l h g =
      let range = ap (λ z. slice_range z at (at + length w)) e ∙ slice_is front w b at l in
      subst (λ (k : Option Kind). AreOf src (Name w ∷ ps) (symbols_of src (with_token k at (at + length w) (tokens_from (at + length w) ls)))) (sym (name_kind w (named w h.0).free))
      (refl, range, g)
  piece_is (Number z) ps front b at ls e l h g = (refl, (written z h.0).value, g)

  pieces_are : (ps : List Piece) (front r : Bytes) (at : ℕ) → src ≡ front ++ (bytes_of ps ++ r) → length front ≡ at → AreApart ps r → AreOf src ps (symbols_of src (tokens_from at (lexemes_of ps)))
  pieces_are [] front r at e l h = tt
  pieces_are (p ∷ ps) front r at e l h =
      let split : src ≡ front ++ (spelled p ++ (bytes_of ps ++ r)) = e ∙ ap (λ z. front ++ z) (append_assoc (spelled p) (bytes_of ps) r) in
      let long : length (front ++ spelled p) ≡ at + length (spelled p) = omega (arith, length-append front (spelled p)) in
      piece_is p ps front (bytes_of ps ++ r) at (lexemes_of ps) split l h.0
      (pieces_are ps (front ++ spelled p) r (at + length (spelled p)) (split ∙ sym (append_assoc front (spelled p) (bytes_of ps ++ r))) long h.1)

-- pieces that stand apart have their tokens
pub lexes : (ps : List Piece) → AreApart ps [] → (ts : List Token) × Means (bytes_of ps) (Ok ts) × AreOf (bytes_of ps) ps (symbols_of (bytes_of ps) ts)
lexes ps h =
    let ls = lexemes_of ps in
    let whole : bytes_of ps ++ [] ≡ bytes_of ps = append-nil (bytes_of ps) in (
      tokens_from 0 ls,
      (ls, subst (λ (b : Bytes). IsSplit b ls []) whole (pieces_split ps [] h), pieces_fit ps [] h, refl),
      pieces_are (bytes_of ps) ps [] [] 0 (sym whole) refl h,
    )
