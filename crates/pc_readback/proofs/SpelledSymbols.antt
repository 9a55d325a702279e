-- The symbols of a text: names are spelled by names of the language, and numbers are those of tokens.
use Rattle.std.proofs.Common.{◌≡◌, ℕ, ◌+◌, ◌≤◌, pos, refl, ap, sym, ◌∙◌, arith, List, [], ◌∷◌, ◌++◌, append_assoc, length, length-append, Bool, true, false, cond, Some, Ok}
use Rattle.std.specs.Prelude.{◌&&◌, ◌||◌, not, nat_le, slice_range, bytes_eq, codes, nat_eq}
use Rattle.std.specs.List.{list_all}
use Rattle.std.proofs.lemmas.Bool.Decides.{nat_tests}
use Rattle.pc_text.specs.Bytes.{Bytes}
use Rattle.pc_text.specs.Lexemes.{Lexeme, HasForm, AllFit, Fits, IsSplit, class, in_word, kind_of, is_keyword, with_token, tokens_from}
use Rattle.pc_text.specs.Digits.{natural_of}
use Rattle.pc_text.specs.declared.token.Token.{Token}
use Rattle.pc_text.specs.declared.token.Kind.{Kind}
use Rattle.pc_text.specs.declared.token.Kind.TheVariants as kind
use Rattle.pc_text.specs.declared.token.TheConstants.{LARGEST, NAME_BYTES}
use Rattle.pc_text.specs.declared.lexeme.Form.{Form}
use Rattle.pc_text.specs.declared.lexeme.Form.TheVariants as form
use Rattle.pc_text.specs.Answers.{Means}
use Rattle.pc_text.proofs.NumeralWords.{all_pass}
use Rattle.pc_grammar.specs.Symbols.{keyword_of, byte_sign, pair_sign, sign_of, terminal_of, value_of, symbol_of, symbols_of}
use Rattle.pc_language.specs.declared.terminal.Terminal.{Terminal}
use Rattle.pc_language.specs.declared.terminal.Terminal.TheVariants as terminal
use Rattle.pc_grammar.specs.Terminals.{has}
use Rattle.pc_readback.specs.Showable.{is_letter, is_word, is_name, is_literal}
use Rattle.pc_program.proofs.Results.{and_of, at_most}
use Rattle.pc_readback.proofs.PieceSymbols.{slice_is}
use Rattle.pc_readback.proofs.SeenExprs.{spelled}

-- ---- keywords and signs are no names

abbrev is_one_name : Terminal → Bool
is_one_name t = has (terminal.Name ∷ []) t

either_way : (b : Bool) (x y : Terminal) → is_one_name x ≡ false → is_one_name y ≡ false → is_one_name (cond b x y) ≡ false
either_way true x y h k = h
either_way false x y h k = k

keyword_is_no_name : (w : Bytes) → is_one_name (keyword_of w) ≡ false
unfolding keyword_of
keyword_is_no_name w =
    either_way (bytes_eq w (codes "entry")) _ _ refl (either_way (bytes_eq w (codes "var")) _ _ refl (either_way (bytes_eq w (codes "if")) _ _ refl (either_way (bytes_eq w (codes "else")) _ _ refl
    (either_way (bytes_eq w (codes "while")) _ _ refl (either_way (bytes_eq w (codes "try")) _ _ refl (either_way (bytes_eq w (codes "assert")) _ _ refl refl))))))

byte_is_no_name : (b : ℕ) → is_one_name (byte_sign b) ≡ false
unfolding byte_sign
byte_is_no_name b =
    either_way (nat_eq b 40) _ _ refl (either_way (nat_eq b 41) _ _ refl (either_way (nat_eq b 123) _ _ refl (either_way (nat_eq b 125) _ _ refl (either_way (nat_eq b 91) _ _ refl
    (either_way (nat_eq b 93) _ _ refl (either_way (nat_eq b 44) _ _ refl (either_way (nat_eq b 59) _ _ refl (either_way (nat_eq b 61) _ _ refl (either_way (nat_eq b 60) _ _ refl
    (either_way (nat_eq b 62) _ _ refl (either_way (nat_eq b 43) _ _ refl (either_way (nat_eq b 45) _ _ refl refl))))))))))))

pair_is_no_name : (w : Bytes) → is_one_name (pair_sign w) ≡ false
unfolding pair_sign
pair_is_no_name w =
    either_way (bytes_eq w (codes "==")) _ _ refl (either_way (bytes_eq w (codes "!=")) _ _ refl (either_way (bytes_eq w (codes "<=")) _ _ refl (either_way (bytes_eq w (codes ">=")) _ _ refl refl)))

sign_is_no_name : (w : Bytes) → is_one_name (sign_of w) ≡ false
sign_is_no_name [] = pair_is_no_name []
sign_is_no_name (b ∷ []) = byte_is_no_name b
sign_is_no_name (b ∷ c ∷ w) = pair_is_no_name (b ∷ c ∷ w)

-- ---- words that are names

word_is : (w : Bytes) → HasForm form.Word w → is_word w ≡ true
word_is [] h = absurd h
word_is (b ∷ w) h = and_of (is_letter (class b)) (list_all in_word w) (ap is_letter h.0) (all_pass in_word w h.1)

name_is : (w : Bytes) → HasForm form.Word w → length w ≤ NAME_BYTES → is_keyword w ≡ false → is_name w ≡ true
name_is w h l k = and_of (is_word w) (nat_le (length w) NAME_BYTES && not (is_keyword w)) (word_is w h) (and_of (nat_le (length w) NAME_BYTES) (not (is_keyword w)) (at_most (length w) NAME_BYTES l) (ap not k))

literal_is : (n : ℕ) → n ≤ LARGEST → is_literal (pos n) ≡ true
literal_is n h = grind (arith, nat_tests)

-- ---- the symbols of a text

module _ (src : Bytes) where
  -- the symbol of a token with its text
  token_spelled : (k : Kind) (w : Bytes) (at to : ℕ) → slice_range src at to ≡ w →
      is_literal (value_of k) ≡ true → (is_one_name (terminal_of k w) ≡ true → is_name w ≡ true) → spelled src (symbol_of src (record { kind = k; «from» = at; to = to })) ≡ true
  token_spelled k w at to e l n =
      and_of (is_literal (value_of k)) (not (is_one_name (terminal_of k (slice_range src at to))) || is_name (slice_range src at to)) l
      (ap (λ z. not (is_one_name (terminal_of k z)) || is_name z) e ∙ by (is_one_name (terminal_of k w)) n)
    where
      by : (b : Bool) → (b ≡ true → is_name w ≡ true) → (not b || is_name w) ≡ true
      by true h = h refl
      by false h = refl

  no_name : (t : Terminal) (w : Bytes) → is_one_name t ≡ false → is_one_name t ≡ true → is_name w ≡ true
  no_name t w h k = absurd (cc)

  more_spelled : (f : Form) (w : Bytes) (at : ℕ) (ts : List Token) → HasForm f w → Fits f w → slice_range src at (at + length w) ≡ w →
      list_all (spelled src) (symbols_of src ts) ≡ true → list_all (spelled src) (symbols_of src (with_token (kind_of f w) at (at + length w) ts)) ≡ true
  more_spelled form.Blank w at ts h l e k = k
  more_spelled form.Comment w at ts h l e k = k
  more_spelled form.Number w at ts h l e k =
      and_of (spelled src (symbol_of src (record { kind = kind.Number (pos (natural_of w)); «from» = at; to = at + length w }))) (list_all (spelled src) (symbols_of src ts))
      (token_spelled (kind.Number (pos (natural_of w))) w at (at + length w) e (literal_is (natural_of w) l) (no_name terminal.Number w refl)) k
  more_spelled form.Sign w at ts h l e k =
      and_of (spelled src (symbol_of src (record { kind = kind.Sign; «from» = at; to = at + length w }))) (list_all (spelled src) (symbols_of src ts))
      (token_spelled kind.Sign w at (at + length w) e refl (no_name (sign_of w) w (sign_is_no_name w))) k
  more_spelled form.Word w at ts h l e k = by (is_keyword w) refl
    where
      by : (b : Bool) → is_keyword w ≡ b → list_all (spelled src) (symbols_of src (with_token (Some (cond b kind.Keyword kind.Name)) at (at + length w) ts)) ≡ true
      by true q = and_of (spelled src (symbol_of src (record { kind = kind.Keyword; «from» = at; to = at + length w }))) (list_all (spelled src) (symbols_of src ts))
          (token_spelled kind.Keyword w at (at + length w) e refl (no_name (keyword_of w) w (keyword_is_no_name w))) k
      by false q = and_of (spelled src (symbol_of src (record { kind = kind.Name; «from» = at; to = at + length w }))) (list_all (spelled src) (symbols_of src ts))
          (token_spelled kind.Name w at (at + length w) e refl (λ n. name_is w h l q)) k

  all_spelled : (ls : List Lexeme) (front b : Bytes) (at : ℕ) → src ≡ front ++ b → length front ≡ at → IsSplit b ls [] → AllFit ls → list_all (spelled src) (symbols_of src (tokens_from at ls)) ≡ true
  all_spelled [] front b at e l s f = refl
  all_spelled (x ∷ ls) front b at e l (lead, s) (fit, f) =
      let split : src ≡ front ++ (x.text ++ lead.rest) = e ∙ ap (λ z. front ++ z) lead.split in
      let long : length (front ++ x.text) ≡ at + length x.text = omega (arith, length-append front x.text) in
      more_spelled x.form x.text at (tokens_from (at + length x.text) ls) lead.formed fit
      (ap (λ z. slice_range z at (at + length x.text)) split ∙ slice_is front x.text lead.rest at l)
      (all_spelled ls (front ++ x.text) lead.rest (at + length x.text) (split ∙ sym (append_assoc front x.text lead.rest)) long s f)

pub symbols_spelled : (src : Bytes) (ts : List Token) → Means src (Ok ts) → list_all (spelled src) (symbols_of src ts) ≡ true
symbols_spelled src ts (ls, splits, fit, is) = rw is (all_spelled src ls [] src 0 refl refl splits fit)
