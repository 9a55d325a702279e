-- What `lex` gives is what the text means.
use Rattle.std.proofs.Common.{◌≡◌, ℕ, zero, suc, ◌+◌, ◌-◌, Bool, true, false, cond, nat_lt, List, [], ◌∷◌, length, take, drop, Option, Some, None, Result, Ok, Err, refl, sym, ap, subst, arith, length-take-le, take-append-drop, pos}
use borrow.Author.Tests.{ltb-true, ltb-false}
use Rattle.pc_text.specs.declared.lexeme.Form.{Form}
use Rattle.pc_text.specs.declared.lexeme.Form.TheVariants as form
use Rattle.pc_text.specs.declared.token.Kind.TheVariants as kind
use Rattle.pc_text.specs.declared.token.Token.{Token}
use Rattle.pc_text.specs.declared.token.LexFault.{LexFault}
use Rattle.pc_text.specs.declared.token.LexFault.TheVariants.{LiteralTooBig, NameTooLong}
use Rattle.pc_text.specs.declared.token.TheConstants.{LARGEST, NAME_BYTES}
use Rattle.pc_text.specs.Bytes.{Bytes}
use Rattle.pc_text.specs.Digits.{natural_of}
use Rattle.pc_text.specs.Places.{place_of}
use Rattle.pc_text.specs.Lexemes.{Lexeme, Leads, Fits, total, word_kind, kind_of, with_token}
use Rattle.pc_text.specs.Longest.{longest}
use Rattle.pc_text.specs.Lex.{kind_at, with_length, piece_of, with_front, with_piece, lex_from}
use Rattle.pc_text.specs.Answers.{FaultAt, MeansAt}
use Rattle.pc_text.proofs.LongestLemmas.{lexeme, longest_is, longest_none}

abbrev pub Answer : Type 0
Answer = Result (List Token) LexFault

module _ (s b : Bytes) (at : ℕ) where
  -- no lexeme was read yet
  here : at ≡ at + 0
  here = omega arith

  -- a lexeme within the limits, and what the rest means
  onto : (l : Lexeme) (first : Leads l b) (o : Answer) → MeansAt s (at + length l.text) first.rest o → Fits l.form l.text → MeansAt s at b (with_front (kind_of l.form l.text) at (at + length l.text) o)
  onto l first (Ok ts) (ls, c, f, e) h = (l ∷ ls, (first, c), (h, f), ap (with_token (kind_of l.form l.text) at (at + length l.text)) e)
  onto l first (Err e) (ls, r, c, f, g) h =
      let sum : at + length l.text + total ls ≡ at + (length l.text + total ls) = omega arith in
      (l ∷ ls, r, (first, c), (h, f), subst (λ o. FaultAt s o e r) sum g)

  word : (w : Bytes) (first : Leads (lexeme form.Word w) b) (again : ℕ → Answer) → MeansAt s (at + length w) first.rest (again (length w - 1)) → (c : Bool) → nat_lt NAME_BYTES (length w) ≡ c
      → MeansAt s at b (with_piece at (with_length (length w) (cond c (Err (NameTooLong (place_of s at))) (Ok (Some (word_kind w))))) again)
  word w first again m true e = ([], b, refl, tt, (ap (place_of s) here, lexeme form.Word w, first, refl, ltb-true NAME_BYTES (length w) e))
  word w first again m false e = onto (lexeme form.Word w) first (again (length w - 1)) m (ltb-false NAME_BYTES (length w) e)

  number : (w : Bytes) (first : Leads (lexeme form.Number w) b) (again : ℕ → Answer) → MeansAt s (at + length w) first.rest (again (length w - 1)) → (c : Bool) → nat_lt LARGEST (natural_of w) ≡ c
      → MeansAt s at b (with_piece at (with_length (length w) (cond c (Err (LiteralTooBig (place_of s at))) (Ok (Some (kind.Number (pos (natural_of w))))))) again)
  number w first again m true e = ([], b, refl, tt, (ap (place_of s) here, lexeme form.Number w, first, refl, ltb-true LARGEST (natural_of w) e))
  number w first again m false e = onto (lexeme form.Number w) first (again (length w - 1)) m (ltb-false LARGEST (natural_of w) e)

  -- the longest lexeme, and what the rest means
  piece : (f : Form) (w : Bytes) (first : Leads (lexeme f w) b) (again : ℕ → Answer) → MeansAt s (at + length w) first.rest (again (length w - 1))
      → MeansAt s at b (with_piece at (with_length (length w) (kind_at (place_of s at) f w)) again)
  piece form.Blank w first again m = onto (lexeme form.Blank w) first (again (length w - 1)) m tt
  piece form.Comment w first again m = onto (lexeme form.Comment w) first (again (length w - 1)) m tt
  piece form.Word w first again m = word w first again m (nat_lt NAME_BYTES (length w)) refl
  piece form.Number w first again m = number w first again m (nat_lt LARGEST (natural_of w)) refl
  piece form.Sign w first again m = onto (lexeme form.Sign w) first (again (length w - 1)) m tt

front : (s : Bytes) (at b : ℕ) (r : Bytes) (o : Option (Form × ℕ)) → longest (b ∷ r) ≡ o → ((k : ℕ) → MeansAt s (at + 1 + k) (drop k r) (lex_from s k (at + 1) r))
    → MeansAt s at (b ∷ r) (with_piece at (piece_of (place_of s at) (b ∷ r) o) (λ k. lex_from s k (at + 1) r))
front s at b r None e again = ([], b ∷ r, refl, tt, (ap (place_of s) (here s (b ∷ r) at), r, refl, longest_none (b ∷ r) e))
front s at b r (Some (f, zero)) e again = absurd (let h = (longest_is (b ∷ r) f zero e).0 in omega arith)
front s at b r (Some (f, suc n)) e again =
    let h = longest_is (b ∷ r) f (suc n) e in
    let w = take (suc n) (b ∷ r) in
    let first : Leads (lexeme f w) (b ∷ r) = record { rest = drop (suc n) (b ∷ r); split = sym (take-append-drop (suc n) (b ∷ r)); formed = h.0.0; longest = h.1 } in
    let long : length w ≡ suc n = length-take-le (suc n) (b ∷ r) h.0.2 in
    let place : at + 1 + n ≡ at + length w = omega arith in
    let less : n ≡ length w - 1 = omega arith in
    let rest : MeansAt s (at + length w) (drop n r) (lex_from s (length w - 1) (at + 1) r) =
    subst (λ m. MeansAt s (at + length w) (drop n r) (lex_from s m (at + 1) r)) less (subst (λ m. MeansAt s m (drop n r) (lex_from s n (at + 1) r)) place (again n)) in
    subst (λ m. MeansAt s at (b ∷ r) (with_piece at (with_length m (kind_at (place_of s at) f w)) (λ k. lex_from s k (at + 1) r))) long
    (piece s (b ∷ r) at f w first (λ k. lex_from s k (at + 1) r) rest)

-- at each place, also behind so many bytes that are skipped
pub means : (s i : Bytes) (k at : ℕ) → MeansAt s (at + k) (drop k i) (lex_from s k at i)
means s [] zero at = ([], refl, tt, refl)
means s [] (suc k) at = ([], refl, tt, refl)
means s (b ∷ r) (suc k) at =
    let place : at + 1 + k ≡ at + suc k = omega arith in
    subst (λ o. MeansAt s o (drop k r) (lex_from s k (at + 1) r)) place (means s r k (at + 1))
means s (b ∷ r) zero at =
    let place : at ≡ at + zero = omega arith in
    subst (λ o. MeansAt s o (b ∷ r) (lex_from s zero at (b ∷ r))) place (front s at b r (longest (b ∷ r)) refl (λ k. means s r k (at + 1)))
