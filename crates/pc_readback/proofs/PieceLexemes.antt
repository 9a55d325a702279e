-- Pieces of a text are its longest lexemes, where each stands apart from the next.
use Rattle.std.proofs.Common.{◌≡◌, ◌≤◌, ℕ, zero, suc, ◌+◌, ℤ, pos, negsuc, Bool, true, false, cond, nat_eq, nat_le, List, [], ◌∷◌, ◌++◌, length, map, replicate, Some, refl, sym, ap, ◌∙◌, subst, arith, codes, append_assoc, inl, inr}
use Rattle.std.specs.Prelude.{◌&&◌, ◌==◌, not}
use Rattle.std.specs.Int.Digits.{digits_of}
use Rattle.std.specs.List.{list_all}
use Rattle.std.proofs.Math.Dec.{eqb→eq, T}
use Rattle.std.proofs.lemmas.Bool.Decides.{nat_tests}
use Rattle.pc_text.specs.declared.lexeme.Form.{Form}
use Rattle.pc_text.specs.declared.lexeme.Form.TheVariants as form
use Rattle.pc_text.specs.declared.lexeme.Class.{Class}
use Rattle.pc_text.specs.declared.lexeme.Class.TheVariants.{Blank as BlankByte, Slash, Letter, Digit, Alone, MayEqual, Bang, Ampersand, Other}
use Rattle.pc_text.specs.declared.token.TheConstants.{LARGEST, NAME_BYTES}
use Rattle.pc_text.specs.Bytes.{Bytes}
use Rattle.pc_text.specs.Digits.{natural_of}
use Rattle.pc_text.specs.Numerals.{numeral, IsNumeral, integer_of}
use Rattle.pc_text.specs.Lexemes.{class, in_word, in_number, is_letter_or_digit, is_digit, is_keyword, EachPasses, HasForm, Lexeme, Leads, IsSplit, Fits, AllFit}
use Rattle.pc_text.specs.Longest.{run, longest, pair_or}
use Rattle.pc_text.proofs.LongestLemmas.{AtLeast, bounds, lexeme}
use Rattle.pc_text.proofs.NumeralTexts.{numeral_is, integer_numeral, digit_class}
use Rattle.pc_text.proofs.NumeralWords.{each_passes}
use Rattle.pc_language.specs.declared.terminal.Terminal.{Terminal}
use Rattle.pc_language.specs.declared.terminal.Terminal.TheVariants as terminal
use Rattle.pc_rows.specs.Linear.{in_range}
use Rattle.pc_show.specs.Pieces.{Piece, Blank, LineEnd, Mark, Name, Number, blanks, spelling, spelled, bytes_of}
use Rattle.pc_readback.specs.Showable.{is_letter, is_word, is_name, is_literal}
use Rattle.pc_program.proofs.Results.{and_is, not_true}

-- ---- what stands behind a piece

-- a blank or a sign of one byte, which lengthen nothing
abbrev is_stopping : Class → Bool
is_stopping BlankByte = true
is_stopping Alone = true
is_stopping _ = false

abbrev pub is_stop : ℕ → Bool
is_stop b = is_stopping (class b)

-- the text is at its end, or goes on with such a byte
abbrev pub IsStop : Bytes → Type 0
IsStop [] = Unit {0}
IsStop (b ∷ r) = is_stop b ≡ true

-- the text is at its end, or goes on with a byte that does not pass
abbrev Ends : (ℕ → Bool) → Bytes → Type 0
Ends p [] = Unit {0}
Ends p (b ∷ r) = p b ≡ false

no_letter : (c : Class) → is_stopping c ≡ true → is_letter_or_digit c ≡ false
no_letter Slash e = cc
no_letter Letter e = cc
no_letter Digit e = cc
no_letter c e = refl

no_digit : (c : Class) → is_stopping c ≡ true → is_digit c ≡ false
no_digit Slash e = cc
no_digit Digit e = cc
no_digit c e = refl

ends_word : (r : Bytes) → IsStop r → Ends in_word r
ends_word [] h = tt
ends_word (b ∷ r) h = no_letter (class b) h

ends_number : (r : Bytes) → IsStop r → Ends in_number r
ends_number [] h = tt
ends_number (b ∷ r) h = no_digit (class b) h

equal_sign : is_stop 61 ≡ false
unfolding class
equal_sign = refl

not_equal_by : (b : ℕ) (c : Bool) → nat_eq b 61 ≡ c → is_stop b ≡ true → c ≡ false
not_equal_by b true e h =
    let same : b ≡ 61 = eqb→eq b 61 (subst T (sym e) tt) in
    let no = equal_sign in
    let at : is_stop 61 ≡ true = subst (λ z. is_stop z ≡ true) same h in
    absurd (cc)
not_equal_by b false e h = refl

-- ---- the longest lexeme at the front

run_stops : (p : ℕ → Bool) (w r : Bytes) → EachPasses p w → Ends p r → run p (w ++ r) ≡ length w
run_stops p [] [] h g = refl
run_stops p [] (b ∷ r) h g = rw g refl
run_stops p (b ∷ w) r h g = rw h.0 (ap suc (run_stops p w r h.1 g))

abbrev leads : (f : Form) (w r : Bytes) → HasForm f w → longest (w ++ r) ≡ Some (f, length w) → Leads (lexeme f w) (w ++ r)
leads f w r formed e =
    record {
      rest = r;
      split = refl;
      formed = formed;
      longest = λ g v s q l. subst (AtLeast (length v)) (ap longest q ∙ e) (bounds g v s l);
    }

word_first : (w r : Bytes) → HasForm form.Word w → IsStop r → longest (w ++ r) ≡ Some (form.Word, length w)
word_first [] r h g = absurd h
word_first (b ∷ w) r h g = rw h.0 (ap (λ (n : ℕ). Some (form.Word, suc n)) (run_stops in_word w r h.1 (ends_word r g)))

number_first : (w r : Bytes) → HasForm form.Number w → IsStop r → longest (w ++ r) ≡ Some (form.Number, length w)
number_first [] r h g = absurd h
number_first (b ∷ w) r h g = rw h.0 (ap (λ (n : ℕ). Some (form.Number, suc n)) (run_stops in_number w r h.1 (ends_number r g)))

may_equal : (r : Bytes) → IsStop r → pair_or 61 r (Some (form.Sign, 1)) ≡ Some (form.Sign, 1)
may_equal [] h = refl
may_equal (b ∷ r) h = rw (not_equal_by b (nat_eq b 61) refl h) refl

-- ---- the lexemes of pieces

-- the form of a mark: keywords are words
abbrev pub is_word_mark : Terminal → Bool
is_word_mark terminal.Entry = true
is_word_mark terminal.Var = true
is_word_mark terminal.If = true
is_word_mark terminal.Else = true
is_word_mark terminal.While = true
is_word_mark terminal.Try = true
is_word_mark terminal.Assert = true
is_word_mark terminal.Assume = true
is_word_mark _ = false

-- a keyword or a sign
abbrev pub is_mark : Terminal → Bool
is_mark terminal.Name = false
is_mark terminal.Number = false
is_mark _ = true

-- a mark that a further byte might lengthen
abbrev pub is_open : Terminal → Bool
is_open terminal.Assign = true
is_open terminal.Less = true
is_open terminal.Greater = true
is_open t = is_word_mark t

abbrev pub form_of : Terminal → Form
form_of t = cond (is_word_mark t) form.Word form.Sign

mark_formed : (t : Terminal) → is_mark t ≡ true → HasForm (form_of t) (spelling t)
unfolding class
mark_formed terminal.Name e = cc
mark_formed terminal.Number e = cc
mark_formed terminal.Entry e = (refl, (refl, (refl, (refl, (refl, tt)))))
mark_formed terminal.Var e = (refl, (refl, (refl, tt)))
mark_formed terminal.If e = (refl, (refl, tt))
mark_formed terminal.Else e = (refl, (refl, (refl, (refl, tt))))
mark_formed terminal.While e = (refl, (refl, (refl, (refl, (refl, tt)))))
mark_formed terminal.Try e = (refl, (refl, (refl, tt)))
mark_formed terminal.Assert e = (refl, (refl, (refl, (refl, (refl, (refl, tt))))))
mark_formed terminal.Assume e = (refl, (refl, (refl, (refl, (refl, (refl, tt))))))
mark_formed terminal.Assign e = inr refl
mark_formed terminal.Equal e = inl (refl, refl)
mark_formed terminal.Unequal e = inr (inl (refl, refl))
mark_formed terminal.Less e = inr refl
mark_formed terminal.AtMost e = inl (refl, refl)
mark_formed terminal.Greater e = inr refl
mark_formed terminal.AtLeast e = inl (refl, refl)
mark_formed terminal.And e = inr (inr (refl, refl))
mark_formed t e = inl refl

mark_first : (t : Terminal) (r : Bytes) → is_mark t ≡ true → (is_open t ≡ true → IsStop r) → longest (spelling t ++ r) ≡ Some (form_of t, length (spelling t))
unfolding class
mark_first terminal.Name r e s = cc
mark_first terminal.Number r e s = cc
mark_first terminal.Entry r e s = word_first (codes "entry") r (mark_formed terminal.Entry refl) (s refl)
mark_first terminal.Var r e s = word_first (codes "var") r (mark_formed terminal.Var refl) (s refl)
mark_first terminal.If r e s = word_first (codes "if") r (mark_formed terminal.If refl) (s refl)
mark_first terminal.Else r e s = word_first (codes "else") r (mark_formed terminal.Else refl) (s refl)
mark_first terminal.While r e s = word_first (codes "while") r (mark_formed terminal.While refl) (s refl)
mark_first terminal.Try r e s = word_first (codes "try") r (mark_formed terminal.Try refl) (s refl)
mark_first terminal.Assert r e s = word_first (codes "assert") r (mark_formed terminal.Assert refl) (s refl)
mark_first terminal.Assume r e s = word_first (codes "assume") r (mark_formed terminal.Assume refl) (s refl)
mark_first terminal.Assign r e s = may_equal r (s refl)
mark_first terminal.Less r e s = may_equal r (s refl)
mark_first terminal.Greater r e s = may_equal r (s refl)
mark_first t r e s = refl

mark_fits : (t : Terminal) → is_mark t ≡ true → Fits (form_of t) (spelling t)
mark_fits terminal.Name e = cc
mark_fits terminal.Number e = cc
mark_fits terminal.Entry e = omega arith
mark_fits terminal.Var e = omega arith
mark_fits terminal.If e = omega arith
mark_fits terminal.Else e = omega arith
mark_fits terminal.While e = omega arith
mark_fits terminal.Try e = omega arith
mark_fits terminal.Assert e = omega arith
mark_fits terminal.Assume e = omega arith
mark_fits t e = tt

abbrev pub lexemes_of_piece : Piece → List Lexeme
lexemes_of_piece (Blank n) = replicate n (lexeme form.Blank (32 ∷ []))
lexemes_of_piece LineEnd = lexeme form.Blank (10 ∷ []) ∷ []
lexemes_of_piece (Mark t) = lexeme (form_of t) (spelling t) ∷ []
lexemes_of_piece (Name w) = lexeme form.Word w ∷ []
lexemes_of_piece (Number z) = lexeme form.Number (numeral z) ∷ []

abbrev pub lexemes_of : List Piece → List Lexeme
lexemes_of [] = []
lexemes_of (p ∷ ps) = lexemes_of_piece p ++ lexemes_of ps

-- ---- words and numbers

letter_is : (c : Class) → is_letter c ≡ true → c ≡ Letter
letter_is Letter e = refl
letter_is c e = cc

word_form : (w : Bytes) → is_word w ≡ true → HasForm form.Word w
word_form [] h = cc
word_form (b ∷ w) h = let x = and_is (is_letter (class b)) (list_all in_word w) h in (letter_is (class b) x.0, each_passes in_word w x.1)

-- what a name keeps
pub record Named (w : Bytes) : Type 0 where
  pub word : HasForm form.Word w
  pub short : length w ≤ NAME_BYTES
  pub free : is_keyword w ≡ false

pub named : (w : Bytes) → is_name w ≡ true → Named w
named w h =
    let x = and_is (is_word w) (nat_le (length w) NAME_BYTES && not (is_keyword w)) h in
    let y = and_is (nat_le (length w) NAME_BYTES) (not (is_keyword w)) x.1 in
    let l : nat_le (length w) NAME_BYTES ≡ true = y.0 in
    record { word = word_form w x.0; short = grind (arith, nat_tests); free = not_true (is_keyword w) y.1 }

-- what the numeral of a literal keeps
pub record Written (z : ℤ) : Type 0 where
  pub number : HasForm form.Number (numeral z)
  pub value : pos (natural_of (numeral z)) ≡ z
  pub small : natural_of (numeral z) ≤ LARGEST

-- a numeral that is no sign and a number behind it
number_is : (w v : Bytes) → IsNumeral w → w ≡ v → ((u : Bytes) → v ≡ 45 ∷ u → ⊥) → HasForm form.Number v × (pos (natural_of v) ≡ integer_of v)
unfolding class
number_is w v (inl e) f free = subst (λ (x : Bytes). HasForm form.Number x × (pos (natural_of x) ≡ integer_of x)) (sym e ∙ f) ((refl, tt), refl)
number_is [] v (inr (inl h)) f free = absurd h
number_is (b ∷ w) v (inr (inl h)) f free =
    let low = h.0 in
    let high = h.1 in
    let other : nat_eq b 45 ≡ false = grind (arith, nat_tests) in
    subst (λ (x : Bytes). HasForm form.Number x × (pos (natural_of x) ≡ integer_of x)) f ((digit_class b (omega arith) high, h.2), rw other refl)
number_is w v (inr (inr (u, e, h))) f free = absurd (free u (sym f ∙ e))

signless_by : (t : Bool) (ds : List ℕ) (u : Bytes) → cond t (48 ∷ []) (map (λ d. 48 + d) ds) ≡ 45 ∷ u → ⊥
signless_by true ds u e = let f = ap head e in absurd (omega arith)
  where
    head : Bytes → ℕ
    head [] = 0
    head (b ∷ w) = b
signless_by false [] u e = cc
signless_by false (d ∷ ds) u e = let f = ap head e in absurd (omega arith)
  where
    head : Bytes → ℕ
    head [] = 0
    head (b ∷ w) = b

signless : (n : ℕ) (u : Bytes) → numeral (pos n) ≡ 45 ∷ u → ⊥
unfolding numeral
signless n u e = signless_by (n == 0) (digits_of 10 n) u e

in_range_is : (n : ℕ) → in_range (pos n) ≡ true → n ≤ LARGEST
in_range_is n h = grind (arith, nat_tests)

pub written : (z : ℤ) → is_literal z ≡ true → Written z
written (negsuc n) h = let x = and_is (in_range (negsuc n)) false h in cc
written (pos n) h =
    let x = and_is (in_range (pos n)) true h in
    let m = number_is (numeral (pos n)) (numeral (pos n)) (numeral_is (pos n)) refl (signless n) in
    let value : pos (natural_of (numeral (pos n))) ≡ pos n = m.1 ∙ integer_numeral (pos n) in
    let same : natural_of (numeral (pos n)) ≡ n = cc in
    let most = in_range_is n x.0 in
    record { number = m.0; value = value; small = omega arith }

-- ---- pieces that stand apart

-- the piece is spelled as its token is, and nothing behind it lengthens it
abbrev pub IsApart : Piece → Bytes → Type 0
IsApart (Blank n) r = Unit {0}
IsApart LineEnd r = Unit {0}
IsApart (Mark t) r = (is_mark t ≡ true) × (is_open t ≡ true → IsStop r)
IsApart (Name w) r = (is_name w ≡ true) × IsStop r
IsApart (Number z) r = (is_literal z ≡ true) × IsStop r

-- so does each of the pieces, before a text
abbrev pub AreApart : List Piece → Bytes → Type 0
AreApart [] r = Unit {0}
AreApart (p ∷ ps) r = IsApart p (bytes_of ps ++ r) × AreApart ps r

abbrev blank_leads : (b : ℕ) (r : Bytes) → class b ≡ BlankByte → Leads (lexeme form.Blank (b ∷ [])) (b ∷ r)
blank_leads b r e = leads form.Blank (b ∷ []) r (e, refl) (rw e refl)

space_is : class 32 ≡ BlankByte
unfolding class
space_is = refl

line_feed_is : class 10 ≡ BlankByte
unfolding class
line_feed_is = refl

blanks_split : (n : ℕ) (b r : Bytes) (ls : List Lexeme) → IsSplit b ls r → IsSplit (blanks n ++ b) (replicate n (lexeme form.Blank (32 ∷ [])) ++ ls) r
blanks_split zero b r ls h = h
blanks_split (suc n) b r ls h = (blank_leads 32 (blanks n ++ b) space_is, blanks_split n b r ls h)

piece_split : (p : Piece) (b r : Bytes) (ls : List Lexeme) → IsApart p b → IsSplit b ls r → IsSplit (spelled p ++ b) (lexemes_of_piece p ++ ls) r
piece_split (Blank n) b r ls h s = blanks_split n b r ls s
piece_split LineEnd b r ls h s = (blank_leads 10 b line_feed_is, s)
piece_split (Mark t) b r ls h s = (leads (form_of t) (spelling t) b (mark_formed t h.0) (mark_first t b h.0 h.1), s)
piece_split (Name w) b r ls h s = let n = named w h.0 in (leads form.Word w b n.word (word_first w b n.word h.1), s)
piece_split (Number z) b r ls h s = let n = written z h.0 in (leads form.Number (numeral z) b n.number (number_first (numeral z) b n.number h.1), s)

pub pieces_split : (ps : List Piece) (r : Bytes) → AreApart ps r → IsSplit (bytes_of ps ++ r) (lexemes_of ps) r
pieces_split [] r h = refl
pieces_split (p ∷ ps) r h =
    subst (λ (b : Bytes). IsSplit b (lexemes_of (p ∷ ps)) r) (sym (append_assoc (spelled p) (bytes_of ps) r))
    (piece_split p (bytes_of ps ++ r) r (lexemes_of ps) h.0 (pieces_split ps r h.1))

fit_join : (as' bs : List Lexeme) → AllFit as' → AllFit bs → AllFit (as' ++ bs)
fit_join [] bs h g = g
fit_join (a ∷ as') bs h g = (h.0, fit_join as' bs h.1 g)

blanks_fit : (n : ℕ) → AllFit (replicate n (lexeme form.Blank (32 ∷ [])))
blanks_fit zero = tt
blanks_fit (suc n) = (tt, blanks_fit n)

piece_fits : (p : Piece) (b : Bytes) → IsApart p b → AllFit (lexemes_of_piece p)
piece_fits (Blank n) b h = blanks_fit n
piece_fits LineEnd b h = (tt, tt)
piece_fits (Mark t) b h = (mark_fits t h.0, tt)
piece_fits (Name w) b h = ((named w h.0).short, tt)
piece_fits (Number z) b h = ((written z h.0).small, tt)

pub pieces_fit : (ps : List Piece) (r : Bytes) → AreApart ps r → AllFit (lexemes_of ps)
pieces_fit [] r h = tt
pieces_fit (p ∷ ps) r h = fit_join (lexemes_of_piece p) (lexemes_of ps) (piece_fits p (bytes_of ps ++ r) h.0) (pieces_fit ps r h.1)
