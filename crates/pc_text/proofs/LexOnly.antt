-- What a text means, `lex` gives.
use Rattle.std.proofs.Common.{◌≡◌, ◌≤◌, ◌<◌, ℕ, zero, suc, ◌+◌, ◌-◌, List, [], ◌∷◌, ◌++◌, length, take, drop, Option, Some, None, Result, Ok, Err, refl, sym, ap, ◌∙◌, subst, inl, inr, arith, take-append-drop, length-take-le, length-append}
use Rattle.std.proofs.Math.Seq.{take-append_seam, drop-append_seam}
use Rattle.std.proofs.lemmas.Bool.{le-ltb, lt-ltb}
use Rattle.pc_text.specs.declared.lexeme.Form.{Form}
use Rattle.pc_text.specs.declared.lexeme.Form.TheVariants as form
use Rattle.pc_text.specs.declared.lexeme.Class.{Class}
use Rattle.pc_text.specs.declared.lexeme.Class.TheVariants.{Blank, Slash, Letter, Digit}
use Rattle.pc_text.specs.declared.token.Kind.{Kind}
use Rattle.pc_text.specs.declared.token.LexFault.{LexFault}
use Rattle.pc_text.specs.declared.token.LexFault.TheVariants.{NoMemory, BadByte, LiteralTooBig, NameTooLong}
use Rattle.pc_text.specs.declared.token.TheConstants.{LARGEST, NAME_BYTES}
use Rattle.pc_text.specs.declared.place.Place.{Place}
use Rattle.pc_text.specs.Bytes.{Bytes}
use Rattle.pc_text.specs.Digits.{natural_of}
use Rattle.pc_text.specs.Places.{place_of}
use Rattle.pc_text.specs.Lexemes.{class, HasForm, Lexeme, Leads, LedByNone, IsSplit, Fits, AllFit, total, kind_of, tokens_from}
use Rattle.pc_text.specs.Longest.{longest}
use Rattle.pc_text.specs.Lex.{kind_at, with_length, piece_of, with_front, with_piece, lex_from}
use Rattle.pc_text.specs.Answers.{FaultAt, MeansAt}
use Rattle.pc_text.proofs.LongestLemmas.{lexeme, longest_is, longest_none}
use Rattle.pc_text.proofs.LexMeans.{Answer}

-- ---- the longest lexeme is what `longest` gives

form_of : Class → Form
form_of Blank = form.Blank
form_of Slash = form.Comment
form_of Letter = form.Word
form_of Digit = form.Number
form_of _ = form.Sign

-- the first byte tells the form
form_is : (f : Form) (b : ℕ) (w : Bytes) → HasForm f (b ∷ w) → f ≡ form_of (class b)
unfolding form_of
form_is form.Blank b w h = rw h.0 refl
form_is form.Comment b [] h = absurd h
form_is form.Comment b (c ∷ w) h = rw h.0 refl
form_is form.Word b w h = rw h.0 refl
form_is form.Number b w h = rw h.0 refl
form_is form.Sign b [] (inl h) = rw h refl
form_is form.Sign b [] (inr h) = rw h refl
form_is form.Sign b (c ∷ []) (inl h) = rw (h.0) refl
form_is form.Sign b (c ∷ []) (inr (inl h)) = rw (h.0) refl
form_is form.Sign b (c ∷ []) (inr (inr h)) = rw (h.0) refl
form_is form.Sign b (c ∷ d ∷ w) h = absurd h

same_form : (f g : Form) (w : Bytes) → HasForm f w → HasForm g w → f ≡ g
same_form f g [] h k = absurd h
same_form f g (b ∷ w) h k = form_is f b w h ∙ sym (form_is g b w k)

longest_by_leads : (l : Lexeme) (b : Bytes) → Leads l b → (o : Option (Form × ℕ)) → longest b ≡ o → o ≡ Some (l.form, length l.text)
longest_by_leads l b x None e = absurd (longest_none b e l.form l.text x.rest (sym x.split) x.formed)
longest_by_leads l b x (Some (g, n)) e =
    let y = longest_is b g n e in
    let k = length-take-le n b y.0.2 in
    let up : n ≤ length l.text = let m = x.longest g (take n b) (drop n b) (take-append-drop n b ∙ x.split) y.0.0 in omega arith in
    let down : length l.text ≤ length (take n b) = y.1 l.form l.text x.rest (sym x.split ∙ sym (take-append-drop n b)) x.formed in
    let same : n ≡ length l.text = omega arith in
    let text : take n b ≡ l.text = ap (λ m. take m b) same ∙ ap (take (length l.text)) x.split ∙ take-append_seam l.text x.rest in
    let forms : g ≡ l.form = same_form g l.form l.text (subst (HasForm g) text y.0.0) x.formed in cc

longest_leads : (l : Lexeme) (b : Bytes) → Leads l b → longest b ≡ Some (l.form, length l.text)
longest_leads l b x = longest_by_leads l b x (longest b) refl

longest_led_by : (b : Bytes) → LedByNone b → (o : Option (Form × ℕ)) → longest b ≡ o → o ≡ None
longest_led_by b x None e = refl
longest_led_by b x (Some (g, n)) e = absurd (x g (take n b) (drop n b) (take-append-drop n b) (longest_is b g n e).0.0)

-- ---- a piece, and the rest

pub skip : (s : Bytes) (k at : ℕ) (i : Bytes) → k ≤ length i → lex_from s k at i ≡ lex_from s 0 (at + k) (drop k i)
skip s zero at i h = let z : at ≡ at + zero = omega arith in ap (λ o. lex_from s 0 o i) z
skip s (suc k) at [] h = absurd (omega arith)
skip s (suc k) at (b ∷ r) h = let z : at + 1 + k ≡ at + suc k = omega arith in skip s k (at + 1) r (omega arith) ∙ ap (λ o. lex_from s 0 o (drop k r)) z

same_piece : (at n : ℕ) (o : Result (Option Kind) LexFault) (f g : ℕ → Answer) → f (n - 1) ≡ g (n - 1) → with_piece at (with_length n o) f ≡ with_piece at (with_length n o) g
same_piece at n (Ok k) f g h = ap (with_front k at (at + n)) h
same_piece at n (Err e) f g h = refl

front_text : (s : Bytes) (f : Form) (w rest : Bytes) (at : ℕ) → Leads (lexeme f w) (w ++ rest) → HasForm f w
    → lex_from s 0 at (w ++ rest) ≡ with_piece at (with_length (length w) (kind_at (place_of s at) f w)) (λ k. lex_from s 0 (at + length w) rest)
front_text s f [] rest at x h = absurd h
front_text s f (c ∷ w) rest at x h =
    let again : ℕ → Answer = λ k. lex_from s k (at + 1) (w ++ rest) in
    let text : take (length (c ∷ w)) (c ∷ (w ++ rest)) ≡ c ∷ w = take-append_seam (c ∷ w) rest in
    let less : length (c ∷ w) - 1 ≡ length w = omega arith in
    let place : at + 1 + length w ≡ at + length (c ∷ w) = omega arith in
    let within : length w ≤ length (w ++ rest) = omega (arith, length-append w rest) in
    let goes : lex_from s (length (c ∷ w) - 1) (at + 1) (w ++ rest) ≡ lex_from s 0 (at + length (c ∷ w)) rest =
    ap (λ k. lex_from s k (at + 1) (w ++ rest)) less ∙ skip s (length w) (at + 1) (w ++ rest) within ∙ ap (λ r. lex_from s 0 (at + 1 + length w) r) (drop-append_seam w rest)
    ∙ ap (λ k. lex_from s 0 k rest) place in
    ap (λ o. with_piece at (piece_of (place_of s at) (c ∷ (w ++ rest)) o) again) (longest_leads (lexeme f (c ∷ w)) (c ∷ (w ++ rest)) x)
    ∙ ap (λ t. with_piece at (with_length (length (c ∷ w)) (kind_at (place_of s at) f t)) again) text
    ∙ same_piece at (length (c ∷ w)) (kind_at (place_of s at) f (c ∷ w)) again (λ k. lex_from s 0 (at + length (c ∷ w)) rest) goes

-- the lexeme at the front, and then the rest
front : (s b : Bytes) (l : Lexeme) (at : ℕ) (x : Leads l b)
    → lex_from s 0 at b ≡ with_piece at (with_length (length l.text) (kind_at (place_of s at) l.form l.text)) (λ k. lex_from s 0 (at + length l.text) x.rest)
front s b l at x =
    let led : Leads l (l.text ++ x.rest) = record { rest = x.rest; split = refl; formed = x.formed; longest = x.longest } in
    ap (lex_from s 0 at) x.split ∙ front_text s l.form l.text x.rest at led x.formed

-- ---- lexemes within the limits, and then the rest

fits_kind : (p : Place) (f : Form) (w : Bytes) → Fits f w → kind_at p f w ≡ Ok (kind_of f w)
fits_kind p form.Blank w h = refl
fits_kind p form.Comment w h = refl
fits_kind p form.Word w h = rw (le-ltb NAME_BYTES (length w) h) refl
fits_kind p form.Number w h = rw (le-ltb LARGEST (natural_of w) h) refl
fits_kind p form.Sign w h = refl

abbrev after : ℕ → List Lexeme → Answer → Answer
after at [] o = o
after at (l ∷ ls) o = with_front (kind_of l.form l.text) at (at + length l.text) (after (at + length l.text) ls o)

after_err : (at : ℕ) (ls : List Lexeme) (e : LexFault) → after at ls (Err e) ≡ Err e
after_err at [] e = refl
after_err at (l ∷ ls) e = ap (with_front (kind_of l.form l.text) at (at + length l.text)) (after_err (at + length l.text) ls e)

after_ok : (at : ℕ) (ls : List Lexeme) → after at ls (Ok []) ≡ Ok (tokens_from at ls)
after_ok at [] = refl
after_ok at (l ∷ ls) = ap (with_front (kind_of l.form l.text) at (at + length l.text)) (after_ok (at + length l.text) ls)

reach : (s : Bytes) (ls : List Lexeme) (b r : Bytes) (at : ℕ) → IsSplit b ls r → AllFit ls → lex_from s 0 at b ≡ after at ls (lex_from s 0 (at + total ls) r)
reach s [] b r at c f = let place : at ≡ at + 0 = omega arith in ap (lex_from s 0 at) c ∙ ap (λ o. lex_from s 0 o r) place
reach s (l ∷ ls) b r at (x, c) (h, f) =
    let sum : at + length l.text + total ls ≡ at + (length l.text + total ls) = omega arith in
    front s b l at x
    ∙ ap (λ o. with_piece at (with_length (length l.text) o) (λ k. lex_from s 0 (at + length l.text) x.rest)) (fits_kind (place_of s at) l.form l.text h)
    ∙ ap (with_front (kind_of l.form l.text) at (at + length l.text)) (reach s ls x.rest r (at + length l.text) c f ∙ ap (λ o. after (at + length l.text) ls (lex_from s 0 o r)) sum)

-- ---- the fault

bad_byte : (s : Bytes) (at b : ℕ) (w : Bytes) → LedByNone (b ∷ w) → lex_from s 0 at (b ∷ w) ≡ Err (BadByte (place_of s at) b)
bad_byte s at b w x = ap (λ o. with_piece at (piece_of (place_of s at) (b ∷ w) o) (λ k. lex_from s k (at + 1) w)) (longest_led_by (b ∷ w) x (longest (b ∷ w)) refl)

past_limit : (s r : Bytes) (at : ℕ) (l : Lexeme) (x : Leads l r) (e : LexFault) → kind_at (place_of s at) l.form l.text ≡ Err e → lex_from s 0 at r ≡ Err e
past_limit s r at l x e h = front s r l at x ∙ ap (λ o. with_piece at (with_length (length l.text) o) (λ k. lex_from s 0 (at + length l.text) x.rest)) h

too_big : (p : Place) (f : Form) (w : Bytes) → f ≡ form.Number → LARGEST < natural_of w → kind_at p f w ≡ Err (LiteralTooBig p)
too_big p f w e h = rw (e, lt-ltb LARGEST (natural_of w) h) refl

too_long : (p : Place) (f : Form) (w : Bytes) → f ≡ form.Word → NAME_BYTES < length w → kind_at p f w ≡ Err (NameTooLong p)
too_long p f w e h = rw (e, lt-ltb NAME_BYTES (length w) h) refl

fault : (s : Bytes) (at : ℕ) (e : LexFault) (r : Bytes) → FaultAt s at e r → lex_from s 0 at r ≡ Err e
fault s at NoMemory r h = absurd h
fault s at (BadByte p b) r (q, w, e, x) = ap (lex_from s 0 at) e ∙ bad_byte s at b w (subst LedByNone e x) ∙ ap (λ z. Err (BadByte z b)) (sym q)
fault s at (LiteralTooBig p) r (q, l, x, f, n) = past_limit s r at l x (LiteralTooBig (place_of s at)) (too_big (place_of s at) l.form l.text f n) ∙ ap (λ z. Err (LiteralTooBig z)) (sym q)
fault s at (NameTooLong p) r (q, l, x, f, n) = past_limit s r at l x (NameTooLong (place_of s at)) (too_long (place_of s at) l.form l.text f n) ∙ ap (λ z. Err (NameTooLong z)) (sym q)

-- what the rest of a text means is what `lex` gives there
pub only : (s b : Bytes) (at : ℕ) (o : Answer) → MeansAt s at b o → lex_from s 0 at b ≡ o
only s b at (Ok ts) (ls, c, f, e) = reach s ls b [] at c f ∙ after_ok at ls ∙ ap Ok (sym e)
only s b at (Err e) (ls, r, c, f, g) = reach s ls b r at c f ∙ ap (after at ls) (fault s (at + total ls) e r g) ∙ after_err at ls e
