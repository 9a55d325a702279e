-- What a text is made of: at each place the longest front that is a blank, a comment or a token.
use Rattle.std.specs.Prelude.{◌≡◌, ◌≤◌, ◌<◌, ℕ, ◌+◌, Bool, true, false, not, ◌&&◌, ◌||◌, if◌then◌else◌, nat_eq, nat_le, List, [], ◌∷◌, ◌++◌, length, Option, Some, None, ◌⊎◌, codes, bytes_eq, pos}
use Rattle.pc_text.specs.declared.lexeme.Form.{Form}
use Rattle.pc_text.specs.declared.lexeme.Form.TheVariants as form
use Rattle.pc_text.specs.declared.lexeme.Class.{Class}
use Rattle.pc_text.specs.declared.lexeme.Class.TheVariants.{Blank, Slash, Letter, Digit, Alone, MayEqual, Bang, Ampersand, Other}
use Rattle.pc_text.specs.declared.token.Kind.{Kind}
use Rattle.pc_text.specs.declared.token.Kind.TheVariants as kind
use Rattle.pc_text.specs.declared.token.Token.{Token}
use Rattle.pc_text.specs.declared.token.TheConstants.{LARGEST, NAME_BYTES}
use Rattle.pc_text.specs.Bytes.{Bytes}
use Rattle.pc_text.specs.Digits.{natural_of}
use Rattle.pc_text.specs.Places.{is_line_feed}

-- ---- bytes

-- ( ) { } [ ] , ; + - *
abbrev pub is_alone : ℕ → Bool
is_alone b = nat_eq b 40 || nat_eq b 41 || nat_eq b 123 || nat_eq b 125 || nat_eq b 91 || nat_eq b 93 || nat_eq b 44 || nat_eq b 59 || nat_eq b 43 || nat_eq b 45 || nat_eq b 42

-- the class of a byte: blanks are space, tab, carriage return and line feed; letters are those of ASCII and _
unfoldable pub class : ℕ → Class
class b =
    if nat_eq b 32 || nat_eq b 9 || nat_eq b 13 || nat_eq b 10 then Blank
    else (if nat_eq b 47 then Slash
    else (if (nat_le 97 b && nat_le b 122) || (nat_le 65 b && nat_le b 90) || nat_eq b 95 then Letter
    else (if nat_le 48 b && nat_le b 57 then Digit
    else (if is_alone b then Alone
    else (if nat_eq b 61 || nat_eq b 60 || nat_eq b 62 then MayEqual
    else (if nat_eq b 33 then Bang
    else (if nat_eq b 38 then Ampersand else Other)))))))

abbrev pub is_letter_or_digit : Class → Bool
is_letter_or_digit Letter = true
is_letter_or_digit Digit = true
is_letter_or_digit _ = false

abbrev pub is_digit : Class → Bool
is_digit Digit = true
is_digit _ = false

abbrev pub is_slash : Class → Bool
is_slash Slash = true
is_slash _ = false

-- the bytes behind the first of a word
abbrev pub in_word : ℕ → Bool
in_word b = is_letter_or_digit (class b)

-- the bytes of a number
abbrev pub in_number : ℕ → Bool
in_number b = is_digit (class b)

-- the bytes of a line, and so of a comment behind its two slashes
abbrev pub in_line : ℕ → Bool
in_line b = not (is_line_feed b)

-- each byte passes
abbrev pub EachPasses : (ℕ → Bool) → Bytes → Type 0
EachPasses p [] = Unit {0}
EachPasses p (b ∷ w) = (p b ≡ true) × EachPasses p w

-- ---- lexemes

-- a sign of one byte
abbrev pub IsSign : Class → Type 0
IsSign c = (c ≡ Alone) ⊎ (c ≡ MayEqual)

-- a sign of two bytes: == <= >= != &&
abbrev pub IsPair : Class → ℕ → Type 0
IsPair c d = ((c ≡ MayEqual) × (d ≡ 61)) ⊎ ((c ≡ Bang) × (d ≡ 61)) ⊎ ((c ≡ Ampersand) × (d ≡ 38))

-- the texts of each form
abbrev pub HasForm : Form → Bytes → Type 0
HasForm f [] = ⊥
HasForm form.Blank (b ∷ w) = (class b ≡ Blank) × (w ≡ [])
HasForm form.Comment (b ∷ []) = ⊥
HasForm form.Comment (b ∷ c ∷ w) = (class b ≡ Slash) × (class c ≡ Slash) × EachPasses in_line w
HasForm form.Word (b ∷ w) = (class b ≡ Letter) × EachPasses in_word w
HasForm form.Number (b ∷ w) = (class b ≡ Digit) × EachPasses in_number w
HasForm form.Sign (b ∷ []) = IsSign (class b)
HasForm form.Sign (b ∷ c ∷ []) = IsPair (class b) c
HasForm form.Sign (b ∷ c ∷ d ∷ w) = ⊥

-- a part of a text, with its form
pub record Lexeme : Type 0 where
  pub form : Form
  pub text : Bytes

-- no front of the two texts that has a form is longer than the first
abbrev pub IsLongest : Bytes → Bytes → Type 0
IsLongest w r = (f : Form) (v s : Bytes) → v ++ s ≡ w ++ r → HasForm f v → length v ≤ length w

-- the lexeme stands at the front of the text, and is the longest that does
pub record Leads (l : Lexeme) (b : Bytes) : Type 0 where
  pub rest : Bytes
  pub split : b ≡ l.text ++ rest
  pub formed : HasForm l.form l.text
  pub longest : IsLongest l.text rest

-- no front of the text has a form
abbrev pub LedByNone : Bytes → Type 0
LedByNone b = (f : Form) (v s : Bytes) → v ++ s ≡ b → HasForm f v → ⊥

-- the text is these lexemes, each the longest at its place, and then the rest
abbrev pub IsSplit : Bytes → List Lexeme → Bytes → Type 0
IsSplit b [] r = b ≡ r
IsSplit b (l ∷ ls) r = (first : Leads l b) × IsSplit first.rest ls r

-- how many bytes lexemes have
abbrev pub total : List Lexeme → ℕ
total [] = 0
total (l ∷ ls) = length l.text + total ls

-- ---- tokens

-- the table of keywords
unfoldable pub is_keyword : Bytes → Bool
is_keyword w =
    bytes_eq w (codes "entry") || bytes_eq w (codes "var") || bytes_eq w (codes "if") || bytes_eq w (codes "else")
    || bytes_eq w (codes "while") || bytes_eq w (codes "try") || bytes_eq w (codes "assert") || bytes_eq w (codes "assume")

-- a word is a keyword if the table has it, and else a name
abbrev pub word_kind : Bytes → Kind
word_kind w = if is_keyword w then kind.Keyword else kind.Name

-- the kind of a lexeme's token, nothing for a blank or a comment
abbrev pub kind_of : Form → Bytes → Option Kind
kind_of form.Blank w = None
kind_of form.Comment w = None
kind_of form.Word w = Some (word_kind w)
kind_of form.Number w = Some (kind.Number (pos (natural_of w)))
kind_of form.Sign w = Some kind.Sign

-- within the limits (no keyword is longer than a name may be)
abbrev pub Fits : Form → Bytes → Type 0
Fits form.Word w = length w ≤ NAME_BYTES
Fits form.Number w = natural_of w ≤ LARGEST
Fits _ w = Unit {0}

abbrev pub AllFit : List Lexeme → Type 0
AllFit [] = Unit {0}
AllFit (l ∷ ls) = Fits l.form l.text × AllFit ls

-- tokens with one more in front, if it is one
abbrev pub with_token : Option Kind → ℕ → ℕ → List Token → List Token
with_token None at to ts = ts
with_token (Some k) at to ts = record { kind = k; «from» = at; to = to } ∷ ts

-- the tokens among lexemes that begin at an offset
abbrev pub tokens_from : ℕ → List Lexeme → List Token
tokens_from at [] = []
tokens_from at (l ∷ ls) = with_token (kind_of l.form l.text) at (at + length l.text) (tokens_from (at + length l.text) ls)

-- the tokens lie in order between two offsets, apart from each other, and none is empty
abbrev pub AreSpans : ℕ → ℕ → List Token → Type 0
AreSpans low high [] = low ≤ high
AreSpans low high (t ∷ ts) = (low ≤ t.«from») × (t.«from» < t.to) × AreSpans t.to high ts
