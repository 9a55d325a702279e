-- What the answer of the lexer means.
use Rattle.std.specs.Prelude.{◌≡◌, ◌≢◌, ◌<◌, ℕ, ◌+◌, List, [], ◌∷◌, length, Result, Ok, Err}
use Rattle.pc_text.specs.declared.lexeme.Form.TheVariants as form
use Rattle.pc_text.specs.declared.token.Token.{Token}
use Rattle.pc_text.specs.declared.token.LexFault.{LexFault}
use Rattle.pc_text.specs.declared.token.LexFault.TheVariants.{NoMemory, BadByte, LiteralTooBig, NameTooLong}
use Rattle.pc_text.specs.declared.token.TheConstants.{LARGEST, NAME_BYTES}
use Rattle.pc_text.specs.Bytes.{Bytes}
use Rattle.pc_text.specs.Digits.{natural_of}
use Rattle.pc_text.specs.Places.{place_of}
use Rattle.pc_text.specs.Lexemes.{Lexeme, Leads, LedByNone, IsSplit, AllFit, total, tokens_from}

-- the fault stands at an offset of the text `s`, where its rest begins
abbrev pub FaultAt : Bytes → ℕ → LexFault → Bytes → Type 0
FaultAt s at NoMemory r = ⊥
FaultAt s at (BadByte p b) r = (p ≡ place_of s at) × (w : Bytes) × (r ≡ b ∷ w) × LedByNone r
FaultAt s at (LiteralTooBig p) r = (p ≡ place_of s at) × (l : Lexeme) × Leads l r × (l.form ≡ form.Number) × (LARGEST < natural_of l.text)
FaultAt s at (NameTooLong p) r = (p ≡ place_of s at) × (l : Lexeme) × Leads l r × (l.form ≡ form.Word) × (NAME_BYTES < length l.text)

-- the answer for the rest `b` of the text `s` at an offset: the tokens of its lexemes, or the fault behind lexemes within the limits
abbrev pub MeansAt : Bytes → ℕ → Bytes → Result (List Token) LexFault → Type 0
MeansAt s at b (Ok ts) = (ls : List Lexeme) × IsSplit b ls [] × AllFit ls × (ts ≡ tokens_from at ls)
MeansAt s at b (Err e) = (ls : List Lexeme) × (r : Bytes) × IsSplit b ls r × AllFit ls × FaultAt s (at + total ls) e r

-- the answer for a text
abbrev pub Means : Bytes → Result (List Token) LexFault → Type 0
Means s o = MeansAt s 0 s o

-- ---- unless memory fails

-- the call gives this answer
abbrev pub Gives : Result (List Token) LexFault → Result (List Token) LexFault → Type 0
Gives (Ok ts) o = o ≡ Ok ts
Gives (Err e) o = e ≢ NoMemory → o ≡ Err e

-- the call's answer is what the text means
abbrev pub MeansUnless : Result (List Token) LexFault → Bytes → Type 0
MeansUnless (Ok ts) s = Means s (Ok ts)
MeansUnless (Err e) s = e ≢ NoMemory → Means s (Err e)
