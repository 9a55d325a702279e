-- The longest lexeme at the front of a text, as a function.
use Rattle.std.specs.Prelude.{ℕ, suc, Bool, false, cond, nat_eq, [], ◌∷◌, Option, Some, None}
use Rattle.pc_text.specs.declared.lexeme.Form.{Form}
use Rattle.pc_text.specs.declared.lexeme.Form.TheVariants as form
use Rattle.pc_text.specs.declared.lexeme.Class.{Class}
use Rattle.pc_text.specs.declared.lexeme.Class.TheVariants.{Blank, Slash, Letter, Digit, Alone, MayEqual, Bang, Ampersand, Other}
use Rattle.pc_text.specs.Bytes.{Bytes}
use Rattle.pc_text.specs.Lexemes.{class, in_word, in_number, in_line}

-- how many bytes from the front on pass
abbrev pub run : (ℕ → Bool) → Bytes → ℕ
run p [] = 0
run p (b ∷ r) = cond (p b) (suc (run p r)) 0

abbrev pub begins_with : Bytes → ℕ → Bool
begins_with [] d = false
begins_with (b ∷ r) d = nat_eq b d

-- a sign of two bytes where the second follows, and else the answer for one byte
abbrev pub pair_or : ℕ → Bytes → Option (Form × ℕ) → Option (Form × ℕ)
pair_or d [] o = o
pair_or d (b ∷ r) o = cond (nat_eq b d) (Some (form.Sign, 2)) o

abbrev pub comment_if : Class → Bytes → Option (Form × ℕ)
comment_if Slash r = Some (form.Comment, suc (suc (run in_line r)))
comment_if _ r = None

-- behind a first slash
abbrev pub comment : Bytes → Option (Form × ℕ)
comment [] = None
comment (c ∷ r) = comment_if (class c) r

-- by the class of the first byte and what follows it
abbrev pub longest_by : Class → Bytes → Option (Form × ℕ)
longest_by Blank r = Some (form.Blank, 1)
longest_by Slash r = comment r
longest_by Letter r = Some (form.Word, suc (run in_word r))
longest_by Digit r = Some (form.Number, suc (run in_number r))
longest_by Alone r = Some (form.Sign, 1)
longest_by MayEqual r = pair_or 61 r (Some (form.Sign, 1))
longest_by Bang r = pair_or 61 r None
longest_by Ampersand r = pair_or 38 r None
longest_by Other r = None

-- the form and length of the longest lexeme at the front
abbrev pub longest : Bytes → Option (Form × ℕ)
longest [] = None
longest (b ∷ r) = longest_by (class b) r
