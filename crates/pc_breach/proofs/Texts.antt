-- The text of a script is read as its entry and its choices.
use Rattle.std.proofs.Common.{◌≡◌, ◌∙◌, ℕ, ◌+◌, ◌≤◌, ℤ, pos, List, [], ◌∷◌, ◌++◌, map, length, refl, sym, ap, ap₂, subst, arith, Bool, true, cond, Ok, Err, append_assoc, length-append, eq-eqb}
use Rattle.std.specs.Prelude.{codes, ◌&&◌}
use Rattle.std.specs.List.{list_all, flat_map}
use Rattle.std.proofs.lemmas.Bool.{and_from, and_parts}
use Rattle.std.proofs.lemmas.List.{append-nil}
use Rattle.pc_text.specs.Bytes.{Bytes}
use Rattle.pc_text.specs.Lexemes.{in_line, EachPasses}
use Rattle.pc_text.specs.Lines.{lines}
use Rattle.pc_text.specs.Numerals.{numeral, integer_of, is_in_range}
use Rattle.pc_text.specs.Words.{Words, words, behind, is_numeral}
use Rattle.pc_text.proofs.NumeralTexts.{integer_numeral}
use Rattle.pc_text.proofs.NumeralWords.{integer_is_numeral}
use Rattle.pc_text.proofs.PlainWords.{IsPlain, words_of_line, plain_line, numeral_plain, numerals_plain}
use Rattle.pc_text.proofs.WordLists.{joined}
use Rattle.pc_runner.specs.declared.fault.ScriptFault.TheVariants as fault
use Rattle.pc_runner.specs.declared.script.TheConstants.{CHOICES}
use Rattle.pc_runner.specs.Scripts.{choice_of, choice_by, choice_behind, choices_of, entry_of, entry_by, as_many, values_in, on_ok, repeated, is_count}
use Rattle.pc_runner.proofs.ScriptLines.{choices_more, script_is}
use Rattle.pc_breach.specs.Scripts.{values_text, entry_line, choice_line, choices_text, script_text, ScriptIsRead}

-- ---- the lines

behind_spaces : (zs : List ℤ) → values_text zs ≡ flat_map (λ w. codes " " ++ w) (map numeral zs)
behind_spaces [] = refl
behind_spaces (z ∷ zs) = ap (λ (w : Bytes). 32 ∷ (numeral z ++ w)) (behind_spaces zs)

entry_is : (zs : List ℤ) → entry_line zs ≡ joined (codes "entry" ∷ map numeral zs)
entry_is zs = ap (λ (w : Bytes). codes "entry" ++ w) (behind_spaces zs)

choice_is : (c : ℤ) → choice_line c ≡ joined (codes "choose" ∷ numeral c ∷ [])
choice_is c = ap (λ (w : Bytes). codes "choose" ++ w) (behind_spaces (c ∷ []))

plain_entry : IsPlain (codes "entry")
plain_entry = (omega arith, (omega arith, (omega arith, (omega arith, (omega arith, tt)))))

plain_choose : IsPlain (codes "choose")
plain_choose = (omega arith, (omega arith, (omega arith, (omega arith, (omega arith, (omega arith, tt))))))

words_of_entry : (zs : List ℤ) → words (entry_line zs) ≡ codes "entry" ∷ map numeral zs
words_of_entry zs = ap words (entry_is zs) ∙ words_of_line (codes "entry" ∷ map numeral zs) ((plain_entry, numerals_plain zs), refl)

words_of_choice : (c : ℤ) → words (choice_line c) ≡ codes "choose" ∷ numeral c ∷ []
words_of_choice c = ap words (choice_is c) ∙ words_of_line (codes "choose" ∷ numeral c ∷ []) ((plain_choose, (numeral_plain c, tt)), refl)

entry_line_is : (zs : List ℤ) → EachPasses in_line (entry_line zs)
entry_line_is zs = subst (EachPasses in_line) (sym (entry_is zs)) (plain_line (codes "entry" ∷ map numeral zs) (plain_entry, numerals_plain zs))

choice_line_is : (c : ℤ) → EachPasses in_line (choice_line c)
choice_line_is c = subst (EachPasses in_line) (sym (choice_is c)) (plain_line (codes "choose" ∷ numeral c ∷ []) (plain_choose, (numeral_plain c, tt)))

-- ---- what they say

all_numerals : (zs : List ℤ) → list_all is_numeral (map numeral zs) ≡ true
all_numerals [] = refl
all_numerals (z ∷ zs) = and_from (is_numeral (numeral z)) (list_all is_numeral (map numeral zs)) (integer_is_numeral z) (all_numerals zs)

same_integers : (zs : List ℤ) → map integer_of (map numeral zs) ≡ zs
same_integers [] = refl
same_integers (z ∷ zs) = ap₂ (λ (y : ℤ) (ys : List ℤ). y ∷ ys) (integer_numeral z) (same_integers zs)

entry_values : (zs : List ℤ) → list_all is_in_range zs ≡ true → entry_of (length zs) (entry_line zs) ≡ Ok zs
entry_values zs within =
    ap (λ (ws : Words). entry_by (length zs) (behind (codes "entry") ws)) (words_of_entry zs)
    ∙ ap (λ (t : Bool). cond t (on_ok (values_in 1 (map numeral zs)) (as_many (length zs))) (Err (fault.Form 1))) (all_numerals zs)
    ∙ ap (λ (ys : List ℤ). on_ok (cond (list_all is_in_range ys) (Ok ys) (Err (fault.Number 1))) (as_many (length zs))) (same_integers zs)
    ∙ ap (λ (t : Bool). on_ok (cond t (Ok zs) (Err (fault.Number 1))) (as_many (length zs))) within
    ∙ ap (λ (t : Bool). cond t (Ok zs) (Err (fault.Values (length zs) (length zs)))) (eq-eqb (length zs) (length zs) refl)

one : numeral (pos 1) ≡ codes "1"
unfolding numeral
one = refl

choice_value : (n : ℕ) (c : ℤ) → is_in_range c ≡ true → choice_of n (choice_line c) ≡ Ok (c, 1)
choice_value n c within =
    ap (λ (ws : Words). choice_by n (choice_behind (behind (codes "choose") ws))) (words_of_choice c)
    ∙ ap (λ (t : Bool). cond (t && is_numeral (codes "1")) (repeated n (integer_of (numeral c)) (integer_of (codes "1"))) (Err (fault.Form n))) (integer_is_numeral c)
    ∙ ap (λ (z : ℤ). repeated n z (pos 1)) (integer_numeral c)
    ∙ ap (λ (t : Bool). cond (t && is_count (pos 1)) (Ok (c, 1)) (Err (fault.Number n))) within

choices_read : (n : ℕ) (found cs : List ℤ) → list_all is_in_range cs ≡ true → length found + length cs ≤ CHOICES → choices_of n found (lines (choices_text cs)) ≡ Ok (found ++ cs)
choices_read n found [] within few = ap Ok (sym (append-nil found))
choices_read n found (c ∷ cs) within few =
    let both = and_parts (is_in_range c) (list_all is_in_range cs) within in
    let long : length (found ++ c ∷ []) ≡ length found + 1 = length-append found (c ∷ []) in
    let room : length found + 1 ≤ CHOICES = omega arith in
    let rest : length (found ++ c ∷ []) + length cs ≤ CHOICES = omega arith in
    sym (choices_more n found (found ++ c ∷ []) (choices_text (c ∷ cs)) (choice_line c) (choices_text cs) (c, 1) (refl, choice_line_is c) (choice_value n c both.0) room refl)
    ∙ choices_read (n + 1) (found ++ c ∷ []) cs both.1 rest
    ∙ ap Ok (append_assoc found (c ∷ []) cs)

pub script_is_read : ScriptIsRead
script_is_read entry choices within each few =
    script_is (length entry) (script_text entry choices) (entry_line entry) (choices_text choices) entry choices (refl, entry_line_is entry) (entry_values entry within)
    (choices_read 2 [] choices each (omega arith))
