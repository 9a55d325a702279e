-- The text of a script that has an entry and choices.
use Rattle.std.specs.Prelude.{◌≡◌, ◌≤◌, ℤ, true, List, [], ◌∷◌, ◌++◌, length, Ok, codes}
use Rattle.std.specs.List.{list_all}
use Rattle.pc_text.specs.Bytes.{Bytes}
use Rattle.pc_text.specs.Numerals.{numeral, is_in_range}
use Rattle.pc_runner.specs.declared.script.TheConstants.{CHOICES}
use Rattle.pc_runner.specs.Scripts.{script_of}

-- numerals, each behind a space
abbrev pub values_text : List ℤ → Bytes
values_text [] = []
values_text (z ∷ zs) = 32 ∷ (numeral z ++ values_text zs)

abbrev pub entry_line : List ℤ → Bytes
entry_line entry = codes "entry" ++ values_text entry

abbrev pub choice_line : ℤ → Bytes
choice_line c = codes "choose" ++ values_text (c ∷ [])

-- a line for each choice, ended by a line feed
abbrev pub choices_text : List ℤ → Bytes
choices_text [] = []
choices_text (c ∷ cs) = choice_line c ++ (10 ∷ choices_text cs)

-- the line of the entry, and one for each choice
abbrev pub script_text : List ℤ → List ℤ → Bytes
script_text entry choices = entry_line entry ++ (10 ∷ choices_text choices)

-- the text is read as that entry and these choices
abbrev pub ScriptIsRead : Type 0
ScriptIsRead =
    (entry choices : List ℤ) → list_all is_in_range entry ≡ true → list_all is_in_range choices ≡ true → length choices ≤ CHOICES →
    script_of (length entry) (script_text entry choices) ≡ Ok (record { entry = entry; choices = choices })
