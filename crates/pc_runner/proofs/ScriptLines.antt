-- The lines of a script, one after another.
use Rattle.std.proofs.Common.{◌≡◌, ◌∙◌, refl, ap, sym, subst, ℕ, zero, suc, ◌+◌, ◌<◌, ◌≤◌, nat_lt, true, false, ℤ, List, [], ◌∷◌, ◌++◌, length, replicate, Result, Ok, Err, arith, length-append}
use Rattle.std.proofs.lemmas.List.{length-replicate}
use Rattle.std.specs.List.{All, list_all, count_by}
use Rattle.std.proofs.lemmas.Bool.{lt-ltb, le-ltb, not-true, and_parts}
use Rattle.std.proofs.lemmas.List.Splits.{slice_split_at, slice_split_none, length-slice_split}
use Rattle.pc_text.specs.Bytes.{Bytes}
use Rattle.pc_text.specs.Places.{is_line_feed}
use Rattle.pc_text.specs.Lines.{lines, IsLine}
use Rattle.pc_text.specs.Words.{is_empty}
use Rattle.pc_text.proofs.LineLists.{line_first, line_last, some_last}
use Rattle.pc_runner.specs.declared.fault.ScriptFault.{ScriptFault}
use Rattle.pc_runner.specs.declared.fault.ScriptFault.TheVariants as fault
use Rattle.pc_runner.specs.declared.script.Script.{Script}
use Rattle.pc_runner.specs.declared.script.TheConstants.{CHOICES}
use Rattle.pc_text.specs.Numerals.{is_in_range}
use Rattle.pc_runner.specs.Answers.{Unless, Gives, Reads}
use Rattle.pc_runner.specs.Scripts.{on_ok, choice_of, with_choice, choices_of, script_by, script_of, entry_of, Choosing}

more_by : (n : ℕ) (found : List ℤ) (line : Bytes) (ls : List Bytes) (k : ℕ) → length ls ≡ k + 1
    → choices_of n found (line ∷ ls) ≡ on_ok (choice_of n line) (λ x. on_ok (with_choice n found x) (λ all. choices_of (n + 1) all ls))
more_by n found line [] k h = absurd (omega arith)
more_by n found line (next ∷ more) k h = refl

-- a line that a line feed ends
pub choices_first : (n : ℕ) (found : List ℤ) (b line rest : Bytes) → IsLine b line true rest
    → choices_of n found (lines b) ≡ on_ok (choice_of n line) (λ x. on_ok (with_choice n found x) (λ all. choices_of (n + 1) all (lines rest)))
choices_first n found b line rest h = ap (choices_of n found) (line_first b line rest h) ∙ more_by n found line (lines rest) (count_by is_line_feed rest) (length-slice_split is_line_feed rest)

-- what follows the last line feed
pub choices_last : (n : ℕ) (found : List ℤ) (b line rest : Bytes) → 0 < length b → IsLine b line false rest → choices_of n found (lines b) ≡ Err (fault.Form n)
choices_last n found b line rest l h =
    let some : is_empty line ≡ false = some_last b line rest l h in
    ap (choices_of n found) (line_last b line rest h) ∙ (rw some refl)

-- a line at fault
pub choices_fault : (n : ℕ) (found : List ℤ) (b line rest : Bytes) (e : ScriptFault) → IsLine b line true rest → choice_of n line ≡ Err e → choices_of n found (lines b) ≡ Err e
choices_fault n found b line rest e h f = choices_first n found b line rest h ∙ ap (λ r. on_ok r (λ x. on_ok (with_choice n found x) (λ all. choices_of (n + 1) all (lines rest)))) f

-- a line with one choice too many
pub choices_many : (n : ℕ) (found : List ℤ) (b line rest : Bytes) (x : ℤ × ℕ) → IsLine b line true rest → choice_of n line ≡ Ok x → CHOICES < length found + x.1
    → choices_of n found (lines b) ≡ Err (fault.Many n)
choices_many n found b line rest x h f l =
    let over : nat_lt CHOICES (length found + x.1) ≡ true = lt-ltb CHOICES (length found + x.1) l in
    choices_first n found b line rest h ∙ ap (λ r. on_ok r (λ x. on_ok (with_choice n found x) (λ all. choices_of (n + 1) all (lines rest)))) f ∙ (rw over refl)

-- a line whose choice is added
pub choices_more : (n : ℕ) (found all : List ℤ) (b line rest : Bytes) (x : ℤ × ℕ) → IsLine b line true rest → choice_of n line ≡ Ok x → length found + x.1 ≤ CHOICES
    → all ≡ found ++ replicate x.1 x.0 → choices_of (n + 1) all (lines rest) ≡ choices_of n found (lines b)
choices_more n found all b line rest x h f l e =
    let within : nat_lt CHOICES (length found + x.1) ≡ false = le-ltb CHOICES (length found + x.1) l in
    sym (choices_first n found b line rest h ∙ ap (λ r. on_ok r (λ x. on_ok (with_choice n found x) (λ all. choices_of (n + 1) all (lines rest)))) f ∙ (rw (within, e) refl))

-- ---- the first line and the others

script_more : (params : ℕ) (first : Bytes) (ls : List Bytes) (k : ℕ) → length ls ≡ k + 1
    → script_by params (first ∷ ls) ≡ on_ok (entry_of params first) (λ entry. on_ok (choices_of 2 [] ls) (λ choices. Ok (record { entry = entry; choices = choices })))
script_more params first [] k h = absurd (omega arith)
script_more params first (next ∷ more) k h = refl

script_first : (params : ℕ) (b first rest : Bytes) → IsLine b first true rest
    → script_of params b ≡ on_ok (entry_of params first) (λ entry. on_ok (choices_of 2 [] (lines rest)) (λ choices. Ok (record { entry = entry; choices = choices })))
unfolding script_of
script_first params b first rest h = ap (script_by params) (line_first b first rest h) ∙ script_more params first (lines rest) (count_by is_line_feed rest) (length-slice_split is_line_feed rest)

-- no line is ended
pub script_open : (params : ℕ) (b first rest : Bytes) → IsLine b first false rest → script_of params b ≡ Err (fault.Form 1)
unfolding script_of
script_open params b first rest h = ap (script_by params) (line_last b first rest h)

-- nothing is there
pub script_none : (params : ℕ) (b : Bytes) → b ≡ [] → script_of params b ≡ Err (fault.Form 1)
unfolding script_of
script_none params b h = ap (λ z. script_by params (lines z)) h

pub script_entry_fault : (params : ℕ) (b first rest : Bytes) (e : ScriptFault) → IsLine b first true rest → entry_of params first ≡ Err e → script_of params b ≡ Err e
script_entry_fault params b first rest e h f =
    script_first params b first rest h ∙ ap (λ r. on_ok r (λ entry. on_ok (choices_of 2 [] (lines rest)) (λ choices. Ok (record { entry = entry; choices = choices })))) f

pub script_choices_fault : (params : ℕ) (b first rest : Bytes) (entry : List ℤ) (e : ScriptFault) → IsLine b first true rest → entry_of params first ≡ Ok entry → choices_of 2 [] (lines rest) ≡ Err e → script_of params b ≡ Err e
script_choices_fault params b first rest entry e h f g =
    script_first params b first rest h ∙ ap (λ r. on_ok r (λ entry. on_ok (choices_of 2 [] (lines rest)) (λ choices. Ok (record { entry = entry; choices = choices })))) f
    ∙ ap (λ r. on_ok r (λ choices. Ok (record { entry = entry; choices = choices }))) g

pub script_is : (params : ℕ) (b first rest : Bytes) (entry choices : List ℤ) → IsLine b first true rest → entry_of params first ≡ Ok entry → choices_of 2 [] (lines rest) ≡ Ok choices
    → script_of params b ≡ Ok (record { entry = entry; choices = choices })
script_is params b first rest entry choices h f g =
    script_first params b first rest h ∙ ap (λ r. on_ok r (λ entry. on_ok (choices_of 2 [] (lines rest)) (λ choices. Ok (record { entry = entry; choices = choices })))) f
    ∙ ap (λ r. on_ok r (λ choices. Ok (record { entry = entry; choices = choices }))) g

-- ---- faults handed on

fault_told : (e : ScriptFault) (P : Type 0) → P → Unless e P
fault_told fault.NoMemory P h = tt
fault_told (fault.Form n) P h = h
fault_told (fault.Number n) P h = h
fault_told (fault.Values m n) P h = h
fault_told (fault.Many n) P h = h

unless_then : (e : ScriptFault) (P Q : Type 0) → (P → Q) → Unless e P → Unless e Q
unless_then fault.NoMemory P Q f h = tt
unless_then (fault.Form n) P Q f h = f h
unless_then (fault.Number n) P Q f h = f h
unless_then (fault.Values m n) P Q f h = f h
unless_then (fault.Many n) P Q f h = f h

-- a fault that is handed on, in a call that gives an answer
pub gives_fault : (A : Type 0) (r answer : Result A ScriptFault) (y e : ScriptFault) → r ≡ Err y → y ≡ e → answer ≡ Err e → Gives r answer
gives_fault A r answer y e p q h = subst (λ r. Gives r answer) (sym (p ∙ ap Err q)) (fault_told e (answer ≡ Err e) h)

-- a fault that is handed on, in a call that reads a script
pub reads_fault : (r : Result Script ScriptFault) (answer : Result Choosing ScriptFault) (P : Type 0) (y e : ScriptFault) → r ≡ Err y → y ≡ e → (P → answer ≡ Err e) → Unless e P → Reads answer r
reads_fault r answer P y e p q f h = subst (λ r. Reads answer r) (sym (p ∙ ap Err q)) (unless_then e P (answer ≡ Err e) f h)

-- ---- choices in range

pub all_replicated : (n : ℕ) (z : ℤ) → is_in_range z ≡ true → list_all is_in_range (replicate n z) ≡ true
all_replicated zero z h = refl
all_replicated (suc n) z h = rw h (all_replicated n z h)

pub all_appended : (xs ys : List ℤ) → list_all is_in_range xs ≡ true → list_all is_in_range ys ≡ true → list_all is_in_range (xs ++ ys) ≡ true
all_appended [] ys h g = g
all_appended (x ∷ xs) ys h g = let p = and_parts (is_in_range x) (list_all is_in_range xs) h in rw (p.0) (all_appended xs ys (p.1) g)

pub few_more : (found all : List ℤ) (n : ℕ) (z : ℤ) → length found + n ≤ CHOICES → all ≡ found ++ replicate n z → length all ≤ CHOICES
few_more found all n z l e =
    let both = length-append found (replicate n z) in
    let one = length-replicate n z in
    let same = ap length e in
    omega arith
