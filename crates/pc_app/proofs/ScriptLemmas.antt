-- What the reading of a script, or of a certificate, tells.
use Rattle.std.proofs.Common.{◌≡◌, ◌≢◌, ◌∙◌, ap, sym, subst, ℕ, ℤ, List, [], ◌∷◌, length, Bool, true, false, cond, codes, Result, Ok, Err, Option, None, Some, refl, arith}
use Rattle.std.specs.Prelude.{◌==◌, map}
use Rattle.std.specs.List.{list_all}
use Rattle.std.proofs.lemmas.Bool.Decides.{nat_tests}
use Rattle.pc_text.specs.Bytes.{Bytes}
use Rattle.pc_text.specs.Lines.{lines}
use Rattle.pc_text.specs.Numerals.{integer_of, is_in_range}
use Rattle.pc_text.specs.Words.{Words, words, behind}
use Rattle.pc_cert.specs.Answers.{Means}
use Rattle.pc_cert.specs.Faults.{fault_of}
use Rattle.pc_lines.specs.declared.fault.CertFault.{CertFault}
use Rattle.pc_lines.specs.declared.fault.CertFault.TheVariants as certificate
use Rattle.pc_runner.specs.Answers.{Reads}
use Rattle.pc_runner.specs.Scripts.{Choosing, script_of, script_by, entry_of, entry_by, as_many, values_in, choices_of, on_ok}
use Rattle.pc_runner.specs.declared.fault.ScriptFault.{ScriptFault}
use Rattle.pc_runner.specs.declared.fault.ScriptFault.TheVariants as fault

pub faulty_means : (params : ℕ) (bytes : Bytes) (f : ScriptFault) → f ≢ fault.NoMemory → Reads (script_of params bytes) (Err f) → script_of params bytes ≡ Err f
faulty_means params bytes (fault.Form n) some h = h
faulty_means params bytes (fault.Number n) some h = h
faulty_means params bytes (fault.Values m n) some h = h
faulty_means params bytes (fault.Many n) some h = h
faulty_means params bytes fault.NoMemory some h = absurd (some refl)

abbrev found : List ℤ → Result (List ℤ) ScriptFault
found values = Ok values

as_many_are : (params : ℕ) (values entry : List ℤ) (t : Bool) → (length values == params) ≡ t → cond t (found values) (Err (fault.Values (length values) params)) ≡ Ok entry → length entry ≡ params
as_many_are params values entry true h e = let same : values ≡ entry = cc in ap length (sym same) ∙ grind (arith, nat_tests)
as_many_are params values entry false h e = cc

entry_after : (params : ℕ) (entry : List ℤ) (r : Result (List ℤ) ScriptFault) → on_ok r (as_many params) ≡ Ok entry → length entry ≡ params
entry_after params entry (Ok values) e = as_many_are params values entry (length values == params) refl e
entry_after params entry (Err f) e = cc

entry_where : (params : ℕ) (entry : List ℤ) (r : Result (List ℤ) ScriptFault) (t : Bool) → cond t (on_ok r (as_many params)) (Err (fault.Form 1)) ≡ Ok entry → length entry ≡ params
entry_where params entry r true e = entry_after params entry r e
entry_where params entry r false e = cc

entry_is : (params : ℕ) (entry : List ℤ) (ws : Option Words) → entry_by params ws ≡ Ok entry → length entry ≡ params
entry_is params entry None e = cc
entry_is params entry (Some ws) e = entry_where params entry (values_in 1 ws) _ e

same_entry : (entry : List ℤ) (c : Choosing) (r : Result (List ℤ) ScriptFault) → on_ok r (λ choices. Ok (record { entry = entry; choices = choices })) ≡ Ok c → entry ≡ c.entry
same_entry entry c (Ok choices) e = cc
same_entry entry c (Err f) e = cc

by_entry : (params : ℕ) (c : Choosing) (ws : Option Words) (choices : Result (List ℤ) ScriptFault) (r : Result (List ℤ) ScriptFault) → entry_by params ws ≡ r →
    on_ok r (λ entry. on_ok choices (λ choices. Ok (record { entry = entry; choices = choices }))) ≡ Ok c → length c.entry ≡ params
by_entry params c ws choices (Ok entry) h e = ap length (sym (same_entry entry c choices e)) ∙ entry_is params entry ws h
by_entry params c ws choices (Err f) h e = cc

by_lines : (params : ℕ) (c : Choosing) (ls : List Bytes) → script_by params ls ≡ Ok c → length c.entry ≡ params
by_lines params c [] e = cc
by_lines params c (first ∷ []) e = cc
by_lines params c (first ∷ next ∷ more) e = by_entry params c (behind (codes "entry") (words first)) (choices_of 2 [] (next ∷ more)) (entry_of params first) refl e

-- a script has a value for each parameter
pub as_many_values : (params : ℕ) (bytes : Bytes) (c : Choosing) → script_of params bytes ≡ Ok c → length c.entry ≡ params
unfolding script_of
as_many_values params bytes c e = by_lines params c (lines bytes) e

-- ---- the values of the entry are in range

abbrev AreRanged : List ℤ → Type 0
AreRanged values = list_all is_in_range values ≡ true

values_ranged : (n : ℕ) (zs values : List ℤ) (t : Bool) → list_all is_in_range zs ≡ t → cond t (found zs) (Err (fault.Number n)) ≡ Ok values → AreRanged values
values_ranged n zs values true h e = let same : zs ≡ values = cc in subst (λ (z : List ℤ). AreRanged z) same h
values_ranged n zs values false h e = cc

as_many_same : (params : ℕ) (values entry : List ℤ) (t : Bool) → cond t (found values) (Err (fault.Values (length values) params)) ≡ Ok entry → values ≡ entry
as_many_same params values entry true e = cc
as_many_same params values entry false e = cc

range_after : (params : ℕ) (entry : List ℤ) (r : Result (List ℤ) ScriptFault) → ((values : List ℤ) → r ≡ Ok values → AreRanged values) → on_ok r (as_many params) ≡ Ok entry → AreRanged entry
range_after params entry (Ok values) h e = subst (λ (z : List ℤ). AreRanged z) (as_many_same params values entry (length values == params) e) (h values refl)
range_after params entry (Err f) h e = cc

range_where : (params : ℕ) (entry : List ℤ) (r : Result (List ℤ) ScriptFault) (t : Bool) → ((values : List ℤ) → r ≡ Ok values → AreRanged values) →
    cond t (on_ok r (as_many params)) (Err (fault.Form 1)) ≡ Ok entry → AreRanged entry
range_where params entry r true h e = range_after params entry r h e
range_where params entry r false h e = cc

range_is : (params : ℕ) (entry : List ℤ) (ws : Option Words) → entry_by params ws ≡ Ok entry → AreRanged entry
range_is params entry None e = cc
range_is params entry (Some ws) e = range_where params entry (values_in 1 ws) _ (λ values is. values_ranged 1 (map integer_of ws) values (list_all is_in_range (map integer_of ws)) refl is) e

range_by_entry : (params : ℕ) (c : Choosing) (ws : Option Words) (choices : Result (List ℤ) ScriptFault) (r : Result (List ℤ) ScriptFault) → entry_by params ws ≡ r →
    on_ok r (λ entry. on_ok choices (λ choices. Ok (record { entry = entry; choices = choices }))) ≡ Ok c → AreRanged c.entry
range_by_entry params c ws choices (Ok entry) h e = subst (λ (z : List ℤ). AreRanged z) (same_entry entry c choices e) (range_is params entry ws h)
range_by_entry params c ws choices (Err f) h e = cc

range_by_lines : (params : ℕ) (c : Choosing) (ls : List Bytes) → script_by params ls ≡ Ok c → AreRanged c.entry
range_by_lines params c [] e = cc
range_by_lines params c (first ∷ []) e = cc
range_by_lines params c (first ∷ next ∷ more) e = range_by_entry params c (behind (codes "entry") (words first)) (choices_of 2 [] (next ∷ more)) (entry_of params first) refl e

pub entry_in_range : (params : ℕ) (bytes : Bytes) (c : Choosing) → script_of params bytes ≡ Ok c → AreRanged c.entry
unfolding script_of
entry_in_range params bytes c e = range_by_lines params c (lines bytes) e

pub no_certificate : (bytes : Bytes) (f : CertFault) → f ≢ certificate.NoMemory → Means bytes (Err f) → fault_of bytes ≡ Some f
no_certificate bytes (certificate.Form n) some h = h
no_certificate bytes (certificate.Number n) some h = h
no_certificate bytes (certificate.Trailing n) some h = h
no_certificate bytes certificate.NoMemory some h = absurd (some refl)
