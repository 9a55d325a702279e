-- Strings that are numerals, and two values that are those of a part.
use Rattle.std.proofs.Common.{◌≡◌, ◌∙◌, ℕ, ℤ, ◌+◌, ◌<◌, ◌^◌, [], ◌∷◌, ◌++◌, length, Option, Some, None, sym, ap, arith}
use Rattle.std.proofs.lemmas.List.{append-nil}
use Rattle.serde_json.specs.Data.{Data, string}
use Rattle.pc_text.specs.Bytes.{Bytes}
use Rattle.pc_text.specs.Numerals.{numeral, IsInRange, NoDigitNext}
use Rattle.pc_rows.specs.Linear.{InRange}
use Rattle.pc_rows.specs.declared.proof.Part.{Part}
use Rattle.pc_rows.specs.Evidence.{IsPart}
use Rattle.pc_json.specs.Values.{of_numeral, of_count, of_part}
use Rattle.pc_json.proofs.Injective.{head_or, tail_of, same_part}

abbrev bytes_in : Data → Bytes
bytes_in (string s) = s
bytes_in _ = []

-- a text from whose front every number in range is read where its numeral stands there
abbrev ReadsBack : Bytes → Option (ℤ × ℕ) → Type 0
ReadsBack s o = (n : ℤ) (rest : Bytes) → s ≡ numeral n ++ rest → NoDigitNext rest → IsInRange n → o ≡ Some (n, 0 + length (numeral n))

found : (s : Bytes) (o : Option (ℤ × ℕ)) → ReadsBack s o → (x : ℤ) → InRange x → string s ≡ of_numeral x → o ≡ Some (x, length s)
found s o back x h e =
    let is : s ≡ numeral x = ap bytes_in e in
    let long : 0 + length (numeral x) ≡ length s = omega (arith, ap length is) in
    back x [] (is ∙ sym (append-nil (numeral x))) tt (omega (arith, h)) ∙ ap (λ n. Some (x, n)) long

pub none_found : (s : Bytes) (o : Option (ℤ × ℕ)) → ReadsBack s o → o ≡ None → (x : ℤ) → InRange x → string s ≡ of_numeral x → ⊥
none_found s o back none x h e = let some = found s o back x h e in cc

pub other_end : (s : Bytes) (o : Option (ℤ × ℕ)) (y : ℤ) (end : ℕ) → ReadsBack s o → o ≡ Some (y, end) → (end ≡ length s → ⊥) → (x : ℤ) → InRange x → string s ≡ of_numeral x → ⊥
other_end s o y end back some other x h e =
    let is : ◌≡◌ {A = Option (ℤ × ℕ)} (Some (x, length s)) (Some (y, end)) = sym (found s o back x h e) ∙ some in
    other (sym (ap end_in is))
  where
    end_in : Option (ℤ × ℕ) → ℕ
    end_in None = 0
    end_in (Some p) = p.1

pub no_index : (i m : Data) → ((n : ℕ) → n < 2 ^ 32 → i ≡ of_count n → ⊥) → (p : Part) → IsPart p → i ∷ m ∷ [] ≡ of_part p → ⊥
no_index i m none p h e = none p.index (omega (arith, h.index)) (ap (head_or i) e)

pub no_multiplier : (i m : Data) → ((z : ℤ) → InRange z → m ≡ of_numeral z → ⊥) → (p : Part) → IsPart p → i ∷ m ∷ [] ≡ of_part p → ⊥
no_multiplier i m none p h e = none p.multiplier h.in_range (ap (λ ds. head_or m (tail_of ds)) e)

pub other_part : (p q : Part) (i m : Data) → i ≡ of_count q.index → m ≡ of_numeral q.multiplier → i ∷ m ∷ [] ≡ of_part p → p ≡ q
other_part p q i m e g h = sym (same_part q p (sym (ap (λ d. d ∷ m ∷ []) e ∙ ap (λ d. of_count q.index ∷ d ∷ []) g) ∙ h))
