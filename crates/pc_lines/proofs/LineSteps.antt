-- A word more of a line that is read word by word.
use Rattle.std.proofs.Common.{◌≡◌, ◌∙◌, refl, ap, sym, ℕ, suc, ◌+◌, ◌-◌, ◌^◌, ◌<◌, ◌≤◌, min, Bool, true, false, not, cond, leb, ltb, ◌∷◌, Some, None, Ok, Err, ℤ, arith}
use Rattle.std.specs.Prelude.{◌&&◌}
use Rattle.std.proofs.lemmas.Bool.Decides.{nat_tests}
use Rattle.std.proofs.Math.Bool.{and-true, and-false}
use Rattle.pc_rows.specs.declared.proof.Part.{Part}
use Rattle.pc_rows.specs.declared.system.TheConstants.{PREMISES}
use Rattle.pc_rows.specs.Linear.{Linear, in_range, is_zero, with_coefficient}
use Rattle.pc_rows.proofs.PartLists.{part}
use Rattle.pc_text.specs.Bytes.{Bytes}
use Rattle.pc_text.specs.Digits.{natural_of}
use Rattle.pc_text.specs.Numerals.{integer_of}
use Rattle.pc_text.specs.declared.numerals.Word.{Word}
use Rattle.pc_text.specs.declared.numerals.Word.TheVariants as word
use Rattle.pc_text.specs.Words.{Words, is_count, is_numeral, count_of, word_of}
use Rattle.pc_lines.specs.Forms.{are_numerals, are_pairs}
use Rattle.pc_lines.specs.Readers.{◌>>=◌}
use Rattle.pc_lines.specs.Kinds.{part_keeps}
use Rattle.pc_lines.proofs.Ranges.{word_is}
use Rattle.pc_lines.specs.LineReaders.{next_number, row_from, broken, part_of, next_part}

pub one_less : (n i : ℕ) → i < n → n - i ≡ suc (n - (i + 1))
one_less n i h = omega arith

-- ---- numerals

pub numerals_more : (n i : ℕ) (w : Bytes) (old new : Words) → i < n → old ≡ w ∷ new → is_numeral w ≡ true → are_numerals (n - (i + 1)) new ≡ are_numerals (n - i) old
numerals_more n i w old new h e is = sym (rw (one_less n i h, e, is) refl)

pub row_more : (k i n : ℕ) (r : Linear) (z : ℤ) (old new : Words) → i < k → next_number (k - i - 1) n old ≡ Ok (z, new) →
    row_from n (i + 1) (k - (i + 1)) (with_coefficient r i z) new ≡ row_from n i (k - i) r old
row_more k i n r z old new h e =
    let behind : k - i - 1 ≡ k - (i + 1) = omega arith in
    let next : next_number (k - (i + 1)) n old ≡ Ok (z, new) = ap (λ b. next_number b n old) (sym behind) ∙ e in
    sym (ap (λ m. row_from n i m r old) (one_less k i h) ∙ ap (λ x. x >>= (λ y. row_from n (i + 1) (k - (i + 1)) (with_coefficient r i y.0) y.1)) next)

-- ---- parts

module _ (premises : ℕ) (few : premises ≤ PREMISES) where
  below_capped : (least n : ℕ) → (leb least (min n (2 ^ 32 - 1)) && ltb (min n (2 ^ 32 - 1)) premises) ≡ (leb least n && ltb n premises)
  below_capped least n = let small : premises < 2 ^ 32 - 1 = omega (arith, few) in grind (arith, nat_tests)

  below_same : (least n : ℕ) → (leb least n && ltb n premises) ≡ true → min n (2 ^ 32 - 1) ≡ n
  below_same least n h = let small : premises < 2 ^ 32 - 1 = omega (arith, few) in grind (arith, nat_tests)

  -- the index was capped, where it has no part
  part_by : (below u : Bool) (capped i : ℕ) (z : ℤ) → (below ≡ true → capped ≡ i) → cond (below && u) (Some (part capped z)) None ≡ cond (below && u) (Some (part i z)) None
  part_by true u capped i z same = ap (λ n. cond u (Some (part n z)) None) (same refl)
  part_by false u capped i z same = refl

  number_part : (least n : ℕ) (z : ℤ) → part_of premises least (min n (2 ^ 32 - 1)) (word.Number z) ≡ cond (leb least n && ltb n premises && not (is_zero z)) (Some (part n z)) None
  number_part least n z =
      ap (λ b. cond (b && not (is_zero z)) (Some (part (min n (2 ^ 32 - 1)) z)) None) (below_capped least n)
      ∙ part_by (leb least n && ltb n premises) (not (is_zero z)) (min n (2 ^ 32 - 1)) n z (below_same least n)

  word_part : (least n : ℕ) (z : ℤ) (t : Bool) → part_of premises least (min n (2 ^ 32 - 1)) (cond t (word.Number z) word.Past)
      ≡ cond (leb least n && ltb n premises && t && not (is_zero z)) (Some (part n z)) None
  word_part least n z true = number_part least n z ∙ ap (λ b. cond (b && not (is_zero z)) (Some (part n z)) None) (sym (and-true (leb least n && ltb n premises)))
  word_part least n z false = ap (λ b. cond (b && not (is_zero z)) (Some (part n z)) None) (sym (and-false (leb least n && ltb n premises)))

  -- the part of an index that may be capped and of a numeral is that of their words
  pub part_is : (least : ℕ) (i m : Bytes) → is_numeral m ≡ true → part_of premises least (min (natural_of i) (2 ^ 32 - 1)) (word_of m) ≡ cond (part_keeps premises least i m) (Some (part (natural_of i) (integer_of m))) None
  part_is least i m is = ap (part_of premises least (min (natural_of i) (2 ^ 32 - 1))) (word_is m) ∙ rw is (word_part least (natural_of i) (integer_of m) (in_range (integer_of m)))

count_by : (t : Bool) (n m : ℕ) → cond t (Some n) None ≡ Some m → (t ≡ true) × (m ≡ n)
count_by true n m e = (refl, cc)
count_by false n m e = absurd (cc)

other_by : (t : Bool) (w : Word) → (cond t w word.Other ≡ word.Other → ⊥) → t ≡ true
other_by true w h = refl
other_by false w h = absurd (h refl)

keeps_by : (b : Bool) (p q : Part) → cond b (Some p) None ≡ Some q → (b ≡ true) × (p ≡ q)
keeps_by true p q e = (refl, cc)
keeps_by false p q e = absurd (cc)

breaks_by : (b : Bool) (p : Part) → cond b (Some p) None ≡ None → b ≡ false
breaks_by true p e = absurd (cc)
breaks_by false p e = refl

module _ (premises : ℕ) (few : premises ≤ PREMISES) (n least index : ℕ) (i m : Bytes) (old mid new : Words) (e : old ≡ i ∷ mid) (f : mid ≡ m ∷ new) (counted : Some index ≡ count_of i) (numeral : word_of m ≡ word.Other → ⊥) where
  is_index : is_count i ≡ true
  is_index = (count_by (is_count i) (min (natural_of i) (2 ^ 32 - 1)) index (sym counted)).0

  is_multiplier : is_numeral m ≡ true
  is_multiplier = other_by (is_numeral m) (cond (in_range (integer_of m)) (word.Number (integer_of m)) word.Past) (λ e. numeral (word_is m ∙ e))

  told : part_of premises least index (word_of m) ≡ cond (part_keeps premises least i m) (Some (part (natural_of i) (integer_of m))) None
  told = ap (λ k. part_of premises least k (word_of m)) (count_by (is_count i) (min (natural_of i) (2 ^ 32 - 1)) index (sym counted)).1 ∙ part_is premises few least i m is_multiplier

  both : old ≡ i ∷ m ∷ new
  both = e ∙ ap (λ ws. i ∷ ws) f

  pub part_found : (p : Part) → part_of premises least index (word_of m) ≡ Some p → next_part premises n least old ≡ Ok (Some p, new)
  part_found p g =
      let keeps = keeps_by (part_keeps premises least i m) (part (natural_of i) (integer_of m)) p (sym told ∙ g) in
      ap (next_part premises n least) both ∙ rw (is_index, is_multiplier, keeps.0) (ap (λ q. Ok (Some q, new)) keeps.1)

  pub part_broken : part_of premises least index (word_of m) ≡ None → next_part premises n least old ≡ Err (broken (are_pairs new) n)
  part_broken g = ap (next_part premises n least) both ∙ rw (is_index, is_multiplier, breaks_by (part_keeps premises least i m) (part (natural_of i) (integer_of m)) (sym told ∙ g)) refl
