-- A term determines its number and its name.
use Rattle.std.proofs.Common.{◌≡◌, ℕ, ◌≤◌, Bool, true, false, cond, eqb, [], ◌∷◌, ◌++◌, drop, refl, sym, ap, ◌∙◌, append_assoc, arith, ℤ, pos, negsuc}
use Rattle.std.specs.Prelude.{codes, unsigned_abs}
use Rattle.std.specs.List.{AllByRecursion}
use Rattle.std.proofs.lemmas.List.{append-nil}
use Rattle.std.proofs.lemmas.Bool.{eqb-true, cond_both}
use Rattle.pc_text.specs.Bytes.{Bytes}
use Rattle.pc_condition.specs.Conditions.{Part, is_negative, times_name, term, constant_part}
use Rattle.pc_condition.proofs.Names.{IsPartByte, StandsAlone}
use Rattle.pc_text.proofs.Splits.{Stops, Begins, same_cut, each-append, each_weaker, begins-append, begins_weaker}
use Rattle.pc_text.proofs.Decimals.{IsDigit, decimal, decimal_digits, decimal_begins, decimal_injective}
use Rattle.pc_condition.proofs.Parts.{IsPart}

decimal_bytes : (n : ℕ) → AllByRecursion IsPartByte (decimal n)
decimal_bytes n = each_weaker IsDigit IsPartByte (λ b h. (omega (arith, h.0), λ e. absurd (omega (arith, h.1)))) (decimal n) (decimal_digits n)

decimal_begins_high : (n : ℕ) → Begins (λ b. 48 ≤ b) (decimal n)
decimal_begins_high n = begins_weaker IsDigit (λ b. 48 ≤ b) (λ b h. h.0) (decimal n) (decimal_begins n)

product_bytes :
    (n : ℕ) (name : Bytes) → StandsAlone name → AllByRecursion IsPartByte (decimal n ++ codes "*" ++ name)
product_bytes n name h =
    let star : AllByRecursion IsPartByte (codes "*") = ((omega arith, λ e. absurd (omega arith)), tt) in
    each-append IsPartByte (decimal n ++ codes "*") name (each-append IsPartByte (decimal n) (codes "*") (decimal_bytes n) star) h.bytes

product_begins :
    (P : ℕ → Type 0) (n : ℕ) (name : Bytes) → Begins P (decimal n) →
    Begins P (decimal n ++ codes "*" ++ name)
product_begins P n name h = begins-append P (decimal n ++ codes "*") name (begins-append P (decimal n) (codes "*") h)

pub term_is_part : (name : Bytes) (c : ℤ) → StandsAlone name → IsPart (term name c)
term_is_part name c h =
    let n = unsigned_abs c in
    record {
      bytes = cond_both (eqb n 1) name (decimal n ++ codes "*" ++ name) (AllByRecursion IsPartByte) (λ _. h.bytes) (λ _. product_bytes n name h);
      begins =
          cond_both (eqb n 1) name (decimal n ++ codes "*" ++ name) (Begins (λ b. 48 ≤ b))
          (λ _. begins_weaker (λ b. 58 ≤ b) (λ b. 48 ≤ b) (λ b g. omega (arith, g)) name h.begins)
          (λ _. product_begins (λ b. 48 ≤ b) n name (decimal_begins_high n));
    }

pub constant_is_part : (c : ℤ) → IsPart (constant_part c)
constant_is_part c = record { bytes = decimal_bytes (unsigned_abs c); begins = decimal_begins_high (unsigned_abs c) }

-- what begins with a digit does not begin as a name does
digit_no_name : (u v : Bytes) → Begins IsDigit u → Begins (λ b. 58 ≤ b) v → u ≡ v → ⊥
digit_no_name [] v at_u at_v e = at_u
digit_no_name (b ∷ u) [] at_u at_v e = at_v
digit_no_name (b ∷ u) (c ∷ v) at_u at_v e = let same : b ≡ c = cc in absurd (omega (arith, at_u.1))

star_stops : (u : Bytes) → Stops IsDigit (codes "*" ++ u)
star_stops u = λ h. absurd (omega (arith, h.0))

same_product :
    (m n : ℕ) (u v : Bytes) → decimal m ++ codes "*" ++ u ≡ decimal n ++ codes "*" ++ v → (m ≡ n) × (u ≡ v)
same_product m n u v e =
    let split = rw (append_assoc (decimal m) (codes "*") u, append_assoc (decimal n) (codes "*") v) at e in
    let cut = same_cut IsDigit (decimal m) (decimal n) _ _ (decimal_digits m) (decimal_digits n) (star_stops u) (star_stops v) split in
    (decimal_injective m n cut.0, ap (drop 1) cut.1)

same_by :
    (b c : Bool) (m n : ℕ) (u v : Bytes) → StandsAlone u → StandsAlone v → eqb m 1 ≡ b → eqb n 1 ≡ c →
    cond b u (decimal m ++ codes "*" ++ u) ≡ cond c v (decimal n ++ codes "*" ++ v) → (m ≡ n) × (u ≡ v)
same_by true true m n u v h g one_m one_n e = (eqb-true m 1 one_m ∙ sym (eqb-true n 1 one_n), e)
same_by true false m n u v h g one_m one_n e =
    absurd (digit_no_name _ _ (product_begins IsDigit n v (decimal_begins n)) h.begins (sym e))
same_by false true m n u v h g one_m one_n e = absurd (digit_no_name _ _ (product_begins IsDigit m u (decimal_begins m)) g.begins e)
same_by false false m n u v h g one_m one_n e = same_product m n u v e

-- a term's text determines its number and its name
same_times :
    (m n : ℕ) (u v : Bytes) → StandsAlone u → StandsAlone v → times_name m u ≡ times_name n v →
    (m ≡ n) × (u ≡ v)
same_times m n u v h g e = same_by (eqb m 1) (eqb n 1) m n u v h g refl refl e

no_times_by :
    (b : Bool) (k n : ℕ) (v : Bytes) → StandsAlone v → decimal k ≡ cond b v (decimal n ++ codes "*" ++ v) →
    ⊥
no_times_by true k n v h e = digit_no_name (decimal k) v (decimal_begins k) h.begins e
no_times_by false k n v h e =
    let split = append-nil (decimal k) ∙ e ∙ append_assoc (decimal n) (codes "*") v in
    let cut = same_cut IsDigit (decimal k) (decimal n) [] _ (decimal_digits k) (decimal_digits n) tt (star_stops v) split in
    let apart = cut.1 in
    cc

-- a number is no term
pub no_times : (k n : ℕ) (v : Bytes) → StandsAlone v → decimal k ≡ times_name n v → ⊥
no_times k n v h e = no_times_by (eqb n 1) k n v h e

same_number : (c d : ℤ) → is_negative c ≡ is_negative d → unsigned_abs c ≡ unsigned_abs d → c ≡ d
same_number (pos m) (pos n) sign size = ap pos size
same_number (pos m) (negsuc n) sign size = absurd (cc)
same_number (negsuc m) (pos n) sign size = absurd (cc)
same_number (negsuc m) (negsuc n) sign size = let same : m ≡ n = cc in ap negsuc same

pub same_term :
    (u v : Bytes) (c d : ℤ) → StandsAlone u → StandsAlone v → term u c ≡ term v d → (u ≡ v) × (c ≡ d)
same_term u v c d h g e =
    let size = same_times (unsigned_abs c) (unsigned_abs d) u v h g (ap (λ (p : Part). p.size) e) in
    (size.1, same_number c d (ap (λ (p : Part). p.is_negative) e) size.0)

pub same_constant : (c d : ℤ) → constant_part c ≡ constant_part d → c ≡ d
same_constant c d e =
    same_number c d (ap (λ (p : Part). p.is_negative) e)
    (decimal_injective (unsigned_abs c) (unsigned_abs d) (ap (λ (p : Part). p.size) e))
