-- A line of a goal's multiplier and pairs spells a proof.
use Rattle.std.proofs.Common.{◌≡◌, ◌≢◌, ◌∙◌, refl, ap, ℕ, zero, suc, ◌+◌, ◌<◌, ◌≤◌, ◌^◌, leb, ltb, true, not, List, [], ◌∷◌, arith, ℤ, pos, negsuc}
use Rattle.std.specs.Prelude.{unsigned_abs, ◌&&◌}
use Rattle.std.specs.List.{AllByRecursion, flat_map}
use Rattle.std.proofs.lemmas.Bool.{leb-true, le-leb, lt-ltb, ne_eqb, and_parts}
use borrow.Author.Tests.{ltb-true}
use Rattle.pc_rows.specs.declared.proof.Part.{Part}
use Rattle.pc_rows.specs.declared.system.TheConstants.{PREMISES}
use Rattle.pc_rows.specs.Linear.{InRange, in_range, is_zero}
use Rattle.pc_rows.specs.Evidence.{Proof, IsPart, IsParts, IsProof, IsRising}
use Rattle.pc_text.specs.Bytes.{Bytes}
use Rattle.pc_text.specs.Digits.{natural_of}
use Rattle.pc_text.specs.Numerals.{numeral, integer_of}
use Rattle.pc_text.proofs.NumeralTexts.{integer_numeral}
use Rattle.pc_rows.proofs.Ranges.{in_is}
use Rattle.pc_text.specs.Words.{Words, is_count, is_numeral}
use Rattle.pc_lines.specs.Forms.{are_pairs}
use Rattle.pc_lines.specs.Kinds.{proof, is_proof, proof_keeps, part_keeps, pairs_keep}
use Rattle.pc_lines.specs.Readers.{parts_value, proof_value}
use Rattle.pc_lines.specs.Texts.{proof_line}
use Rattle.pc_text.proofs.NumeralWords.{numeral_of, integer_is_numeral, count_is, natural_count, natural_integer}
use Rattle.pc_lines.proofs.PartSteps.{not_zero}
use Rattle.pc_text.proofs.PlainWords.{IsPlain, numeral_plain}
use Rattle.pc_lines.proofs.Spelled.{IsSpelled}
use Rattle.pc_lines.proofs.LineLaws.{proof_with}
use Rattle.pc_rows.proofs.PartLists.{part}

abbrev pub part_line : Part → Words
part_line p = numeral (pos p.index) ∷ numeral p.multiplier ∷ []

-- ---- from words to parts

-- what a part's rules say
record Keeps (premises least : ℕ) (i m : Bytes) : Type 0 where
  risen : least ≤ natural_of i
  premise : natural_of i < premises
  in_range : InRange (integer_of m)
  says : integer_of m ≢ pos 0

keeps_is : (premises least : ℕ) (i m : Bytes) → part_keeps premises least i m ≡ true → Keeps premises least i m
keeps_is premises least i m h =
    let three = and_parts (leb least (natural_of i) && ltb (natural_of i) premises && in_range (integer_of m)) (not (is_zero (integer_of m))) h in
    let two = and_parts (leb least (natural_of i) && ltb (natural_of i) premises) (in_range (integer_of m)) three.0 in
    let bounds = and_parts (leb least (natural_of i)) (ltb (natural_of i) premises) two.0 in
    record {
      risen = leb-true least (natural_of i) bounds.0;
      premise = ltb-true (natural_of i) premises bounds.1;
      in_range = ltb-true (unsigned_abs (integer_of m)) (2 ^ 127) two.1;
      says = not_zero (integer_of m) three.1;
    }

from_more : (m n : ℕ) (ps : List Part) → n ≤ m → AllByRecursion (λ q. m ≤ q.index) ps → AllByRecursion (λ q. n ≤ q.index) ps
from_more m n [] h g = tt
from_more m n (p ∷ ps) h g = (omega (arith, g.0), from_more m n ps h g.1)

-- the indices of pairs that keep the rules are at least that number
from_least : (premises least : ℕ) (ws : Words) → are_pairs ws ≡ true → pairs_keep premises least ws ≡ true → AllByRecursion (λ q. least ≤ q.index) (parts_value ws)
from_least premises least [] h g = tt
from_least premises least (i ∷ []) h g = tt
from_least premises least (i ∷ m ∷ ws) h g =
    let form = and_parts (is_count i && is_numeral m) (are_pairs ws) h in
    let rules = and_parts (part_keeps premises least i m) (pairs_keep premises (natural_of i + 1) ws) g in
    let keeps = keeps_is premises least i m rules.0 in
    let risen = keeps.risen in
    (risen, from_more (natural_of i + 1) least (parts_value ws) (omega arith) (from_least premises (natural_of i + 1) ws form.1 rules.1))

above_from : (n : ℕ) (ps : List Part) → AllByRecursion (λ q. n + 1 ≤ q.index) ps → AllByRecursion (λ q. n < q.index) ps
above_from n [] h = tt
above_from n (p ∷ ps) h = (omega (arith, h.0), above_from n ps h.1)

-- parts that the code may hold, each of which names one of so many premises
pub record ArePartsOf (premises : ℕ) (ps : List Part) : Type 0 where
  pub parts : IsParts ps
  pub few : AllByRecursion (λ q. q.index < premises) ps

parts_good : (premises : ℕ) → premises ≤ PREMISES → (least : ℕ) (ws : Words) → are_pairs ws ≡ true → pairs_keep premises least ws ≡ true → ArePartsOf premises (parts_value ws)
parts_good premises few least [] h g = record { parts = record { rising = tt; each = tt }; few = tt }
parts_good premises few least (i ∷ []) h g = record { parts = record { rising = tt; each = tt }; few = tt }
parts_good premises few least (i ∷ m ∷ ws) h g =
    let form = and_parts (is_count i && is_numeral m) (are_pairs ws) h in
    let rules = and_parts (part_keeps premises least i m) (pairs_keep premises (natural_of i + 1) ws) g in
    let keeps = keeps_is premises least i m rules.0 in
    let premise = keeps.premise in
    let more = parts_good premises few (natural_of i + 1) ws form.1 rules.1 in
    record {
      parts = record {
        rising = (above_from (natural_of i) (parts_value ws) (from_least premises (natural_of i + 1) ws form.1 rules.1), more.parts.rising);
        each = (record { index = omega arith; in_range = keeps.in_range; not_zero = keeps.says }, more.parts.each);
      };
      few = (premise, more.few);
    }

parts_line : (ws : Words) → are_pairs ws ≡ true → flat_map part_line (parts_value ws) ≡ ws
parts_line [] h = refl
parts_line (i ∷ []) h = absurd (cc)
parts_line (i ∷ m ∷ ws) h =
    let form = and_parts (is_count i && is_numeral m) (are_pairs ws) h in
    let words = and_parts (is_count i) (is_numeral m) form.0 in
    let index = count_is i words.0 in
    let multiplier = numeral_of m words.1 in
    let more = parts_line ws form.1 in
    cc

-- ---- from parts to words

pairs_of : (ps : List Part) → are_pairs (flat_map part_line ps) ≡ true
pairs_of [] = refl
pairs_of (p ∷ ps) = rw (natural_count p.index, integer_is_numeral p.multiplier) (pairs_of ps)

zero_not : (z : ℤ) → z ≢ pos 0 → not (is_zero z) ≡ true
zero_not (pos zero) h = absurd (h refl)
zero_not (pos (suc n)) h = ap not (ne_eqb (suc n) 0 (λ e. absurd (omega arith)))
zero_not (negsuc n) h = refl

keeps_of : (premises least : ℕ) (p : Part) → least ≤ p.index → p.index < premises → IsPart p → part_keeps premises least (numeral (pos p.index)) (numeral p.multiplier) ≡ true
keeps_of premises least p h l g =
    rw (natural_integer p.index, integer_numeral p.multiplier, le-leb least p.index h, lt-ltb p.index premises l, in_is p.multiplier g.in_range, zero_not p.multiplier g.not_zero) refl

from_above : (n : ℕ) (ps : List Part) → AllByRecursion (λ q. n < q.index) ps → AllByRecursion (λ q. n + 1 ≤ q.index) ps
from_above n [] h = tt
from_above n (p ∷ ps) h = (omega (arith, h.0), from_above n ps h.1)

rules_of : (premises least : ℕ) (ps : List Part) → AllByRecursion (λ q. least ≤ q.index) ps → IsRising ps → AllByRecursion IsPart ps → AllByRecursion (λ q. q.index < premises) ps →
    pairs_keep premises least (flat_map part_line ps) ≡ true
rules_of premises least [] f r e l = refl
rules_of premises least (p ∷ ps) f r e l =
    let more = rules_of premises (p.index + 1) ps (from_above p.index ps r.0) r.1 e.1 l.1 in
    rw (keeps_of premises least p f.0 l.0 e.0, natural_integer p.index) more

pub from_zero : (ps : List Part) → AllByRecursion (λ q. 0 ≤ q.index) ps
from_zero [] = tt
from_zero (p ∷ ps) = (omega arith, from_zero ps)

parts_of : (ps : List Part) → parts_value (flat_map part_line ps) ≡ ps
parts_of [] = refl
parts_of (p ∷ ps) =
    ap (λ i. part i (integer_of (numeral p.multiplier)) ∷ parts_value (flat_map part_line ps)) (natural_integer p.index)
    ∙ ap (λ z. part p.index z ∷ parts_value (flat_map part_line ps)) (integer_numeral p.multiplier)
    ∙ ap (λ qs. p ∷ qs) (parts_of ps)

parts_plain : (ps : List Part) → AllByRecursion IsPlain (flat_map part_line ps)
parts_plain [] = tt
parts_plain (p ∷ ps) = (numeral_plain (pos p.index), (numeral_plain p.multiplier, parts_plain ps))

-- ---- proofs

pub proof_plain : (p : Proof) → AllByRecursion IsPlain (proof_line p)
proof_plain p = (numeral_plain p.goal, parts_plain p.parts)

forth_value : (p : Proof) → proof_value (proof_line p) ≡ p
forth_value p = ap (λ z. proof_with z (parts_value (flat_map part_line p.parts))) (integer_numeral p.goal) ∙ ap (proof_with p.goal) (parts_of p.parts)

-- a proof that the code may hold and that names some of so many premises
pub record IsProofOf (premises : ℕ) (p : Proof) : Type 0 where
  pub proof : IsProof p
  pub few : AllByRecursion (λ q. q.index < premises) p.parts

module _ (premises : ℕ) (few : premises ≤ PREMISES) where
  back : (ws : Words) → is_proof ws ≡ true → proof_keeps premises ws ≡ true → IsProofOf premises (proof_value ws) × (proof_line (proof_value ws) ≡ ws)
  back [] h k = absurd (cc)
  back (g ∷ ws) h k =
      let form = and_parts (is_numeral g) (are_pairs ws) h in
      let rules = and_parts (in_range (integer_of g)) (pairs_keep premises 0 ws) k in
      let first = numeral_of g form.0 in
      let more = parts_line ws form.1 in
      let good = parts_good premises few 0 ws form.1 rules.1 in
      (record { proof = record { goal = ltb-true (unsigned_abs (integer_of g)) (2 ^ 127) rules.0; parts = good.parts }; few = good.few }, cc)

  forth_rules : (p : Proof) → IsProofOf premises p → (in_range (integer_of (numeral p.goal)) && pairs_keep premises 0 (flat_map part_line p.parts)) ≡ true
  forth_rules p h =
      rw (integer_numeral p.goal, in_is p.goal h.proof.goal) (rules_of premises 0 p.parts (from_zero p.parts) h.proof.parts.rising h.proof.parts.each h.few)

  pub proof_spelled : IsSpelled (proof premises) proof_value proof_line (IsProofOf premises)
  proof_spelled = record {
    back = back;
    plain = λ p h. (proof_plain p, refl);
    form = λ p h. rw (integer_is_numeral p.goal) (pairs_of p.parts);
    rules = forth_rules;
    forth = λ p h. forth_value p;
  }
