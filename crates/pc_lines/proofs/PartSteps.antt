-- A part more of a line of a proof.
use Rattle.std.proofs.Common.{◌≡◌, ◌≢◌, refl, ap, sym, subst, ℕ, ◌+◌, ◌<◌, ◌≤◌, Bool, true, false, not, cond, leb, ltb, List, [], ◌∷◌, ◌++◌, length, Option, Some, None, Result, Ok, Err, ℤ, pos, negsuc, arith}
use Rattle.std.specs.Prelude.{◌&&◌}
use Rattle.std.proofs.lemmas.Bool.{leb-true, and_parts}
use borrow.Author.Tests.{ltb-true}
use Rattle.pc_rows.specs.declared.proof.Part.{Part}
use Rattle.pc_rows.specs.Linear.{in_range, is_zero}
use Rattle.pc_rows.specs.Evidence.{IsAbove}
use Rattle.pc_rows.proofs.Joining.{each_join}
use Rattle.pc_rows.proofs.Rising.{above_more}
use Rattle.pc_text.specs.Bytes.{Bytes}
use Rattle.pc_text.specs.Digits.{natural_of}
use Rattle.pc_text.specs.Numerals.{integer_of}
use Rattle.pc_lines.specs.declared.fault.CertFault.{CertFault}
use Rattle.pc_text.specs.Words.{Words, is_count, is_numeral}
use Rattle.pc_lines.specs.Forms.{are_pairs}
use Rattle.pc_lines.specs.Kinds.{part_keeps}
use Rattle.pc_lines.specs.LineReaders.{broken, next_part, parts_from}
use Rattle.pc_rows.proofs.PartLists.{part}

pub not_zero : (z : ℤ) → not (is_zero z) ≡ true → z ≢ pos 0
not_zero (pos n) h e = let zero : is_zero (pos n) ≡ true = ap is_zero e in cc
not_zero (negsuc n) h e = cc

-- the next part, and what is left behind it
pub record IsNext (premises n least : ℕ) (old : Words) (p : Part) (new : Words) : Type 0 where
  pub risen : least ≤ p.index
  pub premise : p.index < premises
  pub says : p.multiplier ≢ pos 0
  pub shorter : length new < length old
  pub goes_on : (ps : List Part) → parts_from premises n (p.index + 1) (ps ++ p ∷ []) new ≡ parts_from premises n least ps old

ok_same : (x y : Option Part × Words) → ◌≡◌ {A = Result (Option Part × Words) CertFault} (Ok x) (Ok y) → x ≡ y
ok_same x y e = cc

some_same : (p q : Part) (ws vs : Words) → ◌≡◌ {A = Result (Option Part × Words) CertFault} (Ok (Some p, ws)) (Ok (Some q, vs)) → (p ≡ q) × (ws ≡ vs)
some_same p q ws vs e = let both = ok_same (Some p, ws) (Some q, vs) e in let first : ◌≡◌ {A = Option Part} (Some p) (Some q) = ap (λ (x : Option Part × Words). x.0) both in (cc, ap (λ (x : Option Part × Words). x.1) both)

next_by : (premises n least : ℕ) (i m : Bytes) (ws new : Words) (p : Part) (t u : Bool) → (is_count i && is_numeral m) ≡ t → part_keeps premises least i m ≡ u →
    ◌≡◌ {A = Result (Option Part × Words) CertFault} (cond t (cond u (Ok (Some (part (natural_of i) (integer_of m)), ws)) (Err (broken (are_pairs ws) n))) (Err (broken false n))) (Ok (Some p, new)) →
    IsNext premises n least (i ∷ m ∷ ws) p new
next_by premises n least i m ws new p true true e f g =
    let same = some_same (part (natural_of i) (integer_of m)) p ws new g in
    let three = and_parts (leb least (natural_of i) && ltb (natural_of i) premises && in_range (integer_of m)) (not (is_zero (integer_of m))) f in
    let two = and_parts (leb least (natural_of i) && ltb (natural_of i) premises) (in_range (integer_of m)) three.0 in
    let bounds = and_parts (leb least (natural_of i)) (ltb (natural_of i) premises) two.0 in
    subst (λ q. IsNext premises n least (i ∷ m ∷ ws) q new) same.0
    (subst (IsNext premises n least (i ∷ m ∷ ws) (part (natural_of i) (integer_of m))) same.1
    (record {
      risen = leb-true least (natural_of i) bounds.0;
      premise = ltb-true (natural_of i) premises bounds.1;
      says = not_zero (integer_of m) three.1;
      shorter = omega arith;
      goes_on = λ ps. rw (e, f) refl;
    }))
next_by premises n least i m ws new p true false e f g = absurd (cc)
next_by premises n least i m ws new p false u e f g = absurd (cc)

pub next_is : (premises n least : ℕ) (old new : Words) (p : Part) → next_part premises n least old ≡ Ok (Some p, new) → IsNext premises n least old p new
next_is premises n least [] new p e = let apart : ◌≡◌ {A = Option Part} None (Some p) = ap (λ (x : Option Part × Words). x.0) (ok_same (None, []) (Some p, new) e) in absurd (cc)
next_is premises n least (i ∷ []) new p e = absurd (cc)
next_is premises n least (i ∷ m ∷ ws) new p e = next_by premises n least i m ws new p (is_count i && is_numeral m) (part_keeps premises least i m) refl refl e

fault_by : (premises n least : ℕ) (i m : Bytes) (ws : Words) (ps : List Part) (f : CertFault) (t u : Bool) → (is_count i && is_numeral m) ≡ t → part_keeps premises least i m ≡ u →
    ◌≡◌ {A = Result (Option Part × Words) CertFault} (cond t (cond u (Ok (Some (part (natural_of i) (integer_of m)), ws)) (Err (broken (are_pairs ws) n))) (Err (broken false n))) (Err f) →
    parts_from premises n least ps (i ∷ m ∷ ws) ≡ Err f
fault_by premises n least i m ws ps f true true e k g = absurd (cc)
fault_by premises n least i m ws ps f true false e k g = rw (e, k) (let same : broken (are_pairs ws) n ≡ f = cc in ap Err same)
fault_by premises n least i m ws ps f false u e k g = rw e (let same : broken false n ≡ f = cc in ap Err same)

pub next_fault : (premises n least : ℕ) (old : Words) (ps : List Part) (f : CertFault) → next_part premises n least old ≡ Err f → parts_from premises n least ps old ≡ Err f
next_fault premises n least [] ps f e = absurd (cc)
next_fault premises n least (i ∷ []) ps f e = let same : broken false n ≡ f = cc in ap Err same
next_fault premises n least (i ∷ m ∷ ws) ps f e = fault_by premises n least i m ws ps f (is_count i && is_numeral m) (part_keeps premises least i m) refl refl e

pub above_next : (least : ℕ) (ps new : List Part) (p : Part) → least ≤ p.index → IsAbove least ps → new ≡ ps ++ p ∷ [] → IsAbove (p.index + 1) new
above_next least ps new p h g e =
    subst (IsAbove (p.index + 1)) (sym e) (each_join (λ q. q.index < p.index + 1) ps (p ∷ []) (above_more least (p.index + 1) ps (omega arith) g) (omega arith, tt))
