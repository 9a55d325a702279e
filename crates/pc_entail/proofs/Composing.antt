-- Multipliers of premises, part by part.
use Rattle.std.proofs.Common.{◌≡◌, ℕ, ◌+◌, ◌<◌, ◌∙◌, ℤ, pos, ap, sym, subst, refl, arith, List, [], ◌∷◌, drop, length, slice_get, get_or, replicate, Some, true, false, Ok, Err}
use Rattle.std.specs.Prelude.{◌==◌, unsigned_abs}
use Rattle.std.specs.Int.{IsGcd}
use Rattle.std.proofs.lemmas.Nat.Gcd.{same_from_IsGcd}
use Rattle.std.proofs.lemmas.Bool.Decides.{nat_tests}
use Rattle.pc_rows.specs.declared.number.Past.{Past}
use Rattle.pc_rows.specs.declared.proof.Part.{Part}
use Rattle.pc_rows.specs.declared.system.TheConstants.{PREMISES}
use Rattle.pc_rows.specs.Evidence.{Proof}
use Rattle.pc_rows.proofs.Adding.{drop_got, drop_at}
use Rattle.pc_entail.specs.Composition.{multiplier_at, with_parts, PartsFit, sum_onto, SumFitsOnto, IsDivisor, IsSmallest, IsComposed, Sum, proof_over}
use Rattle.pc_entail.specs.Composing.{PartIs, SumIs, ProofIs}

-- the multiplier of a premise

pub multiplier_here : (parts : List Part) (i place : ℕ) (q : Part) → slice_get parts i ≡ Some q → q.index ≡ place →
    multiplier_at (drop i parts) place ≡ multiplier_at parts place → q.multiplier ≡ multiplier_at parts place
multiplier_here parts i place q at is go =
    let same : (q.index == place) ≡ true = grind (arith, nat_tests) in
    let one : multiplier_at (q ∷ drop (i + 1) parts) place ≡ q.multiplier = rw same refl in
    sym one ∙ ap (λ (z : List Part). multiplier_at z place) (sym (drop_got parts i q at)) ∙ go

pub multiplier_next : (parts : List Part) (i place : ℕ) (q : Part) → slice_get parts i ≡ Some q → (q.index ≡ place → ⊥) →
    multiplier_at (drop i parts) place ≡ multiplier_at parts place → multiplier_at (drop (i + 1) parts) place ≡ multiplier_at parts place
multiplier_next parts i place q at is go =
    let other : (q.index == place) ≡ false = grind (arith, nat_tests) in
    let one : multiplier_at (q ∷ drop (i + 1) parts) place ≡ multiplier_at (drop (i + 1) parts) place = rw other refl in
    sym one ∙ ap (λ (z : List Part). multiplier_at z place) (sym (drop_got parts i q at)) ∙ go

-- parts are added one after the other: what is left of them adds up to what all of them do

module _ (times : ℤ) (place : ℕ) (start : List ℤ) (parts : List Part) where
  pub record Adding (i : ℕ) (ms : List ℤ) : Type 0 where
    pub rest : with_parts times place ms (drop i parts) ≡ with_parts times place start parts
    pub fits : PartsFit times place start parts → PartsFit times place ms (drop i parts)
    pub back : PartsFit times place ms (drop i parts) → PartsFit times place start parts

  pub adding_next : (i : ℕ) (ms new : List ℤ) (q : Part) → slice_get parts i ≡ Some q → Adding i ms → PartIs times place ms q (Ok tt) new → Adding (i + 1) new
  adding_next i ms new q at g (fit, is) =
      let here = drop_got parts i q at in
      record {
        rest =
            ap (λ (z : List ℤ). with_parts times place z (drop (i + 1) parts)) is
            ∙ ap (λ (z : List Part). with_parts times place ms z) (sym here)
            ∙ g.rest;
        fits = λ h. subst (λ (z : List ℤ). PartsFit times place z (drop (i + 1) parts)) (sym is) (subst (PartsFit times place ms) here (g.fits h)).1;
        back = λ h. g.back (subst (PartsFit times place ms) (sym here) (fit, subst (λ (z : List ℤ). PartsFit times place z (drop (i + 1) parts)) is h));
      }

  pub adding_fails : (i : ℕ) (ms new : List ℤ) (q : Part) (e : Past) → slice_get parts i ≡ Some q → Adding i ms → PartIs times place ms q (Err e) new →
      PartsFit times place start parts → ⊥
  adding_fails i ms new q e at g fails h = fails (subst (PartsFit times place ms) (drop_got parts i q at) (g.fits h)).0

-- the divisor of a number more

pub divisor_next : (first : ℕ) (ms : List ℤ) (i n m a : ℕ) (x : ℤ) → i < length ms → x ≡ get_or ms i x → a ≡ unsigned_abs x → IsGcd a n m →
    ((d : ℕ) → IsDivisor n (drop i ms) d → IsDivisor first ms d) → (d : ℕ) → IsDivisor m (drop (i + 1) ms) d → IsDivisor first ms d
divisor_next first ms i n m a x lt at value one go d h =
    go d (subst (λ (z : List ℤ). IsDivisor n z d) (sym (drop_at ms i x lt at)) (m, subst (λ (z : ℕ). IsGcd z n m) value one, h))

-- the proof of the sum of what begins with zeros

pub composed_is : (ms : List ℤ) (old gone : Proof) (place : ℕ) (goal : ℤ) (new : List ℤ) (p : Proof) → ms ≡ replicate PREMISES (pos 0) →
    SumIs ms old gone place (Ok goal) new → ProofIs goal new (Ok p) → IsComposed old gone place p
composed_is ms old gone place goal new p zeros (fits, is) smallest = record {
  fits = subst (λ (z : List ℤ). SumFitsOnto z old gone place) zeros fits;
  smallest = subst (λ (s : Sum). IsSmallest s p) (is ∙ ap (λ (z : List ℤ). sum_onto z old gone place) zeros) smallest;
}

-- what is composed is one proof

divisor_once : (n : ℕ) (ms : List ℤ) (d e : ℕ) → IsDivisor n ms d → IsDivisor n ms e → d ≡ e
divisor_once n [] d e h k = h ∙ sym k
divisor_once n (x ∷ ms) d e h k =
    divisor_once h.0 ms d e h.2 (subst (λ (m : ℕ). IsDivisor m ms e) (same_from_IsGcd (unsigned_abs x) n k.0 h.0 k.1 h.1) k.2)

pub composed_once : (old gone : Proof) (place : ℕ) (p q : Proof) → IsComposed old gone place p → IsComposed old gone place q → p ≡ q
composed_once old gone place p q h k =
    let sum = sum_onto (replicate PREMISES (pos 0)) old gone place in
    let a = h.smallest in
    let b = k.smallest in
    a.2 ∙ ap (λ (d : ℕ). proof_over d sum) (divisor_once (unsigned_abs sum.goal) sum.premises a.0 b.0 a.1 b.1) ∙ sym b.2
