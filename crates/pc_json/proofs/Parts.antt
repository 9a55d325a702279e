-- The parts of a proof, read one after another.
use Rattle.std.proofs.Common.{◌≡◌, ◌∙◌, ℕ, ◌+◌, ◌-◌, ◌<◌, ◌≤◌, ◌==◌, false, true≢false, List, [], ◌∷◌, ◌++◌, length, map, get_or, take, drop, Ok, Err, refl, sym, ap, ap₂, arith, subst, append_assoc}
use Rattle.std.proofs.lemmas.List.{append-nil, take_rest}
use Rattle.std.specs.List.{flat_map}
use Rattle.std.proofs.lemmas.List.Concat.{flat_map-append}
use Rattle.serde_json.specs.Data.{Data, array}
use Rattle.serde_json.specs.View.{view, items_view, items_of}
use Rattle.serde_json.specs.declared.Value.{Value}
use Rattle.pc_rows.specs.declared.proof.Part.{Part}
use Rattle.pc_rows.specs.declared.system.TheConstants.{PREMISES}
use Rattle.pc_rows.specs.Evidence.{IsAbove, IsRising, IsPart, IsParts}
use Rattle.pc_rows.proofs.Joining.{each_join, each_right}
use Rattle.pc_rows.proofs.Rising.{parts_more, above_more}
use Rattle.pc_json.specs.declared.fault.JsonFault.{JsonFault}
use Rattle.pc_json.specs.declared.fault.JsonFault.TheVariants as fault
use Rattle.pc_json.specs.Values.{of_part, of_parts}
use Rattle.pc_json.specs.Exactly.{IsExactly, IsNext}
use Rattle.pc_json.proofs.Injective.{same_items, head_or, tail_of, same_part}

-- parts that were read, the number from which on the next index may be, and the values that are left
pub record HaveRead (list : List Value) (parts : List Part) (least : ℕ) (rest : List Value) : Type 0 where
  pub are : IsParts parts
  pub above : IsAbove least parts
  pub lowest : (n : ℕ) → IsAbove n parts → least ≤ n
  pub small : least ≤ PREMISES
  pub so_far : flat_map of_part parts ++ map view rest ≡ map view list

pub begins : (list : List Value) → HaveRead list [] 0 list
begins list = record { are = record { rising = tt; each = tt }; above = tt; lowest = λ n h. omega arith; small = omega arith; so_far = refl }

last_above : (n : ℕ) (ps : List Part) (p : Part) → IsAbove n (ps ++ p ∷ []) → p.index < n
last_above n [] p h = h.0
last_above n (q ∷ ps) p h = last_above n ps p h.1

module _ (list : List Value) (ps : List Part) (least : ℕ) (i m : Value) (more : List Value) (h : HaveRead list ps least (i ∷ m ∷ more)) where
  pub goes_on : (p : Part) (new : List Part) → IsNext least (view i) (view m) (Ok p) → new ≡ ps ++ p ∷ [] → HaveRead list new (p.index + 1) more
  goes_on p new is e =
      let few : p.index < PREMISES = is.1.index in
      let above : IsAbove p.index ps = above_more least p.index ps is.0 h.above in
      let all : IsAbove (p.index + 1) (ps ++ p ∷ []) = each_join (λ q. q.index < p.index + 1) ps (p ∷ []) (above_more p.index (p.index + 1) ps (omega arith) above) (omega arith, tt) in
      record {
        are = subst IsParts (sym e) (parts_more ps p h.are above is.1);
        above = subst (IsAbove (p.index + 1)) (sym e) all;
        lowest = λ n g. let last = last_above n ps p (subst (IsAbove n) e g) in omega (arith, last);
        small = omega arith;
        so_far =
            ap (λ xs. flat_map of_part xs ++ map view more) e
            ∙ ap (λ ds. ds ++ map view more) (flat_map-append of_part ps (p ∷ []))
            ∙ append_assoc (flat_map of_part ps) (of_part p) (map view more)
            ∙ ap (λ ds. flat_map of_part ps ++ (ds ++ map view more)) (sym is.2)
            ∙ h.so_far;
      }

-- where parts have the values of some and then others, they are these and then others
after : (ps xs : List Part) (ds : List Data) → flat_map of_part xs ≡ flat_map of_part ps ++ ds → (ys : List Part) × (xs ≡ ps ++ ys) × (flat_map of_part ys ≡ ds)
after [] xs ds e = (xs, refl, e)
after (p ∷ ps) [] ds e = absurd (cc)
after (p ∷ ps) (x ∷ xs) ds e =
    let front : x ≡ p = same_part x p (ap₂ (λ a b. a ∷ b ∷ []) (ap (λ zs. head_or (head_or_none zs) zs) e) (ap (λ zs. head_or (head_or_none zs) (tail_of zs)) e)) in
    let more = after ps xs ds (ap (λ zs. tail_of (tail_of zs)) e) in
    (more.0, ap₂ (λ a b. a ∷ b) front more.1, more.2)
  where
    head_or_none : List Data → Data
    head_or_none zs = array (items_of [])

from_parts : (list : List Value) (ps : List Part) (least : ℕ) (rest : List Value) (xs : List Part) → HaveRead list ps least rest → array (items_view list) ≡ of_parts xs
    → (ys : List Part) × (xs ≡ ps ++ ys) × (flat_map of_part ys ≡ map view rest)
from_parts list ps least rest xs h e = after ps xs (map view rest) (sym (same_items (map view list) (flat_map of_part xs) e) ∙ sym h.so_far)

-- the index of the next part is above those before it
above_before : (ps : List Part) (q : Part) (ys : List Part) → IsRising (ps ++ q ∷ ys) → IsAbove q.index ps
above_before [] q ys h = tt
above_before (p ∷ ps) q ys h = ((each_right (λ x. p.index < x.index) ps (q ∷ ys) h.0).0, above_before ps q ys h.1)

next_is : (ps ys : List Part) (d e : Data) (ds : List Data) → IsParts (ps ++ ys) → flat_map of_part ys ≡ d ∷ e ∷ ds → (q : Part) × IsPart q × IsAbove q.index ps × (d ∷ e ∷ [] ≡ of_part q)
next_is ps [] d e ds h is = absurd (cc)
next_is ps (q ∷ ys) d e ds h is =
    (q, (each_right IsPart ps (q ∷ ys) h.each).0, above_before ps q ys h.rising, ap₂ (λ a b. a ∷ b ∷ []) (sym (ap (head_or d) is)) (sym (ap (λ zs. head_or e (tail_of zs)) is)))

module _ (list : List Value) (ps : List Part) (least : ℕ) (i m : Value) (more : List Value) (h : HaveRead list ps least (i ∷ m ∷ more)) where
  stops : ((p : Part) → least ≤ p.index → IsPart p → view i ∷ view m ∷ [] ≡ of_part p → ⊥) → (xs : List Part) → IsParts xs → array (items_view list) ≡ of_parts xs → ⊥
  stops none xs are e =
      let found = from_parts list ps least (i ∷ m ∷ more) xs h e in
      let next = next_is ps found.0 (view i) (view m) (map view more) (subst IsParts found.1 are) found.2 in
      none next.0 (h.lowest next.0.index next.2) next.1 next.3

  pub parts_err : (e : JsonFault) → IsNext least (view i) (view m) (Err e) → IsExactly IsParts of_parts (array (items_view list)) (Err e)
  parts_err fault.Json g = g
  parts_err fault.Value g = stops g
  parts_err fault.NoMemory g = tt

-- where nothing is left, these are the parts
pub whole : (list : List Value) (ps : List Part) (least : ℕ) → HaveRead list ps least [] → IsExactly IsParts of_parts (array (items_view list)) (Ok ps)
whole list ps least h = (h.are, ap (λ ds. array (items_of ds)) (sym h.so_far ∙ append-nil (flat_map of_part ps)))

odd : (ys : List Part) (d : Data) → flat_map of_part ys ≡ d ∷ [] → ⊥
odd [] d e = cc
odd (q ∷ ys) d e = cc

-- where one value is left, there are no such parts
pub one_left : (list : List Value) (ps : List Part) (least : ℕ) (i : Value) → HaveRead list ps least (i ∷ []) → (xs : List Part) → IsParts xs → array (items_view list) ≡ of_parts xs → ⊥
one_left list ps least i h xs are e = let found = from_parts list ps least (i ∷ []) xs h e in odd found.0 (view i) found.2

two_front : (rest : List Value) (i m : Value) → 2 ≤ length rest → i ≡ get_or rest 0 i → m ≡ get_or rest 1 m → rest ≡ i ∷ m ∷ drop 2 rest
two_front [] i m le at_i at_m = absurd (omega arith)
two_front (x ∷ []) i m le at_i at_m = absurd (omega arith)
two_front (x ∷ y ∷ rest) i m le at_i at_m = ap₂ (λ a b. a ∷ b ∷ rest) (sym at_i) (sym at_m)

-- ---- the same of the rest of a list

module _ (list : List Value) (ps : List Part) (least : ℕ) (rest : List Value) (i m : Value) (h : HaveRead list ps least rest) (le : 2 ≤ length rest) (at_i : i ≡ get_or rest 0 i) (at_m : m ≡ get_or rest 1 m) where
  split : HaveRead list ps least (i ∷ m ∷ drop 2 rest)
  split = subst (HaveRead list ps least) (two_front rest i m le at_i at_m) h

  pub rest_err : (e : JsonFault) → IsNext least (view i) (view m) (Err e) → IsExactly IsParts of_parts (array (items_view list)) (Err e)
  rest_err e g = parts_err list ps least i m (drop 2 rest) split e g

  pub rest_rising : (p : Part) → IsNext least (view i) (view m) (Ok p) → IsAbove p.index ps
  rest_rising p is = above_more least p.index ps is.0 h.above

  pub rest_goes_on : (p : Part) (new : List Part) → IsNext least (view i) (view m) (Ok p) → new ≡ ps ++ p ∷ [] → HaveRead list new (p.index + 1) (take (length rest - 2) (drop 2 rest))
  rest_goes_on p new is e = subst (HaveRead list new (p.index + 1)) (sym (take_rest rest 2)) (goes_on list ps least i m (drop 2 rest) split p new is e)

pub rest_odd : (list : List Value) (ps : List Part) (least : ℕ) (rest : List Value) → HaveRead list ps least rest → length rest < 2 → false ≡ (length rest == 0) → (xs : List Part) → IsParts xs → array (items_view list) ≡ of_parts xs → ⊥
rest_odd list ps least [] h le some = absurd (true≢false (sym some))
rest_odd list ps least (i ∷ []) h le some = one_left list ps least i h
rest_odd list ps least (i ∷ m ∷ rest) h le some = absurd (omega arith)
