-- A proof has no flaw exactly where it proves its row.
use Rattle.std.proofs.Common.{◌≡◌, ℕ, ◌<◌, ℤ, pos, negsuc, ◌≤ℤ◌, List, Bool, true, false, length, refl, sym, ap, ◌∙◌, arith, Option, Some, None}
use Rattle.std.specs.Prelude.{not, int_le, nat_lt}
use Rattle.std.specs.List.{AllByRecursion, list_all, position_from}
use Rattle.std.proofs.lemmas.Bool.{ltb-true, lt-ltb, and_from, false_from_ne_true, not-false, not_from_true, and_parts}
use Rattle.std.proofs.lemmas.Int.{ints}
use Rattle.pc_rows.specs.declared.proof.Part.{Part}
use Rattle.pc_rows.specs.Linear.{Linear, is_zero, IsNumber}
use Rattle.pc_rows.specs.Evidence.{Proof}
use Rattle.pc_rows.specs.Shows.{total, TotalFits}
use Rattle.pc_rows.proofs.Joining.{le_is, is_le}
use Rattle.pc_rows.proofs.Lists.{zero_is}
use Rattle.pc_flow.specs.declared.what.What.{What}
use Rattle.pc_flow.specs.Carry.{BackFits, back}
use Rattle.pc_flow.proofs.Lists.{each_more}
use Rattle.pc_replay.specs.declared.flaw.Flaw.{Flaw}
use Rattle.pc_replay.specs.declared.flaw.Flaw.TheVariants.{Past, Negative, Index}
use Rattle.pc_replay.specs.Ranges.{back_fits, total_fits}
use Rattle.pc_replay.specs.Flaws.{needs, is_signed, names_premises, flaw_by, flaw_of_total, flaw, row_flaw}
use Rattle.pc_replay.specs.Accepts.{Proves}
use Rattle.pc_replay.specs.Laws.{FlawsAreMeant}
use Rattle.pc_replay.proofs.Alls.{each_if, if_each, none_passes, passes_none, zero_test}
use Rattle.pc_replay.proofs.Fitting.{back_in, in_back, total_in, in_total}

-- what is needed holds, and there is nothing else
needed : (b : Bool) (f : Flaw) (rest : Option Flaw) → needs b (Some f) rest ≡ None → (b ≡ true) × (rest ≡ None)
needed true f rest h = (refl, h)
needed false f rest h = absurd (cc)

none_lacks : (b : Bool) (f : Flaw) (rest : Option Flaw) → b ≡ true → rest ≡ None → needs b (Some f) rest ≡ None
none_lacks b f rest h g = rw (h, g) refl

below_if : (c : ℤ) → not (int_le (pos 0) c) ≡ true → c ≤ℤ negsuc 0
below_if c h = grind (arith, ints)

if_below : (c : ℤ) → c ≤ℤ negsuc 0 → not (int_le (pos 0) c) ≡ true
if_below c h = grind (arith, ints)

total_if_by : (o : Option ℕ) (b : Bool) → flaw_by o b ≡ None → (o ≡ None) × (b ≡ true)
total_if_by None true h = (refl, refl)
total_if_by None false h = absurd (cc)
total_if_by (Some v) b h = absurd (cc)

total_if : (r : Linear) → flaw_of_total r ≡ None → IsNumber r × (r.constant ≤ℤ negsuc 0)
total_if r h =
    let g = total_if_by (position_from (λ c. not (is_zero c)) 0 r.coefficients) (not (int_le (pos 0) r.constant)) h in (
      each_more (λ c. not (is_zero c) ≡ false) (λ c. c ≡ pos 0) (λ c e. zero_is c (not-false (is_zero c) e)) r.coefficients (none_passes (λ c. not (is_zero c)) 0 r.coefficients g.0),
      below_if r.constant g.1,
    )

if_total : (r : Linear) → IsNumber r → r.constant ≤ℤ negsuc 0 → flaw_of_total r ≡ None
if_total r h g =
    rw (passes_none (λ c. not (is_zero c)) 0 r.coefficients (each_more (λ c. c ≡ pos 0) (λ c. not (is_zero c) ≡ false) (λ c e. not_from_true (is_zero c) (zero_test c e)) r.coefficients h), if_below r.constant g)
    refl

pub names_if : (n : ℕ) (p : Proof) → names_premises n p ≡ true → AllByRecursion (λ q. q.index < n) p.parts
names_if n p h = each_if (λ (q : Part). nat_lt q.index n) (λ q. q.index < n) (λ q. ltb-true q.index n) p.parts h

proves_if : (premises : List Linear) (goal : Linear) (p : Proof) → flaw premises goal p ≡ None → Proves premises goal p
proves_if premises goal p h =
    let of_total = flaw_of_total (total premises goal p) in
    let in_range = needs (total_fits premises goal p) (Some Past) of_total in
    let named = needs (names_premises (length premises) p) (Some Index) in_range in
    let signed = needed (is_signed p) Negative named h in
    let names = needed (names_premises (length premises) p) Index in_range signed.1 in
    let fits = needed (total_fits premises goal p) Past of_total names.1 in
    let signs = and_parts (list_all (λ q. int_le (pos 0) q.multiplier) p.parts) (int_le (pos 0) p.goal) signed.0 in
    let left = total_if (total premises goal p) fits.1 in
    record {
      shows = record {
        goal_multiplier = le_is (pos 0) p.goal signs.1;
        multipliers = each_if (λ (q : Part). int_le (pos 0) q.multiplier) (λ q. pos 0 ≤ℤ q.multiplier) (λ q. le_is (pos 0) q.multiplier) p.parts signs.0;
        indices = names_if (length premises) p names.0;
        left = left.0;
        below = left.1;
      };
      fits = total_in premises goal p fits.0;
    }

if_proves : (premises : List Linear) (goal : Linear) (p : Proof) → Proves premises goal p → flaw premises goal p ≡ None
if_proves premises goal p h =
    let of_total = flaw_of_total (total premises goal p) in
    let in_range = needs (total_fits premises goal p) (Some Past) of_total in
    let named = needs (names_premises (length premises) p) (Some Index) in_range in
    none_lacks (is_signed p) Negative named
    (and_from _ _
    (if_each (λ (q : Part). int_le (pos 0) q.multiplier) (λ q. pos 0 ≤ℤ q.multiplier) (λ q. is_le (pos 0) q.multiplier) p.parts h.shows.multipliers)
    (is_le (pos 0) p.goal h.shows.goal_multiplier))
    (none_lacks (names_premises (length premises) p) Index in_range
    (if_each (λ (q : Part). nat_lt q.index (length premises)) (λ q. q.index < length premises) (λ q. lt-ltb q.index (length premises)) p.parts h.shows.indices)
    (none_lacks (total_fits premises goal p) Past of_total (in_total premises goal p h.fits) (if_total (total premises goal p) h.shows.left h.shows.below)))

pub flaws_are_meant : FlawsAreMeant
flaws_are_meant w premises r p = (
  λ h.
      let g = needed (back_fits w r) Past (flaw premises (back w r) p) h in
      record { fits = back_in w r g.0; proves = proves_if premises (back w r) p g.1 },
  λ h. none_lacks (back_fits w r) Past (flaw premises (back w r) p) (in_back w r h.fits) (if_proves premises (back w r) p h.proves),
)

-- what the code finds, step by step

module _ (premises : List Linear) (goal : Linear) (p : Proof) (signed : is_signed p ≡ true) (named : names_premises (length premises) p ≡ true) where
  pub flaw_past : (TotalFits premises goal p → ⊥) → Some Past ≡ flaw premises goal p
  flaw_past fails = rw (signed, named, false_from_ne_true (total_fits premises goal p) (λ e. fails (total_in premises goal p e))) refl

  pub flaw_found : (r : Linear) (o : Option Flaw) → TotalFits premises goal p × (r ≡ total premises goal p) → o ≡ flaw_of_total r → o ≡ flaw premises goal p
  flaw_found r o h e = e ∙ ap flaw_of_total h.1 ∙ sym (rw (signed, named, in_total premises goal p h.0) refl)

module _ (w : What) (premises : List Linear) (r : Linear) (p : Proof) where
  pub row_past : (BackFits w r → ⊥) → Some Past ≡ row_flaw w premises r p
  row_past fails = rw (false_from_ne_true (back_fits w r) (λ e. fails (back_in w r e))) refl

  pub row_found : (goal : Linear) (o : Option Flaw) → BackFits w r × (goal ≡ back w r) → o ≡ flaw premises goal p → o ≡ row_flaw w premises r p
  row_found goal o h e = e ∙ ap (λ z. flaw premises z p) h.1 ∙ sym (rw (in_back w r h.0) refl)
