-- The first contradiction of rows that are looked at one by one.
use Rattle.std.proofs.Common.{◌≡◌, ℕ, ◌+◌, ◌^◌, ◌<◌, ◌≤◌, ℤ, neg_ℤ, refl, sym, ◌∙◌, ap, arith, List, [], ◌∷◌, ◌++◌, Bool, true, false, cond, Option, Some, None, length, drop, get_or, Result, Ok, Err}
use Rattle.std.specs.Prelude.{int_le}
use Rattle.std.specs.List.{AllByRecursion, list_all}
use Rattle.std.proofs.lemmas.Int.{ints}
use Rattle.std.proofs.lemmas.Bool.{and_parts}
use Rattle.std.proofs.lemmas.List.{drop_more, drop_all, get_or_default}
use Rattle.pc_rows.specs.Bounds.{IsWithin, AreWithin}
use Rattle.pc_elim.specs.declared.made.Fault.{Fault}
use Rattle.pc_elim.specs.declared.small.TheConstants.{SMALL}
use Rattle.pc_elim.specs.Elimination.{Made, combine, flat, with_each, kept_of, combined_of, eliminated}
use Rattle.pc_elim.specs.Places.{places_below, combined_at}
use Rattle.pc_elim.specs.Settling.{is_contradiction, contradiction_of}
use Rattle.pc_elim.specs.Small.{is_small, is_small_row, is_small_made}
use Rattle.pc_elim.specs.Fits.{CombineFits, PairFits, AllPairsFit, EliminationFits}
use Rattle.pc_elim.specs.Steps.{CountIs, FaultIs, SettleIs, Unless}
use Rattle.pc_elim.proofs.Adding.{flat_next, all_at}
use Rattle.pc_elim.proofs.Counting.{is_under}
use Rattle.pc_elim.proofs.SmallRows.{MadeWithin, all_pairs_fit}
use Rattle.pc_elim.proofs.Settlement.{fault_moves}
use Rattle.pc_elim.proofs.Pairing.{place_at, combined_places}

-- rows that are put together

pub after_none : (xs ys : List Made) → contradiction_of xs ≡ None → contradiction_of (xs ++ ys) ≡ contradiction_of ys
after_none [] ys e = refl
after_none (x ∷ xs) ys e = one (is_contradiction x) e (λ h. after_none xs ys h)
  where
    one : (t : Bool) → cond t (Some x.multipliers) (contradiction_of xs) ≡ None → (contradiction_of xs ≡ None → contradiction_of (xs ++ ys) ≡ contradiction_of ys) →
        cond t (Some x.multipliers) (contradiction_of (xs ++ ys)) ≡ contradiction_of ys
    one true e more = cc
    one false e more = more e

pub at_some : (xs ys : List Made) (ms : List ℤ) → contradiction_of xs ≡ Some ms → contradiction_of (xs ++ ys) ≡ Some ms
at_some [] ys ms e = cc
at_some (x ∷ xs) ys ms e = one (is_contradiction x) e (λ h. at_some xs ys ms h)
  where
    one : (t : Bool) → cond t (Some x.multipliers) (contradiction_of xs) ≡ Some ms → (contradiction_of xs ≡ Some ms → contradiction_of (xs ++ ys) ≡ Some ms) →
        cond t (Some x.multipliers) (contradiction_of (xs ++ ys)) ≡ Some ms
    one true e more = e
    one false e more = more e

-- the loop over the rows of which something is made

pub flat_none : (f : Made → List Made) (xs : List Made) (i : ℕ) (x : Made) → i < length xs → x ≡ get_or xs i x → contradiction_of (flat f (drop i xs)) ≡ contradiction_of (flat f xs) →
    None ≡ contradiction_of (f x) → contradiction_of (flat f (drop (i + 1) xs)) ≡ contradiction_of (flat f xs)
flat_none f xs i x lt at h e = sym (ap contradiction_of (flat_next f xs i x lt at) ∙ after_none (f x) (flat f (drop (i + 1) xs)) (sym e)) ∙ h

pub flat_some : (f : Made → List Made) (xs : List Made) (i : ℕ) (x : Made) (ms : List ℤ) → i < length xs → x ≡ get_or xs i x → contradiction_of (flat f (drop i xs)) ≡ contradiction_of (flat f xs) →
    Some ms ≡ contradiction_of (f x) → Some ms ≡ contradiction_of (flat f xs)
flat_some f xs i x ms lt at h e = sym (at_some (f x) (flat f (drop (i + 1) xs)) ms (sym e)) ∙ sym (ap contradiction_of (flat_next f xs i x lt at)) ∙ h

-- the loop over places

module _ (k : ℕ) (p : Made) (all : List Made) (below : List ℕ) (are : below ≡ places_below k 0 all) where
  here : (j : ℕ) (n : Made) → j < length below → n ≡ get_or all (get_or below j 0) n → combined_at k p all (drop j below) ≡ (combine k p n ∷ []) ++ combined_at k p all (drop (j + 1) below)
  here j n lt at =
      let i = get_or below j 0 in
      let named : get_or all i p ≡ n = get_or_default all i p n (place_at k p all below are j lt).0 ∙ sym at in
      ap (combined_at k p all) (drop_more below j 0 lt) ∙ ap (λ (z : Made). combine k p z ∷ combined_at k p all (drop (j + 1) below)) named

  whole : contradiction_of (combined_at k p all below) ≡ contradiction_of (with_each k p all)
  whole = ap contradiction_of (ap (combined_at k p all) are ∙ combined_places k p all 0 all refl)

  pub places_none : (j : ℕ) (n : Made) → j < length below → n ≡ get_or all (get_or below j 0) n → contradiction_of (combined_at k p all (drop j below)) ≡ contradiction_of (combined_at k p all below) →
      None ≡ contradiction_of (combine k p n ∷ []) → contradiction_of (combined_at k p all (drop (j + 1) below)) ≡ contradiction_of (combined_at k p all below)
  places_none j n lt at h e = sym (ap contradiction_of (here j n lt at) ∙ after_none (combine k p n ∷ []) (combined_at k p all (drop (j + 1) below)) (sym e)) ∙ h

  pub places_some : (j : ℕ) (n : Made) (ms : List ℤ) → j < length below → n ≡ get_or all (get_or below j 0) n → contradiction_of (combined_at k p all (drop j below)) ≡ contradiction_of (combined_at k p all below) →
      Some ms ≡ contradiction_of (combine k p n ∷ []) → Some ms ≡ contradiction_of (with_each k p all)
  places_some j n ms lt at h e =
      sym (at_some (combine k p n ∷ []) (combined_at k p all (drop (j + 1) below)) ms (sym e)) ∙ sym (ap contradiction_of (here j n lt at)) ∙ h ∙ whole

  pub places_done : (j : ℕ) → length below ≤ j → contradiction_of (combined_at k p all (drop j below)) ≡ contradiction_of (combined_at k p all below) → None ≡ contradiction_of (with_each k p all)
  places_done j past h = sym (ap (λ (z : List ℕ). contradiction_of (combined_at k p all z)) (drop_all j below past)) ∙ h ∙ whole

  pub places_fail : (j : ℕ) (n : Made) (e : Fault) → j < length below → n ≡ get_or all (get_or below j 0) n → FaultIs (CombineFits k p n) e → FaultIs (AllByRecursion (PairFits k p) all) e
  places_fail j n e lt at h =
      let i = get_or below j 0 in
      let q = place_at k p all below are j lt in
      let named : get_or all i p ≡ n = get_or_default all i p n q.0 ∙ sym at in
      fault_moves (CombineFits k p n) (AllByRecursion (PairFits k p) all) e
      (λ fits. all_at (PairFits k p) all i n q.0 at fits (ap (is_under k) (sym named) ∙ q.1)) h

-- the rows that are kept and then the combinations

-- rows with small numbers are looked at one by one, since no combination of theirs leaves the range

bounded : (z : ℤ) → is_small z ≡ true → IsWithin (2 ^ 62) z
bounded z h = let e = and_parts (int_le z SMALL) (int_le (neg_ℤ SMALL) z) h in grind (arith, ints)

all_bounded : (zs : List ℤ) → list_all is_small zs ≡ true → AreWithin (2 ^ 62) zs
all_bounded [] h = tt
all_bounded (z ∷ zs) h = let e = and_parts (is_small z) (list_all is_small zs) h in (bounded z e.0, all_bounded zs e.1)

small_within : (r : Made) → is_small_made r ≡ true → MadeWithin (2 ^ 62) r
small_within r h =
    let e = and_parts (is_small_row r.row) (list_all is_small r.multipliers) h in
    let f = and_parts (list_all is_small r.row.coefficients) (is_small r.row.constant) e.0 in
    record { row = record { constant = bounded r.row.constant f.1; coefficients = all_bounded r.row.coefficients f.0 }; multipliers = all_bounded r.multipliers e.1 }

all_small_within : (rs : List Made) → list_all is_small_made rs ≡ true → AllByRecursion (MadeWithin (2 ^ 62)) rs
all_small_within [] h = tt
all_small_within (r ∷ rs) h = let e = and_parts (is_small_made r) (list_all is_small_made rs) h in (small_within r e.0, all_small_within rs e.1)

module _ (k : ℕ) (rows : List Made) (count : ℕ) (small : list_all is_small_made rows ≡ true) (room : CountIs k rows (Ok count)) where
  small_fits : EliminationFits k rows
  small_fits =
      let within = all_small_within rows small in
      let e = room.0 in
      let m = room.1 in
      (all_pairs_fit (2 ^ 62) k rows rows (omega arith) within within, omega arith)

  pub kept_some : (ms : List ℤ) → Some ms ≡ contradiction_of (flat (kept_of k) rows) → EliminationFits k rows × (Some ms ≡ contradiction_of (eliminated k rows))
  kept_some ms e = (small_fits, sym (at_some (flat (kept_of k) rows) (flat (combined_of k rows) rows) ms (sym e)))

  pub kept_none : (found : Result (Option (List ℤ)) Fault) → None ≡ contradiction_of (flat (kept_of k) rows) →
      Unless (contradiction_of (flat (combined_of k rows) rows)) (AllByRecursion (AllPairsFit k rows) rows) found → SettleIs (contradiction_of (eliminated k rows)) (EliminationFits k rows) found
  kept_none (Ok c) e h = (small_fits, h ∙ sym (after_none (flat (kept_of k) rows) (flat (combined_of k rows) rows) (sym e)))
  kept_none (Err x) e h = fault_moves (AllByRecursion (AllPairsFit k rows) rows) (EliminationFits k rows) x (λ fits. fits.0) h
