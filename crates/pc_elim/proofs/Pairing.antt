-- The rows with a negative factor, by their places: how many rows are made, and which.
use Rattle.std.proofs.Common.{◌≡◌, ℕ, zero, suc, ◌+◌, ◌*◌, ◌^◌, ◌<◌, ◌≤◌, refl, sym, subst, ◌∙◌, ap, arith, List, [], ◌∷◌, ◌++◌, Bool, true, false, cond, length, length-append, drop, get_or, append_assoc, Ok, Err}
use Rattle.std.specs.Prelude.{count_by}
use Rattle.std.specs.List.{AllByRecursion}
use Rattle.std.proofs.lemmas.List.{drop_more, drop_all, get_or_default, append-nil}
use Rattle.pc_rows.proofs.Joining.{each_join, each_left, each_right}
use Rattle.pc_elim.specs.declared.made.Fault.{Fault}
use Rattle.pc_elim.specs.declared.made.Fault.TheVariants.{Past, Full, NoMemory}
use Rattle.pc_elim.specs.declared.made.TheConstants.{LIMIT}
use Rattle.pc_elim.specs.Elimination.{Made, combine, flat, pair_of, with_each, kept_of, combined_of, eliminated}
use Rattle.pc_elim.specs.Places.{place_of, places_below, combined_at}
use Rattle.pc_elim.specs.Fits.{CombineFits, PairFits, AllPairsFit, EliminationFits}
use Rattle.pc_elim.specs.Steps.{Adds, CountIs, FaultIs}
use Rattle.pc_elim.proofs.Adding.{all_at}
use Rattle.pc_elim.proofs.Counting.{one_if, is_free, is_over, is_under, count_more, length-eliminated, eliminated_room}

-- how many rows are made

length-places : (k i : ℕ) (rs : List Made) → length (places_below k i rs) ≡ count_by (is_under k) rs
length-places k i [] = refl
length-places k i (r ∷ rs) =
    let e = length-append (place_of k i r) (places_below k (i + 1) rs) in
    let f = one (is_under k r) in
    let g = length-places k (i + 1) rs in
    let c = count_more (is_under k) r rs in
    omega arith
  where
    one : (t : Bool) → length (cond t (i ∷ []) []) ≡ one_if t
    one true = refl
    one false = refl

module _ (k : ℕ) (rows : List Made) (free over below : ℕ) (most : length rows ≤ LIMIT)
    (free_is : free ≡ count_by (is_free k) rows) (over_is : over ≡ count_by (is_over k) rows) (places : below ≡ length (places_below k 0 rows)) where
  pub count_is : free + over * below ≡ length (eliminated k rows)
  count_is =
      let e = places ∙ length-places k 0 rows in
      let l = length-eliminated k rows in
      rw (free_is, over_is, e) (sym l)

  pub count_small : free + over * below < 2 ^ 64
  count_small = let e = count_is in let r = eliminated_room k rows 13122 (omega arith) (omega arith) in omega arith

-- no more rows are made than there is room for
pub made_most : (k count : ℕ) (rows out kept new : List Made) → CountIs k rows (Ok count) → out ≡ [] → kept ≡ out ++ flat (kept_of k) rows → AllByRecursion (AllPairsFit k rows) rows × (new ≡ kept ++ flat (combined_of k rows) rows) →
    (EliminationFits k rows × (new ≡ eliminated k rows)) × length new ≤ LIMIT
made_most k count rows out kept new room none first more =
    let e = more.1 ∙ ap (λ (z : List Made). z ++ flat (combined_of k rows) rows) (first ∙ ap (λ (z : List Made). z ++ flat (kept_of k) rows) none) in
    let l = ap (length {A = Made}) e in
    let c = room.0 in
    let m = room.1 in
    (((more.0, omega arith), e), omega arith)

pub count_fails : (k : ℕ) (rows : List Made) (e : Fault) → CountIs k rows (Err e) → FaultIs (EliminationFits k rows) e
count_fails k rows Full h = λ fits. let f = fits.1 in omega arith
count_fails k rows Past h = absurd h
count_fails k rows NoMemory h = tt

-- rows that are kept always fit
pub keep_fails : (items old new : List Made) (F : Type 0) (e : Fault) → Adds items (Unit {0}) old (Err e) new → FaultIs F e
keep_fails items old new F Past h = absurd (h tt)
keep_fails items old new F Full h = absurd h
keep_fails items old new F NoMemory h = tt

-- what stands at the places

drop_front : {A : Type 0} (xs : List A) (i : ℕ) (x d : A) (more : List A) → drop i xs ≡ x ∷ more → (i < length xs) × (get_or xs i d ≡ x)
drop_front [] zero x d more e = cc
drop_front [] (suc i) x d more e = cc
drop_front (y ∷ xs) zero x d more e = (omega arith, cc)
drop_front (y ∷ xs) (suc i) x d more e = let q = drop_front xs i x d more e in (omega arith, q.1)

drop_rest : {A : Type 0} (xs : List A) (i : ℕ) (x : A) (more : List A) → drop i xs ≡ x ∷ more → drop (i + 1) xs ≡ more
drop_rest xs i x more e = let s : i + 1 ≡ suc i = omega arith in ap (λ (n : ℕ). drop n xs) s ∙ tail xs i x more e
  where
    tail : {A : Type 0} (xs : List A) (i : ℕ) (x : A) (more : List A) → drop i xs ≡ x ∷ more → drop (suc i) xs ≡ more
    tail [] zero x more e = cc
    tail [] (suc i) x more e = cc
    tail (y ∷ xs) zero x more e = cc
    tail (y ∷ xs) (suc i) x more e = tail xs i x more e

module _ (k : ℕ) (p : Made) (all : List Made) where
  -- a place of the list, at which the variable has a negative factor
  abbrev pub IsPlace : ℕ → Type 0
  IsPlace i = (i < length all) × (is_under k (get_or all i p) ≡ true)

  places_are : (i : ℕ) (rs : List Made) → drop i all ≡ rs → AllByRecursion IsPlace (places_below k i rs)
  places_are i [] e = tt
  places_are i (r ∷ rs) e = each_join IsPlace (place_of k i r) (places_below k (i + 1) rs) (one (is_under k r) refl) (places_are (i + 1) rs (drop_rest all i r rs e))
    where
      one : (t : Bool) → is_under k r ≡ t → AllByRecursion IsPlace (cond t (i ∷ []) [])
      one true u = let q = drop_front all i r p rs e in ((q.0, ap (is_under k) q.1 ∙ u), tt)
      one false u = tt

  combined-join : (is js : List ℕ) → combined_at k p all (is ++ js) ≡ combined_at k p all is ++ combined_at k p all js
  combined-join [] js = refl
  combined-join (i ∷ is) js = ap (λ (z : List Made). combine k p (get_or all i p) ∷ z) (combined-join is js)

  pub combined_places : (i : ℕ) (rs : List Made) → drop i all ≡ rs → combined_at k p all (places_below k i rs) ≡ with_each k p rs
  combined_places i [] e = refl
  combined_places i (r ∷ rs) e =
      combined-join (place_of k i r) (places_below k (i + 1) rs)
      ∙ ap (λ (z : List Made). z ++ combined_at k p all (places_below k (i + 1) rs)) (one (is_under k r))
      ∙ ap (λ (z : List Made). pair_of k p r ++ z) (combined_places (i + 1) rs (drop_rest all i r rs e))
    where
      one : (t : Bool) → combined_at k p all (cond t (i ∷ []) []) ≡ cond t (combine k p r ∷ []) []
      one true = ap (λ (z : Made). combine k p z ∷ []) (drop_front all i r p rs e).1
      one false = refl

  -- the combinations with the rows at these places
  abbrev pub AllFitAt : List ℕ → Type 0
  AllFitAt places = AllByRecursion (λ i. CombineFits k p (get_or all i p)) places

  fit_places : (i : ℕ) (rs : List Made) → drop i all ≡ rs → AllFitAt (places_below k i rs) → AllByRecursion (PairFits k p) rs
  fit_places i [] e h = tt
  fit_places i (r ∷ rs) e h = (
    one (is_under k r) refl (each_left (λ i. CombineFits k p (get_or all i p)) (place_of k i r) (places_below k (i + 1) rs) h),
    fit_places (i + 1) rs (drop_rest all i r rs e) (each_right (λ i. CombineFits k p (get_or all i p)) (place_of k i r) (places_below k (i + 1) rs) h),
  )
    where
      one : (t : Bool) → is_under k r ≡ t → AllFitAt (cond t (i ∷ []) []) → PairFits k p r
      one true u f = λ _. subst (CombineFits k p) (drop_front all i r p rs e).1 f.0
      one false u f = λ v. cc

  module _ (below : List ℕ) (are : below ≡ places_below k 0 all) where
    pub place_at : (j : ℕ) → j < length below → IsPlace (get_or below j 0)
    place_at j lt = at below j lt (subst (AllByRecursion IsPlace) (sym are) (places_are 0 all refl))
      where
        at : (is : List ℕ) (j : ℕ) → j < length is → AllByRecursion IsPlace is → IsPlace (get_or is j 0)
        at [] j lt h = absurd (omega arith)
        at (i ∷ is) zero lt h = h.0
        at (i ∷ is) (suc j) lt h = at is j (omega arith) h.1

    pub place_within : (j : ℕ) → j < length below → get_or below j 0 < length all
    place_within j lt = (place_at j lt).0

    pub pairs_done : (out old : List Made) (j : ℕ) → length below ≤ j → (AllFitAt (drop j below) → AllFitAt below) → out ++ combined_at k p all (drop j below) ≡ old ++ combined_at k p all below →
        AllByRecursion (PairFits k p) all × (out ≡ old ++ with_each k p all)
    pairs_done out old j past fits h = (
      fit_places 0 all refl (subst AllFitAt are (fits (subst AllFitAt (sym (drop_all j below past)) tt))),
      sym (append-nil out)
          ∙ ap (λ (z : List ℕ). out ++ combined_at k p all z) (sym (drop_all j below past))
          ∙ h
          ∙ ap (λ (z : List Made). old ++ z) (ap (combined_at k p all) are ∙ combined_places 0 all refl),
    )

    -- one place more
    pub pairs_on : (out old new : List Made) (j : ℕ) (n : Made) → j < length below → n ≡ get_or all (get_or below j 0) n → out ++ combined_at k p all (drop j below) ≡ old ++ combined_at k p all below →
        new ≡ out ++ combine k p n ∷ [] → new ++ combined_at k p all (drop (j + 1) below) ≡ old ++ combined_at k p all below
    pairs_on out old new j n lt at h is =
        let i = get_or below j 0 in
        let named : get_or all i p ≡ n = get_or_default all i p n (place_within j lt) ∙ sym at in
        let opened = drop_more below j 0 lt in
        ap (λ (z : List Made). z ++ combined_at k p all (drop (j + 1) below)) is
        ∙ append_assoc out (combine k p n ∷ []) (combined_at k p all (drop (j + 1) below))
        ∙ ap (λ (z : Made). out ++ combine k p z ∷ combined_at k p all (drop (j + 1) below)) (sym named)
        ∙ ap (λ (z : List ℕ). out ++ combined_at k p all z) (sym opened)
        ∙ h

    pub pairs_fit_on : (j : ℕ) (n : Made) → j < length below → n ≡ get_or all (get_or below j 0) n → (AllFitAt (drop j below) → AllFitAt below) → CombineFits k p n → AllFitAt (drop (j + 1) below) → AllFitAt below
    pairs_fit_on j n lt at fits one rest =
        let named : get_or all (get_or below j 0) p ≡ n = get_or_default all (get_or below j 0) p n (place_within j lt) ∙ sym at in
        fits (subst AllFitAt (sym (drop_more below j 0 lt)) (subst (CombineFits k p) (sym named) one, rest))

    -- a pair that does not fit
    pub pair_fails : (out old new last : List Made) (j : ℕ) (n : Made) (e : Fault) → j < length below → n ≡ get_or all (get_or below j 0) n → Adds (combine k p n ∷ []) (CombineFits k p n) out (Err e) new →
        Adds (with_each k p all) (AllByRecursion (PairFits k p) all) old (Err e) last
    pair_fails out old new last j n Past lt at h = λ fits.
        let i = get_or below j 0 in
        let q = place_at j lt in
        let named : get_or all i p ≡ n = get_or_default all i p n q.0 ∙ sym at in
        h (all_at (PairFits k p) all i n q.0 at fits (ap (is_under k) (sym named) ∙ q.1))
    pair_fails out old new last j n Full lt at h = absurd h
    pair_fails out old new last j n NoMemory lt at h = tt
