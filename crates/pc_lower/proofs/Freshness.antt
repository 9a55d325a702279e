-- Points that have what they need for the rows at the targets of their edges.
use Rattle.std.proofs.Common.{◌≡◌, ◌∙◌, ℕ, suc, zero, ◌+◌, ◌<◌, ◌≤◌, List, [], ◌∷◌, ◌++◌, length, set, sym, refl, ap, subst, cond, Bool, true, false, arith, inl, inr}
use Rattle.std.specs.Prelude.{◌⊎◌, nat_lt}
use Rattle.std.specs.List.{AllByRecursion as Each}
use Rattle.std.proofs.lemmas.Bool.Decides.{nat_tests}
use Rattle.std.proofs.lemmas.List.{get_or-set_same, get_or-set_other, get_or_past}
use Rattle.pc_rows.proofs.Joining.{each_join}
use Rattle.pc_rows.specs.Linear.{Linear}
use Rattle.pc_flow.specs.declared.point.PointInfo.{PointInfo}
use Rattle.pc_flow.specs.Flow.{Flow}
use Rattle.pc_flow.specs.Shape.{LeadsUp}
use Rattle.pc_lower.specs.declared.fault.CandidateFault.{CandidateFault}
use Rattle.pc_flow.specs.Annotation.{rows_at}
use Rattle.pc_lower.specs.Annotation.{is_head}
use Rattle.pc_flow.specs.Incidence.{leaving}
use Rattle.pc_lower.specs.Need.{needed_at, at_heads, need}
use Rattle.pc_lower.specs.Operations.{Operation, Fits, IsFirstFault, edges_operations, point_operations}
use Rattle.pc_lower.specs.Course.{operations_between}
use Rattle.pc_lower.specs.Fresh.{IsFresh}
use Rattle.pc_lower.proofs.Agreeing.{AgreeAbove, agree_leaving, gathered_alike, operations_alike}
use Rattle.pc_lower.proofs.Answering.{fault_after, fault_within}
use Rattle.pc_lower.proofs.Filling.{apart}
use Rattle.pc_lower.proofs.Meaning.{need_is}

-- the rows of heads stay as they are where another point gets rows
pub heads_kept : (points : List PointInfo) (a : List (List Linear)) (p : ℕ) (rows : List Linear) → is_head points p ≡ false → at_heads points (set a p rows) ≡ at_heads points a
heads_kept [] a p rows h = refl
heads_kept (point ∷ points) [] p rows h = refl
heads_kept (point ∷ points) (r ∷ a) zero rows h =
    ap (λ (t : Bool). cond t rows [] ∷ at_heads points a) h ∙ ap (λ (t : Bool). cond t r [] ∷ at_heads points a) (sym h)
heads_kept (point ∷ points) (r ∷ a) (suc p) rows h = ap (λ (z : List (List Linear)). cond point.head r [] ∷ z) (heads_kept points a p rows h)

-- points from p on need the same where p, which is no head, gets other rows
set_agrees : (points : List PointInfo) (a : List (List Linear)) (p q : ℕ) (rows : List Linear) → is_head points p ≡ false → p ≤ q →
    AgreeAbove points q (rows_at a) (rows_at (set a p rows))
set_agrees points a p q rows h le = record {
  above = λ r lt. sym (get_or-set_other a p r rows [] (omega arith));
  heads = λ r head. sym (get_or-set_other a p r rows [] (apart points p r h head));
}

-- which operations there are at a point
other_operations : (g : Flow) (a : ℕ → List Linear) (p : ℕ) → is_head g.points p ≡ false → point_operations g a p ≡ edges_operations a [] (leaving p g.edges)
other_operations g a p h = ap (λ (t : Bool). cond t [] (edges_operations a [] (leaving p g.edges))) h

head_operations : (g : Flow) (a : ℕ → List Linear) (p : ℕ) → is_head g.points p ≡ true → point_operations g a p ≡ []
head_operations g a p h = ap (λ (t : Bool). cond t [] (edges_operations a [] (leaving p g.edges))) h

module _ (g : Flow) (leads : Each (LeadsUp g.points g.variables) g.edges) where
  needs_alike : (a b : ℕ → List Linear) (p : ℕ) → AgreeAbove g.points p a b → needed_at g.edges a p ≡ needed_at g.edges b p
  needs_alike a b p h = gathered_alike a b [] (leaving p g.edges) (agree_leaving g.points g.variables p a b g.edges leads h)

  points_alike : (a b : ℕ → List Linear) (p : ℕ) → AgreeAbove g.points p a b → point_operations g a p ≡ point_operations g b p
  points_alike a b p h =
      ap (λ (z : List Operation). cond (is_head g.points p) [] z) (operations_alike a b [] (leaving p g.edges) (agree_leaving g.points g.variables p a b g.edges leads h))

  -- a point that is filled is up to date, as are those after it

  pub fresh_head : (a : List (List Linear)) (p : ℕ) → is_head g.points p ≡ true → IsFresh g (suc p) a → IsFresh g p a
  fresh_head a p h fresh = record {
    rows = λ q le other. fresh.rows q (let apart = apart g.points q p other h in omega arith) other;
    fit = λ q le. by q (let either : (q ≡ p) ⊎ (suc p ≤ q) = grind arith in either);
  }
    where
      by : (q : ℕ) → (q ≡ p) ⊎ (suc p ≤ q) → Each Fits (point_operations g (rows_at a) q)
      by q (inl e) = subst (Each Fits) (sym (ap (point_operations g (rows_at a)) e ∙ head_operations g (rows_at a) p h)) tt
      by q (inr le) = fresh.fit q le

  module _ (a : List (List Linear)) (p : ℕ) (other : is_head g.points p ≡ false) (rows : List Linear) (fresh : IsFresh g (suc p) a) (within : p < length a)
      (is : rows ≡ needed_at g.edges (rows_at a) p) (fit : Each Fits (edges_operations (rows_at a) [] (leaving p g.edges))) where
    abbrev new : List (List Linear)
    new = set a p rows

    filled_rows : (q : ℕ) → (q ≡ p) ⊎ (suc p ≤ q) → is_head g.points q ≡ false → rows_at new q ≡ needed_at g.edges (rows_at new) q
    filled_rows q (inl e) h =
        ap (rows_at new) e ∙ get_or-set_same a p rows [] within ∙ is ∙ needs_alike (rows_at a) (rows_at new) p (set_agrees g.points a p p rows other (omega arith)) ∙ ap (needed_at g.edges (rows_at new)) (sym e)
    filled_rows q (inr le) h =
        get_or-set_other a p q rows [] (omega arith) ∙ fresh.rows q le h ∙ needs_alike (rows_at a) (rows_at new) q (set_agrees g.points a p q rows other (omega arith))

    filled_fit : (q : ℕ) → (q ≡ p) ⊎ (suc p ≤ q) → Each Fits (point_operations g (rows_at new) q)
    filled_fit q (inl e) =
        subst (Each Fits) (sym (other_operations g (rows_at a) p other) ∙ points_alike (rows_at a) (rows_at new) p (set_agrees g.points a p p rows other (omega arith)) ∙ ap (point_operations g (rows_at new)) (sym e)) fit
    filled_fit q (inr le) =
        subst (Each Fits) (points_alike (rows_at a) (rows_at new) q (set_agrees g.points a p q rows other (omega arith))) (fresh.fit q le)

    pub fresh_filled : IsFresh g p new
    fresh_filled = record {
      rows = λ q le h. filled_rows q (let either : (q ≡ p) ⊎ (suc p ≤ q) = grind arith in either) h;
      fit = λ q le. filled_fit q (let either : (q ≡ p) ⊎ (suc p ≤ q) = grind arith in either);
    }

  -- rows that are up to date are those of the need

  module _ (a : List (List Linear)) (long : length a ≡ length g.points) where
    fresh_from : (n q : ℕ) → IsFresh g q a → length g.points ≤ q + n → is_head g.points q ≡ false → rows_at a q ≡ rows_at (need g a) q
    fresh_from zero q fresh le h =
        get_or_past a q [] (omega arith) ∙ sym (get_or_past (need g a) q [] (let e = (need_is g leads a).long in omega arith))
    fresh_from (suc n) q fresh le h =
        fresh.rows q (omega arith) h
        ∙ needs_alike (rows_at a) (rows_at (need g a)) q (record { above = λ r lt. by (is_head g.points r) r refl (λ k. fresh_from n r (later r lt) (omega arith) k); heads = λ r k. sym ((need_is g leads a).given r k) })
        ∙ sym ((need_is g leads a).needed q h)
      where
        later : (r : ℕ) → q < r → IsFresh g r a
        later r lt = record { rows = λ p le. fresh.rows p (omega arith); fit = λ p le. fresh.fit p (omega arith) }

        by : (t : Bool) (r : ℕ) → is_head g.points r ≡ t → (is_head g.points r ≡ false → rows_at a r ≡ rows_at (need g a) r) → rows_at a r ≡ rows_at (need g a) r
        by true r e go = sym ((need_is g leads a).given r e)
        by false r e go = go e

    pub fresh_is_need : (n : ℕ) → IsFresh g n a → (q : ℕ) → n ≤ q → rows_at a q ≡ rows_at (need g a) q
    fresh_is_need n fresh q le = by (is_head g.points q) refl
      where
        by : (t : Bool) → is_head g.points q ≡ t → rows_at a q ≡ rows_at (need g a) q
        by true e = sym ((need_is g leads a).given q e)
        by false e = fresh_from (length g.points) q (record { rows = λ p k. fresh.rows p (omega arith); fit = λ p k. fresh.fit p (omega arith) }) (omega arith) e

    pub agree_need : (n : ℕ) → IsFresh g (suc n) a → AgreeAbove g.points n (rows_at a) (rows_at (need g a))
    agree_need n fresh = record { above = λ q lt. fresh_is_need (suc n) fresh q (omega arith); heads = λ q h. sym ((need_is g leads a).given q h) }

    -- the operations at points that are up to date can be carried out; so the first that cannot is at a point before them
    fault_below : (f : CandidateFault) (low p : ℕ) → IsFresh g p a → low ≤ p → (n : ℕ) → p ≤ n → IsFirstFault f (operations_between g (rows_at (need g a)) low p) →
        IsFirstFault f (operations_between g (rows_at (need g a)) low n)
    fault_below f low p fresh low_le zero le h = subst (λ (m : ℕ). IsFirstFault f (operations_between g (rows_at (need g a)) low m)) (let e : p ≡ zero = omega arith in e) h
    fault_below f low p fresh low_le (suc n) le h = by (let either : (p ≡ suc n) ⊎ (p ≤ n) = grind arith in either) (λ k. fault_below f low p fresh low_le n k h)
      where
        here : p ≤ n → Each Fits (point_operations g (rows_at (need g a)) n)
        here k =
            subst (Each Fits) (points_alike (rows_at a) (rows_at (need g a)) n (agree_need n (record { rows = λ q le. fresh.rows q (omega arith); fit = λ q le. fresh.fit q (omega arith) })))
            (fresh.fit n k)

        by : (p ≡ suc n) ⊎ (p ≤ n) → (p ≤ n → IsFirstFault f (operations_between g (rows_at (need g a)) low n)) → IsFirstFault f (operations_between g (rows_at (need g a)) low (suc n))
        by (inl e) go = subst (λ (m : ℕ). IsFirstFault f (operations_between g (rows_at (need g a)) low m)) e h
        by (inr k) go =
            let within : nat_lt n low ≡ false = grind (arith, nat_tests) in
            subst (λ (t : Bool). IsFirstFault f (cond t [] (point_operations g (rows_at (need g a)) n ++ operations_between g (rows_at (need g a)) low n))) (sym within)
            (fault_after f (point_operations g (rows_at (need g a)) n) (operations_between g (rows_at (need g a)) low n) (here k) (go k))

    pub fault_here : (f : CandidateFault) (low p : ℕ) → IsFresh g (suc p) a → low ≤ p → suc p ≤ length g.points → is_head g.points p ≡ false →
        IsFirstFault f (edges_operations (rows_at a) [] (leaving p g.edges)) → IsFirstFault f (operations_between g (rows_at (need g a)) low (length g.points))
    fault_here f low p fresh le lt other h =
        let within : nat_lt p low ≡ false = grind (arith, nat_tests) in
        let at_point = subst (IsFirstFault f) (sym (other_operations g (rows_at a) p other) ∙ points_alike (rows_at a) (rows_at (need g a)) p (agree_need p fresh)) h in
        fault_below f low (suc p) fresh (omega arith) (length g.points) lt
        (subst (λ (t : Bool). IsFirstFault f (cond t [] (point_operations g (rows_at (need g a)) p ++ operations_between g (rows_at (need g a)) low p))) (sym within)
        (fault_within f (point_operations g (rows_at (need g a)) p) (operations_between g (rows_at (need g a)) low p) at_point))

    -- all operations at points that are up to date can be carried out
    pub fresh_fits : (low : ℕ) → IsFresh g low a → (n : ℕ) → Each Fits (operations_between g (rows_at (need g a)) low n)
    fresh_fits low fresh zero = tt
    fresh_fits low fresh (suc n) = by (nat_lt n low) refl (fresh_fits low fresh n)
      where
        by : (t : Bool) → nat_lt n low ≡ t → Each Fits (operations_between g (rows_at (need g a)) low n) →
            Each Fits (cond t [] (point_operations g (rows_at (need g a)) n ++ operations_between g (rows_at (need g a)) low n))
        by true e go = tt
        by false e go =
            let le : low ≤ n = grind (arith, nat_tests) in
            let here =
            subst (Each Fits) (points_alike (rows_at a) (rows_at (need g a)) n (agree_need n (record { rows = λ q k. fresh.rows q (omega arith); fit = λ q k. fresh.fit q (omega arith) })))
            (fresh.fit n le) in
            each_join Fits (point_operations g (rows_at (need g a)) n) (operations_between g (rows_at (need g a)) low n) here go
