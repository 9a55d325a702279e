-- Without loops the need pays every edge, and each of its rows is owed.
use Rattle.std.proofs.Common.{◌≡◌, ℕ, suc, zero, List, [], ◌∷◌, ◌++◌, sym, refl, subst, cond, Bool, true, false, inl, inr, ℤ, pos, ◌≤ℤ◌}
use Rattle.std.specs.Prelude.{◌⊎◌, not, filter}
use Rattle.std.specs.List.{AllByRecursion as Each}
use Rattle.pc_rows.specs.Linear.{Linear, Meets, MeetsAll}
use Rattle.pc_rows.specs.Joins.{is_covered, with_row, joined}
use Rattle.pc_rows.proofs.Carrying.{substitution_is_exact}
use Rattle.pc_rows.proofs.First.{value_of_first}
use Rattle.pc_rows.proofs.Joining.{covered_is_met, each_join, each_left, each_right}
use Rattle.pc_language.specs.Ends.{end_of}
use Rattle.pc_rows.specs.Linear.{State}
use Rattle.pc_flow.specs.declared.point.PointInfo.{PointInfo}
use Rattle.pc_flow.specs.declared.what.What.{What}
use Rattle.pc_flow.specs.declared.what.What.TheVariants.{Enter, Test, Set, Check}
use Rattle.pc_flow.specs.Arc.{Arc}
use Rattle.pc_flow.specs.Carry.{back_all, owes, test_rows, HasVariable, Pays}
use Rattle.pc_flow.specs.Exact.{PointRows}
use Rattle.pc_flow.specs.Lists.{In}
use Rattle.pc_flow.specs.Shape.{NoHeads, LeadsUp}
use Rattle.pc_flow.specs.Walk.{Pass}
use Rattle.pc_flow.proofs.Carrying.{chosen_ordered}
use Rattle.pc_flow.proofs.Lists.{each_at, each_in, in_either}
use Rattle.pc_flow.proofs.Assigning.{has_variable}
use Rattle.pc_flow.specs.Annotation.{rows_at}
use Rattle.pc_lower.specs.Annotation.{is_head}
use Rattle.pc_flow.specs.Incidence.{leaving}
use Rattle.pc_lower.specs.Need.{demanded, gathered, need}
use Rattle.pc_lower.specs.Laws.{NeedIsPaid, NeedIsOwed}
use Rattle.pc_lower.proofs.Agreeing.{each_leaving}
use Rattle.pc_lower.proofs.Covering.{annotation_covers}
use Rattle.pc_lower.proofs.Meaning.{need_is}

pub no_head : (points : List PointInfo) (p : ℕ) → NoHeads points → is_head points p ≡ false
no_head [] p h = refl
no_head (point ∷ points) zero h = h.0
no_head (point ∷ points) (suc p) h = no_head points p h.1

-- rows that are covered are met
covered_met : (s : State) (rows owed : List Linear) → Each (λ r. is_covered r rows ≡ true) owed → MeetsAll s rows → MeetsAll s owed
covered_met s rows [] h m = tt
covered_met s rows (r ∷ owed) h m = (covered_is_met r rows s h.0 m, covered_met s rows owed h.1 m)

-- the states after an edge meet the rows at its target where the state before meets them carried back

pub passes : (w : What) (s t : State) (rows : List Linear) → HasVariable w s → Pass w s t → MeetsAll s (back_all w rows) → MeetsAll t rows
passes w s t [] has pass m = tt
passes (Enter params) s t (r ∷ rows) has pass m =
    (subst (λ (z : State). Meets z r) (sym pass) (subst (λ (z : ℤ). pos 0 ≤ℤ z) (value_of_first params r s) m.0), passes (Enter params) s t rows has pass m.1)
passes (Test own) s t (r ∷ rows) has pass m = (subst (λ (z : State). Meets z r) (sym pass.1) m.0, passes (Test own) s t rows has pass m.1)
passes (Check own) s t (r ∷ rows) has pass m = (subst (λ (z : State). Meets z r) (sym pass.1) m.0, passes (Check own) s t rows has pass m.1)
passes (Set x form lo hi) s t (r ∷ rows) has pass m =
    let low = pass.1 in
    let high = pass.2 in
    let ordered = chosen_ordered (end_of lo) (end_of hi) pass.0 low high in (
      subst (λ (z : State). Meets z r) (sym pass.3) ((substitution_is_exact r form x (end_of lo) (end_of hi) s has ordered).0 m.0 pass.0 low high),
      passes (Set x form lo hi) s t rows has pass m.1,
    )

-- who meets the rows of a point pays an edge from it whose owed rows they cover with those of its test
pub pays : (w : What) (s : State) (rows target : List Linear) → HasVariable w s → Each (λ r. is_covered r (rows ++ test_rows w) ≡ true) (owes w target) → MeetsAll s rows →
    Pays w s target
pays (Enter params) s rows target has h m =
    let met = covered_met s (rows ++ []) (owes (Enter params) target) h (each_join (Meets s) rows [] m tt) in
    record { keeps = tt; passes = λ t pass. passes (Enter params) s t target has pass met }
pays (Set x form lo hi) s rows target has h m =
    let met = covered_met s (rows ++ []) (owes (Set x form lo hi) target) h (each_join (Meets s) rows [] m tt) in
    record { keeps = tt; passes = λ t pass. passes (Set x form lo hi) s t target has pass met }
pays (Test own) s rows target has h m =
    record {
      keeps = tt;
      passes = λ t pass.
          passes (Test own) s t target has pass (covered_met s (rows ++ own) (owes (Test own) target) h (each_join (Meets s) rows own m pass.0));
    }
pays (Check own) s rows target has h m =
    let met = covered_met s (rows ++ []) (own ++ target) h (each_join (Meets s) rows [] m tt) in
    record {
      keeps = each_left (Meets s) own target met;
      passes = λ t pass. subst (λ (z : State). MeetsAll z target) (sym pass.1) (each_right (Meets s) own target met);
    }

pub need_is_paid : NeedIsPaid
need_is_paid g heads is none e m s long met =
    let a = rows_at (need g heads) in
    let leads = each_at (LeadsUp g.points g.variables) g.edges e is.leads m in
    pays e.what s (a e.from) (a e.to) (has_variable g.variables e.what s leads.over long)
    (annotation_covers g heads is e m (no_head g.points e.from none)) met

-- each row is owed

in_with : (rows : List Linear) (r q : Linear) (t : Bool) → In q (cond t rows (rows ++ r ∷ [])) → In q rows ⊎ (q ≡ r)
in_with rows r q true m = inl m
in_with rows r q false m = by (in_either q rows (r ∷ []) m)
  where
    by : In q rows ⊎ In q (r ∷ []) → In q rows ⊎ (q ≡ r)
    by (inl k) = inl k
    by (inr (inl k)) = inr k
    by (inr (inr k)) = absurd k

in_joined : (a b : List Linear) (q : Linear) → In q (joined a b) → In q a ⊎ In q b
in_joined a [] q m = inl m
in_joined a (r ∷ b) q m = by (in_joined (with_row a r) b q m)
  where
    or_first : In q a ⊎ (q ≡ r) → In q a ⊎ In q (r ∷ b)
    or_first (inl k) = inl k
    or_first (inr k) = inr (inl k)

    by : In q (with_row a r) ⊎ In q b → In q a ⊎ In q (r ∷ b)
    by (inl k) = or_first (in_with a r q (is_covered r a) k)
    by (inr k) = inr (inr k)

in_filter : (test : Linear → Bool) (rows : List Linear) (q : Linear) → In q (filter test rows) → In q rows
in_filter test [] q m = m
in_filter test (r ∷ rows) q m = by (test r) m (λ k. in_filter test rows q k)
  where
    by : (t : Bool) → In q (cond t (r ∷ filter test rows) (filter test rows)) → (In q (filter test rows) → In q rows) → In q (r ∷ rows)
    by true (inl k) go = inl k
    by true (inr k) go = inr (go k)
    by false k go = inr (go k)

in_demanded : (w : What) (rows : List Linear) (q : Linear) → In q (demanded w rows) → In q (owes w rows)
in_demanded (Test own) rows q m = in_filter (λ r. not (is_covered r own)) (owes (Test own) rows) q m
in_demanded (Enter params) rows q m = m
in_demanded (Set x form lo hi) rows q m = m
in_demanded (Check own) rows q m = m

-- a row that is gathered was there or is asked for by one of the edges
in_gathered : (a : PointRows) (rows : List Linear) (edges : List Arc) (q : Linear) → In q (gathered a rows edges) → In q rows ⊎ ((e : Arc) × In e edges × In q (demanded e.what (a e.to)))
in_gathered a rows [] q m = inl m
in_gathered a rows (e ∷ edges) q m = by (in_gathered a (joined rows (demanded e.what (a e.to))) edges q m)
  where
    first : In q rows ⊎ In q (demanded e.what (a e.to)) → In q rows ⊎ ((f : Arc) × In f (e ∷ edges) × In q (demanded f.what (a f.to)))
    first (inl k) = inl k
    first (inr k) = inr (e, inl refl, k)

    by : In q (joined rows (demanded e.what (a e.to))) ⊎ ((f : Arc) × In f edges × In q (demanded f.what (a f.to))) →
        In q rows ⊎ ((f : Arc) × In f (e ∷ edges) × In q (demanded f.what (a f.to)))
    by (inl k) = first (in_joined rows (demanded e.what (a e.to)) q k)
    by (inr k) = inr (k.0, inr k.1, k.2)

pub need_is_owed : NeedIsOwed
need_is_owed g heads is none p r m = by (in_gathered a [] (leaving p g.edges) r (subst (In r) ((need_is g is.leads heads).needed p (no_head g.points p none)) m))
  where
    a : PointRows
    a = rows_at (need g heads)

    by : In r [] ⊎ ((e : Arc) × In e (leaving p g.edges) × In r (demanded e.what (a e.to))) → (e : Arc) × In e g.edges × (e.from ≡ p) × In r (owes e.what (a e.to))
    by (inl k) = absurd k
    by (inr k) =
        let from = each_at (λ e. (e.from ≡ p) × In e g.edges) (leaving p g.edges) k.0 (each_leaving (λ e. In e g.edges) p g.edges (each_in g.edges)) k.1 in
        (k.0, from.1, from.0, in_demanded k.0.what (a k.0.to) r k.2)
