-- Which variables the rows of a need have.
use Rattle.std.proofs.Common.{◌≡◌, ℕ, suc, zero, ◌≤◌, List, [], ◌∷◌, length, set, sym, refl, subst, cond, Bool, true, false, arith}
use Rattle.std.specs.Prelude.{not, filter, slice_get, IfSome}
use Rattle.std.specs.List.{AllByRecursion as Each}
use Rattle.pc_rows.specs.Linear.{Linear, IsOver, first_of}
use Rattle.pc_rows.specs.Joins.{is_covered, joined}
use Rattle.pc_rows.proofs.Joining.{each_join, joined_each}
use Rattle.pc_rows.proofs.Only.{first_is_over, substituted_is_over}
use Rattle.pc_language.specs.Ends.{end_of}
use Rattle.pc_flow.specs.declared.point.PointInfo.{PointInfo}
use Rattle.pc_flow.specs.declared.what.What.{What}
use Rattle.pc_flow.specs.declared.what.What.TheVariants.{Enter, Test, Set, Check}
use Rattle.pc_flow.specs.Arc.{Arc, arc}
use Rattle.pc_flow.specs.Carry.{back_all, owes}
use Rattle.pc_flow.specs.Exact.{PointRows}
use Rattle.pc_flow.specs.Flow.{Flow}
use Rattle.pc_flow.specs.Shape.{WhatIsOver, LeadsUp, IsGraph}
use Rattle.pc_flow.proofs.Entries.{to_start}
use Rattle.pc_flow.specs.Annotation.{rows_at}
use Rattle.pc_lower.specs.Annotation.{AreOver, is_head}
use Rattle.pc_flow.specs.Incidence.{leaving}
use Rattle.pc_lower.specs.Need.{demanded, gathered, needed_at, at_heads, filled, filled_below, need}
use Rattle.pc_lower.specs.Laws.{NeedIsComplete}
use Rattle.pc_lower.proofs.Agreeing.{each_leaving}
use Rattle.pc_lower.proofs.Covering.{annotation_covers}
use Rattle.pc_lower.proofs.Meaning.{need_is, need_long}

-- what holds of each row of a list and of each that is asked for holds of each that is gathered
pub gathered_each : (P : Linear → Type 0) (a : PointRows) (rows : List Linear) (edges : List Arc) → Each P rows → Each (λ e. Each P (demanded e.what (a e.to))) edges →
    Each P (gathered a rows edges)
gathered_each P a rows [] h g = h
gathered_each P a rows (e ∷ edges) h g = gathered_each P a (joined rows (demanded e.what (a e.to))) edges (joined_each P rows (demanded e.what (a e.to)) h g.0) g.1

-- the rows of each point, and none where there is no point
pub each_rows_at : (P : List Linear → Type 0) (a : List (List Linear)) (p : ℕ) → P [] → Each P a → P (rows_at a p)
each_rows_at P [] p none h = none
each_rows_at P (rows ∷ a) zero none h = h.0
each_rows_at P (rows ∷ a) (suc p) none h = each_rows_at P a p none h.1

pub each_set : (P : List Linear → Type 0) (a : List (List Linear)) (p : ℕ) (rows : List Linear) → P rows → Each P a → Each P (set a p rows)
each_set P [] p rows h all = tt
each_set P (old ∷ a) zero rows h all = (h, all.1)
each_set P (old ∷ a) (suc p) rows h all = (all.0, each_set P a p rows h all.1)

each_filter : (P : Linear → Type 0) (test : Linear → Bool) (rows : List Linear) → Each P rows → Each P (filter test rows)
each_filter P test [] h = tt
each_filter P test (r ∷ rows) h = by (test r) (each_filter P test rows h.1)
  where
    by : (t : Bool) → Each P (filter test rows) → Each P (cond t (r ∷ filter test rows) (filter test rows))
    by true more = (h.0, more)
    by false more = more

-- rows that are carried back over an edge of a graph

entered_over : (n : ℕ) (rows : List Linear) → Each (IsOver n) (back_all (Enter n) rows)
entered_over n [] = tt
entered_over n (r ∷ rows) = (first_is_over n r, entered_over n rows)

fewer_over : (m n : ℕ) (r : Linear) → m ≤ n → IsOver m r → IsOver n r
fewer_over m n r le h v far = h v (omega arith)

pub back_over : (n : ℕ) (w : What) (rows : List Linear) → WhatIsOver n w → Each (IsOver n) rows → Each (IsOver n) (back_all w rows)
back_over n w [] over h = tt
back_over n (Enter params) (r ∷ rows) over h = (fewer_over params n (first_of params r) over (first_is_over params r), back_over n (Enter params) rows over h.1)
back_over n (Test own) (r ∷ rows) over h = (h.0, back_over n (Test own) rows over h.1)
back_over n (Check own) (r ∷ rows) over h = (h.0, back_over n (Check own) rows over h.1)
back_over n (Set x form lo hi) (r ∷ rows) over h =
    (substituted_is_over n r form x (end_of lo) (end_of hi) h.0 over.1, back_over n (Set x form lo hi) rows over h.1)

demanded_over : (n : ℕ) (w : What) (rows : List Linear) → WhatIsOver n w → Each (IsOver n) rows → Each (IsOver n) (demanded w rows)
demanded_over n (Enter params) rows over h = back_over n (Enter params) rows over h
demanded_over n (Test own) rows over h = each_filter (IsOver n) (λ r. not (is_covered r own)) (owes (Test own) rows) (back_over n (Test own) rows over h)
demanded_over n (Set x form lo hi) rows over h = back_over n (Set x form lo hi) rows over h
demanded_over n (Check own) rows over h = each_join (IsOver n) own rows over h

pub heads_over : (n : ℕ) (points : List PointInfo) (heads : List (List Linear)) → AreOver n heads → AreOver n (at_heads points heads)
heads_over n [] heads h = tt
heads_over n (point ∷ points) [] h = (tt, heads_over n points [] tt)
heads_over n (point ∷ points) (rows ∷ heads) h = (by point.head, heads_over n points heads h.1)
  where
    by : (t : Bool) → Each (IsOver n) (cond t rows [])
    by true = h.0
    by false = tt

module _ (g : Flow) (leads : Each (LeadsUp g.points g.variables) g.edges) where
  demanded_each : (a : List (List Linear)) (p : ℕ) (edges : List Arc) → AreOver g.variables a → Each (λ e. (e.from ≡ p) × LeadsUp g.points g.variables e) edges →
      Each (λ e. Each (IsOver g.variables) (demanded e.what (rows_at a e.to))) edges
  demanded_each a p [] h all = tt
  demanded_each a p (e ∷ edges) h all =
      (demanded_over g.variables e.what (rows_at a e.to) all.0.1.over (each_rows_at (Each (IsOver g.variables)) a e.to tt h), demanded_each a p edges h all.1)

  needed_over : (a : List (List Linear)) (p : ℕ) → AreOver g.variables a → Each (IsOver g.variables) (needed_at g.edges (rows_at a) p)
  needed_over a p h =
      gathered_each (IsOver g.variables) (rows_at a) [] (leaving p g.edges) tt
      (demanded_each a p (leaving p g.edges) h (each_leaving (LeadsUp g.points g.variables) p g.edges leads))

  filled_over : (p : ℕ) (a : List (List Linear)) → AreOver g.variables a → AreOver g.variables (filled g p a)
  filled_over p a h = by (is_head g.points p)
    where
      by : (t : Bool) → AreOver g.variables (cond t a (set a p (needed_at g.edges (rows_at a) p)))
      by true = h
      by false = each_set (Each (IsOver g.variables)) a p (needed_at g.edges (rows_at a) p) (needed_over a p h) h

  pub below_over : (n : ℕ) (a : List (List Linear)) → AreOver g.variables a → AreOver g.variables (filled_below g n a)
  below_over zero a h = h
  below_over (suc n) a h = below_over n (filled g n a) (filled_over n a h)

-- at the entry the locals are 0

entry_is_no_head : (points : List PointInfo) → IfSome (slice_get points 0) (λ point. point.head ≡ false) → is_head points 0 ≡ false
entry_is_no_head [] h = refl
entry_is_no_head (point ∷ points) h = h

entry_demanded : (params : ℕ) (a : PointRows) (edges : List Arc) → Each (λ e. (e.from ≡ 0) × (e.from ≡ 0 → e ≡ arc 0 1 (Enter params))) edges →
    Each (λ e. Each (IsOver params) (demanded e.what (a e.to))) edges
entry_demanded params a [] all = tt
entry_demanded params a (e ∷ edges) all =
    (subst (λ (z : Arc). Each (IsOver params) (demanded z.what (a z.to))) (sym (all.0.1 all.0.0)) (entered_over params (a 1)), entry_demanded params a edges all.1)

pub entry_over : (g : Flow) (heads : List (List Linear)) → IsGraph g → Each (IsOver g.params) (rows_at (need g heads) 0)
entry_over g heads is =
    let a = rows_at (need g heads) in
    let all = each_leaving (λ e. e.from ≡ 0 → e ≡ arc 0 1 (Enter g.params)) 0 g.edges (to_start g is) in
    subst (Each (IsOver g.params)) (sym ((need_is g is.leads heads).needed 0 (entry_is_no_head g.points is.entry)))
    (gathered_each (IsOver g.params) a [] (leaving 0 g.edges) tt (entry_demanded g.params a (leaving 0 g.edges) all))

pub need_is_complete : NeedIsComplete
need_is_complete g heads is over = record {
  long = need_long g is.leads heads;
  over = below_over g is.leads (length g.points) (at_heads g.points heads) (heads_over g.variables g.points heads over);
  entry = entry_over g heads is;
  covers = annotation_covers g heads is;
}
