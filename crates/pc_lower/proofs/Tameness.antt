-- With tame numbers no operation of a need leaves the range or has a row too many.
use Rattle.std.proofs.Common.{◌≡◌, ◌∙◌, ℕ, suc, zero, ◌+◌, ◌*◌, ◌^◌, ◌<◌, ◌≤◌, List, [], ◌∷◌, ◌++◌, length, refl, ap, subst, cond, Bool, true, false, arith, lit<}
use Rattle.std.specs.Prelude.{nat_lt}
use Rattle.std.specs.List.{AllByRecursion as Each}
use Rattle.std.proofs.lemmas.Bool.Decides.{nat_tests}
use Rattle.pc_rows.specs.Linear.{Linear}
use Rattle.pc_rows.specs.Bounds.{AllWithin}
use Rattle.pc_rows.specs.Joins.{joined}
use Rattle.pc_rows.specs.declared.rows.TheConstants.{ROWS}
use Rattle.pc_rows.proofs.Bounding.{small_substitution_fits}
use Rattle.pc_rows.proofs.Joining.{joined-longer, each_join}
use Rattle.pc_language.specs.Ends.{end_of}
use Rattle.pc_flow.specs.declared.what.What.{What}
use Rattle.pc_flow.specs.declared.what.What.TheVariants.{Enter, Test, Set, Check}
use Rattle.pc_flow.specs.Arc.{Arc}
use Rattle.pc_flow.specs.Exact.{PointRows}
use Rattle.pc_flow.specs.Flow.{Flow}
use Rattle.pc_flow.specs.Shape.{LeadsUp}
use Rattle.pc_flow.specs.Annotation.{rows_at}
use Rattle.pc_lower.specs.Annotation.{is_head, no_rows}
use Rattle.pc_flow.specs.Incidence.{leaving}
use Rattle.pc_lower.specs.Need.{demanded, gathered, need}
use Rattle.pc_lower.specs.Operations.{Operation, Fits, carries, edges_operations, operations_below, operations, point_operations}
use Rattle.pc_lower.specs.Course.{operations_between}
use Rattle.pc_lower.specs.Tame.{tame_bound, HasTameNumbers, AreTame}
use Rattle.pc_lower.specs.Laws.{TameNeedFits}
use Rattle.pc_lower.proofs.Agreeing.{each_leaving, each_both}
use Rattle.pc_lower.proofs.Meaning.{need_is, need_is_free}
use Rattle.pc_lower.proofs.Variables.{each_rows_at}

small : tame_bound + tame_bound * tame_bound + tame_bound * tame_bound < 2 ^ 127
small = lit< tt

pub carries_fit : (w : What) (rows : List Linear) → HasTameNumbers w → AllWithin tame_bound rows → Each Fits (carries w rows)
carries_fit w [] own h = tt
carries_fit (Enter params) (r ∷ rows) own h = (tt, carries_fit (Enter params) rows own h.1)
carries_fit (Test rows) (r ∷ more) own h = (tt, carries_fit (Test rows) more own h.1)
carries_fit (Check rows) (r ∷ more) own h = (tt, carries_fit (Check rows) more own h.1)
carries_fit (Set x form lo hi) (r ∷ rows) own h =
    (small_substitution_fits tame_bound r form x (end_of lo) (end_of hi) small h.0 own.0 own.1 own.2, carries_fit (Set x form lo hi) rows own h.1)

gathered-longer : (a : PointRows) (rows : List Linear) (edges : List Arc) → length rows ≤ length (gathered a rows edges)
gathered-longer a rows [] = omega arith
gathered-longer a rows (e ∷ edges) =
    let one = joined-longer rows (demanded e.what (a e.to)) in
    let more = gathered-longer a (joined rows (demanded e.what (a e.to))) edges in
    omega arith

-- where all that is gathered is not too much, no join has a row too many
edges_fit : (a : PointRows) (rows : List Linear) (edges : List Arc) → Each (λ e. Each Fits (carries e.what (a e.to))) edges → length (gathered a rows edges) ≤ ROWS →
    Each Fits (edges_operations a rows edges)
edges_fit a rows [] h most = tt
edges_fit a rows (e ∷ edges) h most =
    let new = joined rows (demanded e.what (a e.to)) in
    let more = gathered-longer a new edges in
    let here : length new ≤ ROWS = omega arith in
    each_join Fits (carries e.what (a e.to) ++ _ ∷ []) (edges_operations a new edges) (each_join Fits (carries e.what (a e.to)) (_ ∷ []) h.0 (here, tt)) (edges_fit a new edges h.1 most)

pub no_tame : AreTame []
no_tame = record { most = omega arith; numbers = tt }

-- at the points from a number on, where the rows of these points are tame, and those at the targets of their edges
module _ (g : Flow) (leads : Each (LeadsUp g.points g.variables) g.edges) (numbers : Each (λ e. HasTameNumbers e.what) g.edges) (heads : List (List Linear)) (low : ℕ)
    (points : (p : ℕ) → low ≤ p → AreTame (rows_at (need g heads) p)) (targets : (e : Arc) → low ≤ e.from → LeadsUp g.points g.variables e → AreTame (rows_at (need g heads) e.to)) where
  abbrev a : PointRows
  a = rows_at (need g heads)

  carried_each : (p : ℕ) → low ≤ p → (edges : List Arc) → Each (λ e. (e.from ≡ p) × (LeadsUp g.points g.variables e × HasTameNumbers e.what)) edges →
      Each (λ e. Each Fits (carries e.what (a e.to))) edges
  carried_each p le [] h = tt
  carried_each p le (e ∷ edges) h =
      let from = h.0.0 in
      (carries_fit e.what (a e.to) h.0.1.1 (targets e (omega arith) h.0.1.0).numbers, carried_each p le edges h.1)

  point_fits : (p : ℕ) → low ≤ p → Each Fits (point_operations g a p)
  point_fits p le = by (is_head g.points p) refl
    where
      by : (t : Bool) → is_head g.points p ≡ t → Each Fits (cond t [] (edges_operations a [] (leaving p g.edges)))
      by true h = tt
      by false h =
          edges_fit a [] (leaving p g.edges)
          (carried_each p le (leaving p g.edges) (each_leaving (λ e. LeadsUp g.points g.variables e × HasTameNumbers e.what) p g.edges (each_both (LeadsUp g.points g.variables) (λ e. HasTameNumbers e.what) g.edges leads numbers)))
          (subst (λ (z : List Linear). length z ≤ ROWS) ((need_is g leads heads).needed p h) (points p le).most)

  pub between_fit : (n : ℕ) → Each Fits (operations_between g (rows_at (need g heads)) low n)
  between_fit zero = tt
  between_fit (suc n) = by (nat_lt n low) refl (between_fit n)
    where
      by : (t : Bool) → nat_lt n low ≡ t → Each Fits (operations_between g a low n) → Each Fits (cond t [] (point_operations g a n ++ operations_between g a low n))
      by true e go = tt
      by false e go = each_join Fits (point_operations g a n) (operations_between g a low n) (point_fits n (let le : low ≤ n = grind (arith, nat_tests) in le)) go

-- all points are those from 0 on
between_is_below : (g : Flow) (rows : PointRows) (n : ℕ) → operations_between g rows 0 n ≡ operations_below g rows n
between_is_below g rows zero = refl
between_is_below g rows (suc n) =
    let none_lower : nat_lt n 0 ≡ false = grind (arith, nat_tests) in
    ap (λ (t : Bool). cond t [] (point_operations g rows n ++ operations_between g rows 0 n)) none_lower
    ∙ ap (λ (z : List Operation). point_operations g rows n ++ z) (between_is_below g rows n)

pub tame_operations_fit : (g : Flow) → Each (LeadsUp g.points g.variables) g.edges → Each (λ e. HasTameNumbers e.what) g.edges → (heads : List (List Linear)) →
    Each AreTame (need g heads) → Each Fits (operations g heads)
tame_operations_fit g leads numbers heads tame =
    subst (Each Fits) (between_is_below g (rows_at (need g heads)) (length g.points))
    (between_fit g leads numbers heads 0 (λ p le. at p) (λ e le up. at e.to) (length g.points))
  where
    at : (p : ℕ) → AreTame (rows_at (need g heads) p)
    at p = each_rows_at AreTame (need g heads) p no_tame tame

pub tame_need_fits : TameNeedFits
tame_need_fits g heads is none tame =
    tame_operations_fit g is.leads tame.edges heads (subst (Each AreTame) (need_is_free g (no_rows g.points) heads none) tame.points)
