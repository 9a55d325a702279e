-- With tame numbers a row that is owed is lifted within the range.
use Rattle.std.proofs.Common.{◌≡◌, ℕ, suc, zero, ◌+◌, ◌^◌, ◌<◌, ◌≤◌, List, [], ◌∷◌, length, drop, map, sym, refl, ap, subst, cond, Bool, true, false, arith, lit<, lit≤, ◌+ℤ◌, neg_ℤ, pos, inl, inr}
use Rattle.std.specs.Prelude.{◌⊎◌}
use Rattle.std.specs.List.{AllByRecursion as Each}
use Rattle.pc_rows.specs.Linear.{Linear, IsInRange, difference_of, add_lists, negate_list}
use Rattle.pc_rows.specs.Bounds.{Within, AllWithin}
use Rattle.pc_rows.specs.declared.rows.TheConstants.{ROWS}
use Rattle.pc_rows.proofs.Bounding.{sum_within, opposite_within, add_within, negate_within, all_in_range, within_in_range}
use Rattle.pc_rows.proofs.Joining.{each_join}
use Rattle.pc_flow.specs.declared.what.What.{What}
use Rattle.pc_flow.specs.declared.what.What.TheVariants.{Enter, Test, Set, Check}
use Rattle.pc_flow.specs.declared.point.PointInfo.{PointInfo}
use Rattle.pc_flow.specs.Annotation.{rows_at}
use Rattle.pc_flow.specs.Arc.{Arc}
use Rattle.pc_flow.specs.Carry.{owes, test_rows}
use Rattle.pc_flow.specs.Flow.{Flow}
use Rattle.pc_flow.specs.Shape.{IsHead, LeadsUp}
use Rattle.pc_lower.specs.declared.mode.Mode.{Mode}
use Rattle.pc_lower.specs.declared.mode.Mode.TheVariants.{Hint, Plain, Tilt1, Tilt2, Escape}
use Rattle.pc_lower.specs.Annotation.{no_rows}
use Rattle.pc_lower.specs.Candidate.{alone, is_steady}
use Rattle.pc_lower.specs.Course.{operations_between, steady_operations, tilt_operations, escape_operations, lift_operations, lifted_operations}
use Rattle.pc_lower.specs.Need.{need}
use Rattle.pc_lower.specs.Operations.{Fits, Subtracts}
use Rattle.pc_lower.specs.Tame.{tame_bound, HasTameNumbers, AreTame}
use Rattle.pc_lower.specs.TameCourse.{rows_after, steady_lists, lift_lists, lifted_lists}
use Rattle.pc_lower.specs.Unchecked.{unchecked, unasserted, unasserted_arc}
use Rattle.pc_lower.proofs.Agreeing.{is_the_head}
use Rattle.pc_lower.proofs.Meaning.{need_is}
use Rattle.pc_lower.proofs.Seeing.{seen_leads}
use Rattle.pc_lower.proofs.Tameness.{no_tame, between_fit}
use Rattle.pc_lower.proofs.Variables.{each_rows_at, each_set}

-- ---- the rows that are needed after a head

drop_at : (P : List Linear → Type 0) (a : List (List Linear)) (low p : ℕ) → P [] → Each P (drop low a) → low ≤ p → P (rows_at a p)
drop_at P a zero p none all le = each_rows_at P a p none all
drop_at P [] (suc low) p none all le = none
drop_at P (rows ∷ a) (suc low) zero none all le = absurd (omega arith)
drop_at P (rows ∷ a) (suc low) (suc p) none all le = drop_at P a low p none all (omega arith)

module _ (g : Flow) (leads : Each (LeadsUp g.points g.variables) g.edges) (heads : List (List Linear)) (h : ℕ) (tame : Each AreTame heads) (after : Each AreTame (rows_after g heads h)) where
  tame_point : (p : ℕ) → suc h ≤ p → AreTame (rows_at (need g heads) p)
  tame_point p le = drop_at AreTame (need g heads) (suc h) p no_tame after le

  -- an edge from the head or from a point after it leads to such a point or to a head
  pub tame_target : (e : Arc) → h ≤ e.from → LeadsUp g.points g.variables e → AreTame (rows_at (need g heads) e.to)
  tame_target e le up = by up.rises
    where
      by : (e.from < e.to) ⊎ IsHead g.points e.to → AreTame (rows_at (need g heads) e.to)
      by (inl rises) = tame_point e.to (omega arith)
      by (inr head) = subst AreTame (sym ((need_is g leads heads).given e.to (is_the_head g.points e.to up.reaches head))) (each_rows_at AreTame heads e.to no_tame tame)

  pub after_fit : Each (λ e. HasTameNumbers e.what) g.edges → Each Fits (operations_between g (rows_at (need g heads)) (suc h) (length g.points))
  after_fit numbers = between_fit g leads numbers heads (suc h) tame_point (λ e le up. tame_target e (omega arith) up) (length g.points)

-- ---- the steady test

unasserted_numbers : (edges : List Arc) → Each (λ e. HasTameNumbers e.what) edges → Each (λ e. HasTameNumbers e.what) (map unasserted_arc edges)
unasserted_numbers [] h = tt
unasserted_numbers (e ∷ edges) h = (by e.what h.0, unasserted_numbers edges h.1)
  where
    by : (w : What) → HasTameNumbers w → HasTameNumbers (unasserted w)
    by (Enter params) h = h
    by (Test rows) h = h
    by (Set x form lo hi) h = h
    by (Check rows) h = tt

pub none_tame : (points : List PointInfo) → Each AreTame (no_rows points)
none_tame [] = tt
none_tame (point ∷ points) = (no_tame, none_tame points)

twice : tame_bound + tame_bound < 2 ^ 127
twice = lit< tt

difference_fits : (r t : Linear) → Within tame_bound r → Within tame_bound t → IsInRange (difference_of r t)
difference_fits r t h k = (
  within_in_range (tame_bound + tame_bound) (r.constant +ℤ neg_ℤ t.constant) twice (sum_within tame_bound tame_bound r.constant (neg_ℤ t.constant) h.constant (opposite_within tame_bound t.constant k.constant)),
  all_in_range (tame_bound + tame_bound) (add_lists r.coefficients (negate_list t.coefficients)) twice (add_within tame_bound tame_bound r.coefficients (negate_list t.coefficients) h.coefficients (negate_within tame_bound t.coefficients k.coefficients)),
)

module _ (g : Flow) (leads : Each (LeadsUp g.points g.variables) g.edges) (numbers : Each (λ e. HasTameNumbers e.what) g.edges) where
  steady_fits : (h : ℕ) (r : Linear) → Within tame_bound r → Each AreTame (rows_after (unchecked g) (alone g h r) h) → Each Fits (steady_operations g h r)
  steady_fits h r within after =
      after_fit (unchecked g) (seen_leads false g leads) (alone g h r) h
      (each_set AreTame (no_rows g.points) h (r ∷ []) (record { most = (let one : 1 ≤ ROWS = lit≤ tt in one); numbers = (within, tt) }) (none_tame g.points)) after (unasserted_numbers g.edges numbers)

  tilt_fits : (e : Arc) (r : Linear) (own : List Linear) → Within tame_bound r → AllWithin tame_bound own → Each AreTame (steady_lists g e.from r own) → Each Fits (tilt_operations g e r own)
  tilt_fits e r [] within tame lists = tt
  tilt_fits e r (t ∷ more) within tame lists = each_join Fits (steady_operations g e.from r) _ (steady_fits e.from r within lists) (by (is_steady g e r))
    where
      by : (s : Bool) → Each Fits (cond s [] (Subtracts r t ∷ []))
      by true = tt
      by false = (difference_fits r t within tame.0, tt)

  -- ---- a row that is owed over a test is a row of the target

  abbrev pub IsSoft : What → Linear → Type 0
  IsSoft w r = (test_rows w ≡ []) ⊎ Within tame_bound r

  each_any : (P : Linear → Type 0) → ((r : Linear) → P r) → (rows : List Linear) → Each P rows
  each_any P f [] = tt
  each_any P f (r ∷ rows) = (f r, each_any P f rows)

  pub owed_soft : (w : What) (rows : List Linear) → AllWithin tame_bound rows → Each (IsSoft w) (owes w rows)
  owed_soft (Enter params) rows within = each_any (IsSoft (Enter params)) (λ r. inl refl) (owes (Enter params) rows)
  owed_soft (Set x form lo hi) rows within = each_any (IsSoft (Set x form lo hi)) (λ r. inl refl) (owes (Set x form lo hi) rows)
  owed_soft (Check own) rows within = each_any (IsSoft (Check own)) (λ r. inl refl) (owes (Check own) rows)
  owed_soft (Test own) [] within = tt
  owed_soft (Test own) (r ∷ rows) within = (inr within.0, owed_soft (Test own) rows within.1)

  test_tame : (w : What) → HasTameNumbers w → AllWithin tame_bound (test_rows w)
  test_tame (Enter params) tame = tt
  test_tame (Test own) tame = tame
  test_tame (Set x form lo hi) tame = tt
  test_tame (Check own) tame = tt

  drop_tame : (k : ℕ) (rows : List Linear) → AllWithin tame_bound rows → AllWithin tame_bound (drop k rows)
  drop_tame zero rows h = h
  drop_tame (suc k) [] h = tt
  drop_tame (suc k) (r ∷ rows) h = drop_tame k rows h.1

  tilt_soft : (e : Arc) (r : Linear) (own : List Linear) → (own ≡ []) ⊎ Within tame_bound r → AllWithin tame_bound own → Each AreTame (steady_lists g e.from r own) → Each Fits (tilt_operations g e r own)
  tilt_soft e r own (inl none) tame lists = subst (λ (z : List Linear). Each Fits (tilt_operations g e r z)) (sym none) tt
  tilt_soft e r own (inr within) tame lists = tilt_fits e r own within tame lists

  without_first : (own : List Linear) (r : Linear) → (own ≡ []) ⊎ Within tame_bound r → (drop 1 own ≡ []) ⊎ Within tame_bound r
  without_first own r (inl none) = inl (ap (drop 1) none)
  without_first own r (inr within) = inr within

  -- ---- the lift

  more : tame_bound + 1 < 2 ^ 127
  more = lit< tt

  less : tame_bound < 2 ^ 127
  less = lit< tt

  escape_fits : (own : List Linear) → AllWithin tame_bound own → Each Fits (escape_operations own)
  escape_fits [] tame = tt
  escape_fits (t ∷ own) tame = (
    (
      within_in_range (tame_bound + 1) (neg_ℤ t.constant +ℤ neg_ℤ (pos 1)) more (sum_within tame_bound 1 (neg_ℤ t.constant) (neg_ℤ (pos 1)) (opposite_within tame_bound t.constant tame.0.constant) (lit≤ tt)),
      all_in_range tame_bound (negate_list t.coefficients) less (negate_within tame_bound t.coefficients tame.0.coefficients),
    ),
    tt,
  )

  lift_fits : (m : Mode) (e : Arc) (r : Linear) → IsSoft e.what r → HasTameNumbers e.what → Each AreTame (lift_lists g m e r) → Each Fits (lift_operations g m e r)
  lift_fits Hint e r soft tame lists = tt
  lift_fits Plain e r soft tame lists = tt
  lift_fits Tilt1 e r soft tame lists = tilt_soft e r (test_rows e.what) soft (test_tame e.what tame) lists
  lift_fits Tilt2 e r soft tame lists =
      tilt_soft e r (drop 1 (test_rows e.what)) (without_first (test_rows e.what) r soft) (drop_tame 1 (test_rows e.what) (test_tame e.what tame)) lists
  lift_fits Escape e r soft tame lists = escape_fits (test_rows e.what) (test_tame e.what tame)

  pub lifted_fits : (m : Mode) (e : Arc) (r : Linear) → IsSoft e.what r → HasTameNumbers e.what → Each AreTame (lifted_lists g m e r) → Each Fits (lifted_operations g m e r)
  lifted_fits m e r soft tame lists = by e.body lists
    where
      by : (t : Bool) → Each AreTame (cond t (lift_lists g m e r) []) → Each Fits (cond t (lift_operations g m e r) [])
      by true lists = lift_fits m e r soft tame lists
      by false lists = tt
