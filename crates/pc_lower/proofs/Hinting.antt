-- The rows that loops try, and the need at the end.
use Rattle.std.proofs.Common.{◌≡◌, ◌∙◌, ℕ, suc, zero, ◌+◌, ◌<◌, ◌≤◌, List, [], ◌∷◌, ◌++◌, length, sym, refl, ap, subst, cond, Bool, true, false, arith, map, drop, append-nil, append_assoc, Option, Some, None, slice_get, Err, Result, Ok}
use Rattle.std.specs.Prelude.{IfSome}
use Rattle.std.specs.List.{AllByRecursion as Each}
use Rattle.std.proofs.lemmas.List.{drop_all}
use Rattle.pc_rows.specs.Linear.{Linear}
use Rattle.pc_rows.specs.Joins.{joined}
use Rattle.pc_rows.proofs.Adding.{drop_got}
use Rattle.pc_flow.specs.declared.point.PointInfo.{PointInfo}
use Rattle.pc_flow.specs.Flow.{Flow}
use Rattle.pc_lower.specs.declared.fault.CandidateFault.{CandidateFault}
use Rattle.pc_lower.specs.declared.fault.CandidateFault.TheVariants.{Past, Full, NoMemory}
use Rattle.pc_flow.specs.Annotation.{rows_at}
use Rattle.pc_lower.specs.Candidate.{hint_at, hinted}
use Rattle.pc_lower.specs.Course.{hint_at_operations, hint_operations}
use Rattle.pc_lower.specs.Fresh.{HeadsAre}
use Rattle.pc_lower.specs.Need.{at_heads, filled_below, need}
use Rattle.pc_lower.specs.Operations.{Operation, Joins, Fits, Answers, operations, operations_below}
use Rattle.pc_lower.proofs.Answering.{Left, left_all, left_over, answer_after, fault_within}

-- ---- the rows that loops try

-- what is told of a point
hint_told : (o : Option PointInfo) (b : Bool) (none tried : List Linear) (answer : Result (List Linear) CandidateFault) → IfSome o (λ point. b ≡ point.head) →
    IfSome o (λ point. tried ≡ point.tried) → b ≡ true → none ≡ [] → Answers (Joins none tried ∷ []) (joined none tried) answer →
    IfSome o (λ point. Answers (hint_at_operations point) (hint_at point) answer)
hint_told None b none tried answer told these head is answers = tt
hint_told (Some point) b none tried answer told these head is answers = by point.head (sym told ∙ head)
  where
    opened : Answers (Joins [] point.tried ∷ []) (joined [] point.tried) answer
    opened =
        subst (λ (z : List Linear). Answers (Joins [] z ∷ []) (joined [] z) answer) these (subst (λ (z : List Linear). Answers (Joins z tried ∷ []) (joined z tried) answer) is answers)

    by : (t : Bool) → t ≡ true → Answers (cond t (Joins [] point.tried ∷ []) []) (cond t (joined [] point.tried) []) answer
    by true same = opened
    by false same = absurd (cc)

no_hint : (o : Option PointInfo) (b : Bool) (none : List Linear) → IfSome o (λ point. b ≡ point.head) → b ≡ false → none ≡ [] →
    IfSome o (λ point. Answers (hint_at_operations point) (hint_at point) (Ok none))
no_hint None b none told other is = tt
no_hint (Some point) b none told other is = by point.head (sym told ∙ other)
  where
    by : (t : Bool) → t ≡ false → Answers (cond t (Joins [] point.tried ∷ []) []) (cond t (joined [] point.tried) []) (Ok none)
    by true same = absurd (cc)
    by false same = (tt, is)

pub hint_joined : (points : List PointInfo) (p : ℕ) (b : Bool) (none tried : List Linear) (answer : Result (List Linear) CandidateFault) →
    IfSome (slice_get points p) (λ point. b ≡ point.head) → IfSome (slice_get points p) (λ point. tried ≡ point.tried) → b ≡ true → none ≡ [] →
    Answers (Joins none tried ∷ []) (joined none tried) answer → IfSome (slice_get points p) (λ point. Answers (hint_at_operations point) (hint_at point) answer)
hint_joined points p b none tried answer told these head is answers = hint_told (slice_get points p) b none tried answer told these head is answers

pub hint_none : (points : List PointInfo) (p : ℕ) (b : Bool) (none : List Linear) → IfSome (slice_get points p) (λ point. b ≡ point.head) → b ≡ false → none ≡ [] →
    IfSome (slice_get points p) (λ point. Answers (hint_at_operations point) (hint_at point) (Ok none))
hint_none points p b none told other is = no_hint (slice_get points p) b none told other is

-- the loop over the points

none_got : {A : Type 0} (xs : List A) (p : ℕ) → p < length xs → slice_get xs p ≡ None → ⊥
none_got [] p lt e = omega arith
none_got (x ∷ xs) zero lt e = absurd (cc)
none_got (x ∷ xs) (suc p) lt e = none_got xs p (omega arith) e

-- the lists so far and those that are left are all
pub record Hints (points : List PointInfo) (p : ℕ) (rows : List (List Linear)) : Type 0 where
  pub value : rows ++ map hint_at (drop p points) ≡ map hint_at points
  pub left : Left (hint_operations (drop p points)) (hint_operations points)

pub hints_none : (points : List PointInfo) → Hints points 0 []
hints_none points = record { value = refl; left = left_all (hint_operations points) }

module _ (points : List PointInfo) (p : ℕ) (rows : List (List Linear)) (so_far : Hints points p rows) where
  module _ (point : PointInfo) (at : slice_get points p ≡ Some point) where
    opened_left : Left (hint_at_operations point ++ hint_operations (drop (p + 1) points)) (hint_operations points)
    opened_left = subst (λ (z : List PointInfo). Left (hint_operations z) (hint_operations points)) (drop_got points p point at) so_far.left

    hints_more : (row : List Linear) (new : List (List Linear)) → Each Fits (hint_at_operations point) → row ≡ hint_at point → new ≡ rows ++ row ∷ [] → Hints points (p + 1) new
    hints_more row new fit is added = record {
      value =
          ap (λ (z : List (List Linear)). z ++ map hint_at (drop (p + 1) points)) added
          ∙ append_assoc rows (row ∷ []) (map hint_at (drop (p + 1) points))
          ∙ ap (λ (z : List Linear). rows ++ z ∷ map hint_at (drop (p + 1) points)) is
          ∙ ap (λ (z : List PointInfo). rows ++ map hint_at z) (sym (drop_got points p point at))
          ∙ so_far.value;
      left = left_over (hint_at_operations point) (hint_operations (drop (p + 1) points)) (hint_operations points) opened_left fit;
    }

    hints_fault : (f : CandidateFault) (g : Flow) (heads : List (List Linear)) → Answers (hint_at_operations point) (hint_at point) (Err f) →
        HeadsAre g (hint_operations points) heads (Err f)
    hints_fault Past g heads k = opened_left.fault Past (fault_within Past (hint_at_operations point) (hint_operations (drop (p + 1) points)) k)
    hints_fault Full g heads k = opened_left.fault Full (fault_within Full (hint_at_operations point) (hint_operations (drop (p + 1) points)) k)
    hints_fault NoMemory g heads k = tt

  pub hints_next : (row : List Linear) (new : List (List Linear)) → p < length points →
      IfSome (slice_get points p) (λ point. Answers (hint_at_operations point) (hint_at point) (Ok row)) → new ≡ rows ++ row ∷ [] → Hints points (p + 1) new
  hints_next row new lt answers added = by (slice_get points p) refl answers
    where
      by : (o : Option PointInfo) → slice_get points p ≡ o → IfSome o (λ point. Answers (hint_at_operations point) (hint_at point) (Ok row)) → Hints points (p + 1) new
      by None e h = absurd (none_got points p lt e)
      by (Some point) e h = hints_more point e row new h.0 h.1 added

  pub hints_refused : (f : CandidateFault) (g : Flow) (heads : List (List Linear)) → p < length points →
      IfSome (slice_get points p) (λ point. Answers (hint_at_operations point) (hint_at point) (Err f)) → HeadsAre g (hint_operations points) heads (Err f)
  hints_refused f g heads lt answers = by (slice_get points p) refl answers
    where
      by : (o : Option PointInfo) → slice_get points p ≡ o → IfSome o (λ point. Answers (hint_at_operations point) (hint_at point) (Err f)) →
          HeadsAre g (hint_operations points) heads (Err f)
      by None e h = absurd (none_got points p lt e)
      by (Some point) e h = hints_fault point e f g heads h

pub hints_all : (g : Flow) (p : ℕ) (rows : List (List Linear)) → length g.points ≤ p → Hints g.points p rows → HeadsAre g (hint_operations g.points) (hinted g) (Ok rows)
hints_all g p rows le h =
    let none = drop_all p g.points le in
    let is = sym (append-nil rows) ∙ ap (λ (z : List PointInfo). rows ++ map hint_at z) (sym none) ∙ h.value in
    (h.left.fit (subst (λ (z : List PointInfo). Each Fits (hint_operations z)) (sym none) tt), (ap (λ (z : List (List Linear)). length z) is ∙ hinted_long g.points, ap (at_heads g.points) is))
  where
    hinted_long : (points : List PointInfo) → length (map hint_at points) ≡ length points
    hinted_long [] = refl
    hinted_long (point ∷ points) = ap suc (hinted_long points)

-- ---- the last step: the need of these rows

module _ (g : Flow) (os : List Operation) (value : List (List Linear)) where
  pub finished : (heads : List (List Linear)) (answer : Result (List (List Linear)) CandidateFault) → HeadsAre g os value (Ok heads) → Answers (operations g heads) (need g heads) answer →
      Answers (os ++ operations g value) (need g value) answer
  finished heads answer h answers =
      let same : need g heads ≡ need g value = ap (filled_below g (length g.points)) h.1.1 in
      answer_after os (operations g value) (need g value) answer h.0
      (subst (λ (z : List (List Linear)). Answers (operations_below g (rows_at z) (length g.points)) z answer) same answers)

  pub unfinished : (f : CandidateFault) → HeadsAre g os value (Err f) → Answers (os ++ operations g value) (need g value) (Err f)
  unfinished Past h = fault_within Past os (operations g value) h
  unfinished Full h = fault_within Full os (operations g value) h
  unfinished NoMemory h = tt
