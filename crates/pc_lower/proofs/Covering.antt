-- What an edge owes is covered by the rows of its point and of its test.
use Rattle.std.proofs.Common.{◌≡◌, List, [], ◌∷◌, ◌++◌, sym, refl, subst, cond, Bool, true, false, inl, inr}
use Rattle.std.specs.Prelude.{not}
use Rattle.std.specs.List.{AllByRecursion as Each}
use Rattle.std.specs.Int.Signed.{≤ℤ_refl}
use Rattle.pc_rows.specs.Linear.{Linear}
use Rattle.pc_rows.specs.Joins.{is_covered, IsCovered as Covers, with_row, joined}
use Rattle.pc_rows.proofs.Counting.{some_left, some_right}
use Rattle.pc_rows.proofs.Joining.{covered_is, is_covered_test}
use Rattle.pc_flow.specs.declared.what.What.{What}
use Rattle.pc_flow.specs.declared.what.What.TheVariants.{Enter, Test, Set, Check}
use Rattle.pc_flow.specs.Arc.{Arc}
use Rattle.pc_flow.specs.Carry.{owes, test_rows}
use Rattle.pc_flow.specs.Exact.{PointRows}
use Rattle.pc_flow.specs.Lists.{In}
use Rattle.pc_flow.proofs.Lists.{each_more}
use Rattle.pc_flow.specs.Annotation.{rows_at}
use Rattle.pc_flow.specs.Incidence.{leaving}
use Rattle.pc_lower.specs.Need.{uncovered, demanded, gathered, need}
use Rattle.pc_lower.specs.Laws.{AnnotationCovers}
use Rattle.pc_lower.proofs.Agreeing.{in_leaving}
use Rattle.pc_lower.proofs.Meaning.{need_is}

-- more rows cover no less

left_covers : (rows more : List Linear) (r : Linear) → Covers r rows → Covers r (rows ++ more)
left_covers rows more r (inl h) = inl h
left_covers rows more r (inr h) = inr (some_left rows more r h)

pub right_covers : (rows more : List Linear) (r : Linear) → Covers r more → Covers r (rows ++ more)
right_covers rows more r (inl h) = inl h
right_covers rows more r (inr h) = inr (some_right rows more r h)

-- a join covers what either list covers, and the rows of the second list

with_covers : (rows : List Linear) (r q : Linear) → Covers q rows → Covers q (with_row rows r)
with_covers rows r q h = by (is_covered r rows)
  where
    by : (t : Bool) → Covers q (cond t rows (rows ++ r ∷ []))
    by true = h
    by false = left_covers rows (r ∷ []) q h

with_covers_row : (rows : List Linear) (r : Linear) → Covers r (with_row rows r)
with_covers_row rows r = by (is_covered r rows) refl
  where
    by : (t : Bool) → is_covered r rows ≡ t → Covers r (cond t rows (rows ++ r ∷ []))
    by true h = covered_is r rows h
    by false h = right_covers rows (r ∷ []) r (inr (inl (refl, ≤ℤ_refl r.constant)))

pub joined_covers : (a b : List Linear) (r : Linear) → Covers r a → Covers r (joined a b)
joined_covers a [] r h = h
joined_covers a (q ∷ b) r h = joined_covers (with_row a q) b r (with_covers a q r h)

joined_covers_rows : (a b : List Linear) → Each (λ r. Covers r (joined a b)) b
joined_covers_rows a [] = tt
joined_covers_rows a (r ∷ b) = (joined_covers (with_row a r) b r (with_covers_row a r), joined_covers_rows (with_row a r) b)

gathered_covers : (a : PointRows) (rows : List Linear) (edges : List Arc) (r : Linear) → Covers r rows → Covers r (gathered a rows edges)
gathered_covers a rows [] r h = h
gathered_covers a rows (e ∷ edges) r h =
    gathered_covers a (joined rows (demanded e.what (a e.to))) edges r (joined_covers rows (demanded e.what (a e.to)) r h)

-- what an edge asks is covered by what is gathered
gathered_covers_demanded : (a : PointRows) (rows : List Linear) (edges : List Arc) (e : Arc) → In e edges → Each (λ r. Covers r (gathered a rows edges)) (demanded e.what (a e.to))
gathered_covers_demanded a rows [] e m = absurd m
gathered_covers_demanded a rows (f ∷ edges) e (inl same) =
    subst (λ (z : Arc). Each (λ r. Covers r (gathered a rows (f ∷ edges))) (demanded z.what (a z.to))) (sym same)
    (each_more (λ r. Covers r (joined rows (demanded f.what (a f.to)))) (λ r. Covers r (gathered a rows (f ∷ edges)))
    (λ r h. gathered_covers a (joined rows (demanded f.what (a f.to))) edges r h) (demanded f.what (a f.to)) (joined_covers_rows rows (demanded f.what (a f.to))))
gathered_covers_demanded a rows (f ∷ edges) e (inr m) = gathered_covers_demanded a (joined rows (demanded f.what (a f.to))) edges e m

-- and what it owes by that and the rows of its test

Both : List Linear → List Linear → Linear → Type 0
Both rows own r = is_covered r (rows ++ own) ≡ true

by_rows : (rows own : List Linear) (r : Linear) → Covers r rows → Both rows own r
unfolding Both
by_rows rows own r h = is_covered_test r (rows ++ own) (left_covers rows own r h)

owed_uncovered : (rows own owed : List Linear) → Each (λ r. Covers r rows) (uncovered own owed) → Each (Both rows own) owed
unfolding Both
owed_uncovered rows own [] h = tt
owed_uncovered rows own (r ∷ owed) h = by (is_covered r own) refl h (λ k. owed_uncovered rows own owed k)
  where
    by : (t : Bool) → is_covered r own ≡ t → Each (λ r. Covers r rows) (cond (not t) (r ∷ uncovered own owed) (uncovered own owed)) →
        (Each (λ r. Covers r rows) (uncovered own owed) → Each (Both rows own) owed) → Each (Both rows own) (r ∷ owed)
    by true e k go = (is_covered_test r (rows ++ own) (right_covers rows own r (covered_is r own e)), go k)
    by false e k go = (by_rows rows own r k.0, go k.1)

owed_covered : (w : What) (rows target : List Linear) → Each (λ r. Covers r rows) (demanded w target) → Each (Both rows (test_rows w)) (owes w target)
owed_covered (Test own) rows target h = owed_uncovered rows own (owes (Test own) target) h
owed_covered (Enter params) rows target h = each_more (λ r. Covers r rows) (Both rows []) (by_rows rows []) (owes (Enter params) target) h
owed_covered (Set x form lo hi) rows target h = each_more (λ r. Covers r rows) (Both rows []) (by_rows rows []) (owes (Set x form lo hi) target) h
owed_covered (Check own) rows target h = each_more (λ r. Covers r rows) (Both rows []) (by_rows rows []) (owes (Check own) target) h

-- what an edge owes is covered by the join with what it demands, and the rows of its test
pub join_covers : (w : What) (a target : List Linear) → Each (λ r. is_covered r (joined a (demanded w target) ++ test_rows w) ≡ true) (owes w target)
unfolding Both
join_covers w a target = owed_covered w (joined a (demanded w target)) target (joined_covers_rows a (demanded w target))

pub annotation_covers : AnnotationCovers
unfolding Both
annotation_covers g heads is e m h =
    let a = rows_at (need g heads) in
    let all = gathered_covers_demanded a [] (leaving e.from g.edges) e (in_leaving e.from g.edges e m refl) in
    owed_covered e.what (a e.from) (a e.to)
    (subst (λ (z : List Linear). Each (λ r. Covers r z) (demanded e.what (a e.to))) (sym ((need_is g is.leads heads).needed e.from h)) all)
