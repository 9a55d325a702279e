-- The proofs of edges.
use Rattle.std.proofs.Common.{◌≡◌, ◌≤◌, List, [], ◌∷◌, length, map, sym, subst, arith, Bool, true, Option, Some, None, Result, Ok, Err}
use Rattle.std.specs.List.{AllByRecursion}
use Rattle.pc_rows.specs.declared.rows.NoMemory.{NoMemory}
use Rattle.pc_rows.specs.declared.system.TheConstants.{PREMISES}
use Rattle.pc_rows.specs.Linear.{Linear}
use Rattle.pc_rows.specs.Joins.{is_covered}
use Rattle.pc_rows.specs.Evidence.{Proof}
use Rattle.pc_flow.specs.declared.point.PointInfo.{PointInfo}
use Rattle.pc_flow.specs.Arc.{Arc}
use Rattle.pc_flow.specs.Carry.{back}
use Rattle.pc_flow.specs.Annotation.{rows_at}
use Rattle.pc_lower.specs.Annotation.{is_head}
use Rattle.pc_lower.specs.Laws.{IsCovered}
use Rattle.pc_replay.specs.Accepts.{RowProved}
use Rattle.pc_flow.specs.Carry.{asked}
use Rattle.pc_flow.proofs.Asked.{owed_is_asked}
use Rattle.pc_flow.specs.Carry.{premises}
use Rattle.pc_certify.specs.Causes.{EdgeFails}
use Rattle.pc_certify.specs.Proving.{RowsAre, EdgeDone, EdgeIs}
use Rattle.pc_certify.proofs.Pairs.{pairs_long}

pub each_mapped : {A B : Type 0} (P : B → Type 0) (f : A → B) (xs : List A) → AllByRecursion P (map f xs) → AllByRecursion (λ x. P (f x)) xs
each_mapped P f [] h = tt
each_mapped P f (x ∷ xs) h = (h.0, each_mapped P f xs h.1)

-- what an edge owes is covered: so is each row that it has to show, carried back
pub asked_covered : (a : List (List Linear)) (e : Arc) (source target : List Linear) → source ≡ rows_at a e.from → target ≡ rows_at a e.to →
    IsCovered (rows_at a) e → AllByRecursion (λ r. is_covered (back e.what r) (premises e.what source) ≡ true) (asked e.what target)
asked_covered a e source target is_source is_target covers =
    let P : Linear → Type 0 = λ r. is_covered r (premises e.what source) ≡ true in
    let owed = subst (λ (z : List Linear). AllByRecursion (λ r. is_covered r (premises e.what z) ≡ true) (map (back e.what) (asked e.what (rows_at a e.to)))) (sym is_source)
    (subst (λ (z : List Linear). AllByRecursion (λ r. is_covered r (premises e.what (rows_at a e.from)) ≡ true) z) (owed_is_asked e.what (rows_at a e.to)) covers) in
    each_mapped P (back e.what) (asked e.what target)
    (subst (λ (z : List Linear). AllByRecursion P (map (back e.what) (asked e.what z))) (sym is_target) owed)

-- the answer on an edge is that on the rows that it has to show
pub edge_is : (points : List PointInfo) (a : List (List Linear)) (e : Arc) (head : Bool) (source target : List Linear) (found : Result (Option (List Proof)) NoMemory) →
    is_head points e.from ≡ head → source ≡ rows_at a e.from → target ≡ rows_at a e.to → length (asked e.what target) ≤ PREMISES →
    RowsAre head e.what (premises e.what source) (asked e.what target) found → EdgeIs points a e found
edge_is points a e head source target found is_h is_source is_target few h =
    by found
    (subst (λ (b : Bool). RowsAre b e.what (premises e.what (rows_at a e.from)) (asked e.what (rows_at a e.to)) found) (sym is_h)
    (subst (λ (z : List Linear). RowsAre head e.what (premises e.what z) (asked e.what (rows_at a e.to)) found) is_source
    (subst (λ (z : List Linear). RowsAre head e.what (premises e.what source) (asked e.what z) found) is_target h)))
  where
    most : length (asked e.what (rows_at a e.to)) ≤ PREMISES
    most = subst (λ (z : List Linear). length (asked e.what z) ≤ PREMISES) is_target few

    by : (found : Result (Option (List Proof)) NoMemory) → RowsAre (is_head points e.from) e.what (premises e.what (rows_at a e.from)) (asked e.what (rows_at a e.to)) found → EdgeIs points a e found
    by (Ok (Some proofs)) h =
        let long = pairs_long (RowProved e.what (premises e.what (rows_at a e.from))) (asked e.what (rows_at a e.to)) proofs h in
        record { each = h; few = omega (arith, long, most) }
    by (Ok None) h = h
    by (Err x) h = tt

-- what is said of an answer whose content is known

pub edge_none : (points : List PointInfo) (a : List (List Linear)) (e : Arc) (o : Option (List Proof)) → o ≡ None → EdgeIs points a e (Ok o) → EdgeFails points a e
edge_none points a e o is h = subst (λ (z : Option (List Proof)). EdgeIs points a e (Ok z)) is h

pub edge_some : (points : List PointInfo) (a : List (List Linear)) (e : Arc) (o : Option (List Proof)) (ps : List Proof) → o ≡ Some ps → EdgeIs points a e (Ok o) → EdgeDone a e ps
edge_some points a e o ps is h = subst (λ (z : Option (List Proof)). EdgeIs points a e (Ok z)) is h
