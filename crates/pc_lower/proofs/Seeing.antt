-- A graph with the rows of its assertions or without.
use Rattle.std.proofs.Common.{◌≡◌, ◌∙◌, ℕ, zero, suc, ◌==◌, List, [], ◌∷◌, length, map, refl, ap, cond, Bool, true, false, Some, slice_get}
use Rattle.std.specs.List.{AllByRecursion as Each}
use Rattle.pc_rows.specs.Linear.{Linear}
use Rattle.pc_flow.specs.declared.point.PointInfo.{PointInfo}
use Rattle.pc_flow.specs.declared.what.What.{What}
use Rattle.pc_flow.specs.declared.what.What.TheVariants.{Enter, Test, Set, Check}
use Rattle.pc_flow.specs.Arc.{Arc}
use Rattle.pc_flow.specs.Exact.{PointRows}
use Rattle.pc_flow.specs.Flow.{Flow}
use Rattle.pc_flow.specs.Incidence.{leaving}
use Rattle.pc_flow.specs.Shape.{LeadsUp, WhatIsOver}
use Rattle.pc_lower.specs.Annotation.{is_head}
use Rattle.pc_lower.specs.Unchecked.{unasserted, unasserted_arc, seen, seen_arc}

-- the edges that leave a point, without the rows of assertions

leaving_unasserted : (p : ℕ) (edges : List Arc) → leaving p (map unasserted_arc edges) ≡ map unasserted_arc (leaving p edges)
leaving_unasserted p [] = refl
leaving_unasserted p (e ∷ edges) = by (e.from == p) (leaving_unasserted p edges)
  where
    by : (t : Bool) → leaving p (map unasserted_arc edges) ≡ map unasserted_arc (leaving p edges) →
        cond t (unasserted_arc e ∷ leaving p (map unasserted_arc edges)) (leaving p (map unasserted_arc edges)) ≡ map unasserted_arc (cond t (e ∷ leaving p edges) (leaving p edges))
    by true more = ap (λ (z : List Arc). unasserted_arc e ∷ z) more
    by false more = more

get_unasserted : (edges : List Arc) (i : ℕ) (e : Arc) → slice_get edges i ≡ Some e → slice_get (map unasserted_arc edges) i ≡ Some (unasserted_arc e)
get_unasserted [] i e h = absurd (cc)
get_unasserted (f ∷ edges) zero e h = let same : f ≡ e = cc in ap (λ (z : Arc). Some (unasserted_arc z)) same
get_unasserted (f ∷ edges) (suc i) e h = get_unasserted edges i e h

long_unasserted : (edges : List Arc) → length (map unasserted_arc edges) ≡ length edges
long_unasserted [] = refl
long_unasserted (e ∷ edges) = ap suc (long_unasserted edges)

-- the edge in place k
pub seen_there : (b : Bool) (g : Flow) (p k : ℕ) (e : Arc) → slice_get (leaving p g.edges) k ≡ Some e → slice_get (leaving p (seen b g).edges) k ≡ Some (seen_arc b e)
seen_there true g p k e h = h
seen_there false g p k e h = ap (λ (z : List Arc). slice_get z k) (leaving_unasserted p g.edges) ∙ get_unasserted (leaving p g.edges) k e h

pub seen_count : (b : Bool) (g : Flow) (p : ℕ) → length (leaving p (seen b g).edges) ≡ length (leaving p g.edges)
seen_count true g p = refl
seen_count false g p = ap (λ (z : List Arc). length z) (leaving_unasserted p g.edges) ∙ long_unasserted (leaving p g.edges)

pub seen_to : (a : PointRows) (b : Bool) (e : Arc) → a e.to ≡ a (seen_arc b e).to
seen_to a true e = refl
seen_to a false e = refl

-- an edge leads where it led

over_unasserted : (variables : ℕ) (w : What) → WhatIsOver variables w → WhatIsOver variables (unasserted w)
over_unasserted variables (Enter params) h = h
over_unasserted variables (Test rows) h = h
over_unasserted variables (Set x form lo hi) h = h
over_unasserted variables (Check rows) h = tt

leads_unasserted : (points : List PointInfo) (variables : ℕ) (edges : List Arc) → Each (LeadsUp points variables) edges → Each (LeadsUp points variables) (map unasserted_arc edges)
leads_unasserted points variables [] h = tt
leads_unasserted points variables (e ∷ edges) h =
    (record { leaves = h.0.leaves; reaches = h.0.reaches; rises = h.0.rises; over = over_unasserted variables e.what h.0.over }, leads_unasserted points variables edges h.1)

pub seen_leads : (b : Bool) (g : Flow) → Each (LeadsUp g.points g.variables) g.edges → Each (LeadsUp (seen b g).points (seen b g).variables) (seen b g).edges
seen_leads true g h = h
seen_leads false g h = leads_unasserted g.points g.variables g.edges h

-- the points stay

pub seen_head : (b : Bool) (g : Flow) (p : ℕ) (t : Bool) → is_head g.points p ≡ t → is_head (seen b g).points p ≡ t
seen_head true g p t h = h
seen_head false g p t h = h

pub seen_points_long : (b : Bool) (g : Flow) → length (seen b g).points ≡ length g.points
seen_points_long true g = refl
seen_points_long false g = refl

-- what an edge is, with the rows of its assertion or without

pub seen_test : (b : Bool) (e : Arc) (own : List Linear) → e.what ≡ Test own → (seen_arc b e).what ≡ Test own
seen_test true e own h = h
seen_test false e own h = ap unasserted h

pub seen_check : (b : Bool) (e : Arc) (own : List Linear) → b ≡ true → e.what ≡ Check own → (seen_arc b e).what ≡ Check own
seen_check true e own is h = h
seen_check false e own is h = absurd (cc)

pub unseen_check : (b : Bool) (e : Arc) (own : List Linear) → b ≡ false → e.what ≡ Check own → (seen_arc b e).what ≡ Check []
unseen_check true e own is h = absurd (cc)
unseen_check false e own is h = ap unasserted h
