-- Which points are heads, as a list.
use Rattle.std.proofs.Common.{◌≡◌, ℕ, zero, suc, ◌+◌, ◌<◌, ◌≤◌, List, [], ◌∷◌, length, ap, sym, Some, Bool, true, false, slice_get, map, arith}
use Rattle.std.specs.Prelude.{◌⊎◌, IfSome}
use Rattle.std.proofs.lemmas.List.{length-map}
use Rattle.std.proofs.lemmas.Option.{slice_get_within}
use Rattle.pc_flow.specs.declared.point.PointInfo.{PointInfo}
use Rattle.pc_flow.specs.Arc.{Arc}
use Rattle.pc_flow.specs.Flow.{Flow}
use Rattle.pc_flow.specs.Lists.{In}
use Rattle.pc_flow.specs.Shape.{NoHeads, IsGraph, IsHead}
use Rattle.pc_domain.proofs.Heads.{rises_unless, has_entry}
use Rattle.pc_fixpoint.specs.Flowing.{heads}

pub here_or_above : (p q : ℕ) → p ≤ q → (q ≡ p) ⊎ (p + 1 ≤ q)
here_or_above p q le = grind arith

abbrev IsMarked : List PointInfo → ℕ → Bool → Type 0
IsMarked points p b = slice_get (map (λ (x : PointInfo). x.head) points) p ≡ Some b

marked : (points : List PointInfo) (p : ℕ) (b : Bool) → p < length points → IfSome (slice_get points p) (λ point. point.head ≡ b) → IsMarked points p b
marked [] p b lt h = absurd (omega arith)
marked (x ∷ xs) zero b lt h = ap Some h
marked (x ∷ xs) (suc p) b lt h = marked xs p b (omega arith) h

marked_no_head : (points : List PointInfo) (p : ℕ) → IsMarked points p false → IsHead points p → ⊥
marked_no_head [] p e h = absurd (cc)
marked_no_head (x ∷ xs) zero e h = cc
marked_no_head (x ∷ xs) (suc p) e h = marked_no_head xs p e h

none_marked : (points : List PointInfo) (p : ℕ) → NoHeads points → p < length points → IsMarked points p false
none_marked [] p none lt = absurd (omega arith)
none_marked (x ∷ xs) zero none lt = ap Some none.0
none_marked (x ∷ xs) (suc p) none lt = none_marked xs p none.1 (omega arith)

-- what a graph says of a point is what the list has
pub head_told : (g : Flow) (p : ℕ) (b : Bool) → p < length g.points → IfSome (slice_get g.points p) (λ point. b ≡ point.head) → slice_get (heads g) p ≡ Some b
head_told g p b lt h = by g.points p lt h
  where
    by : (points : List PointInfo) (p : ℕ) → p < length points → IfSome (slice_get points p) (λ point. b ≡ point.head) → IsMarked points p b
    by [] p lt h = absurd (omega arith)
    by (x ∷ xs) zero lt h = ap Some (sym h)
    by (x ∷ xs) (suc p) lt h = by xs p (omega arith) h

-- the list has a mark for each point
pub marks_within : (g : Flow) (p : ℕ) (b : Bool) → slice_get (heads g) p ≡ Some b → p < length g.points
marks_within g p b h =
    let within : p < length (heads g) = slice_get_within (heads g) p b h in
    omega (arith, length-map g.points (λ (x : PointInfo). x.head))

pub none_are_heads : (g : Flow) → NoHeads g.points → (p : ℕ) → p < length g.points → slice_get (heads g) p ≡ Some false
none_are_heads g none p lt = none_marked g.points p none lt

module _ (g : Flow) (graph : IsGraph g) where
  pub entry_no_head : slice_get (heads g) 0 ≡ Some false
  entry_no_head = marked g.points 0 false (has_entry g graph) graph.entry

  pub head_at : (p : ℕ) → p < length g.points → IsHead g.points p → slice_get (heads g) p ≡ Some true
  head_at p lt h = marked g.points p true lt h

  -- an edge to a point that is no head comes from below
  pub rises : (e : Arc) → In e g.edges → slice_get (heads g) e.to ≡ Some false → e.from < e.to
  rises e m other = rises_unless g graph e m (marked_no_head g.points e.to other)
