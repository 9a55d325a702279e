-- Edges of graphs, and which of them rise.
use Rattle.std.proofs.Common.{ℕ, zero, suc, ◌<◌, List, [], ◌∷◌, length, arith, inl, inr}
use Rattle.std.specs.Prelude.{◌⊎◌}
use Rattle.pc_flow.specs.declared.point.PointInfo.{PointInfo}
use Rattle.pc_flow.specs.Arc.{Arc}
use Rattle.pc_flow.specs.Flow.{Flow}
use Rattle.pc_flow.specs.Lists.{In}
use Rattle.pc_flow.specs.Shape.{NoHeads, IsGraph, IsHead, LeadsUp}
use Rattle.pc_flow.proofs.Lists.{each_at, each_got}

no_head : (points : List PointInfo) (p : ℕ) → NoHeads points → p < length points → IsHead points p → ⊥
no_head [] p none lt head = absurd (omega arith)
no_head (x ∷ xs) zero none lt head = let other = none.0 in cc
no_head (x ∷ xs) (suc p) none lt head = no_head xs p none.1 (omega arith) head

module _ (g : Flow) (graph : IsGraph g) where
  pub leads_of : (e : Arc) → In e g.edges → LeadsUp g.points g.variables e
  leads_of e m = each_at (LeadsUp g.points g.variables) g.edges e graph.leads m

  -- an edge to a point that is no head comes from below
  pub rises_unless : (e : Arc) → In e g.edges → (IsHead g.points e.to → ⊥) → e.from < e.to
  rises_unless e m other = by (leads_of e m).rises
    where
      by : (e.from < e.to) ⊎ IsHead g.points e.to → e.from < e.to
      by (inl up) = up
      by (inr head) = absurd (other head)

  -- without heads every edge rises
  pub always_rises : NoHeads g.points → (e : Arc) → In e g.edges → e.from < e.to
  always_rises none e m = rises_unless e m (λ head. no_head g.points e.to none (leads_of e m).reaches head)

  -- there is an entry
  pub has_entry : 0 < length g.points
  has_entry = (each_got (LeadsUp g.points g.variables) g.edges 0 _ graph.leads graph.enters).leaves
