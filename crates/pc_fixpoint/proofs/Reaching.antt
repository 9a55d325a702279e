-- Values that no edge leaves have all states that are reached.
use Rattle.std.proofs.Common.{◌≡◌, ◌∙◌, ℕ, ◌<◌, List, length, refl, Some, None, Option, slice_get, arith, Bool, true, false, eq-eqb}
use Rattle.std.specs.Prelude.{◌==◌}
use Rattle.std.proofs.lemmas.List.{length-map}
use Rattle.std.proofs.lemmas.Option.{slice_get-get_or}
use Rattle.pc_rows.specs.Linear.{State}
use Rattle.pc_flow.specs.Arc.{Arc}
use Rattle.pc_flow.specs.Carry.{HasVariable}
use Rattle.pc_flow.specs.Flow.{Flow}
use Rattle.pc_flow.specs.Incidence.{entering}
use Rattle.pc_flow.specs.Lists.{In}
use Rattle.pc_flow.specs.Shape.{IsGraph}
use Rattle.pc_flow.specs.Walk.{Pass, Reach, entered}
use Rattle.pc_flow.proofs.Assigning.{has_variable}
use Rattle.pc_flow.proofs.Carrying.{same_length}
use Rattle.pc_flow.proofs.Closed.{forward_holds}
use Rattle.pc_domain.specs.declared.forward.Forward.{Ghosts}
use Rattle.pc_domain.specs.Values.{HasAt, IsConsistent}
use Rattle.pc_domain.proofs.Entered.{entered_long}
use Rattle.pc_domain.proofs.Heads.{leads_of}
use Rattle.pc_domain.proofs.Options.{some_is, is_some}
use Rattle.pc_domain.proofs.Picking.{in_picked}
use Rattle.pc_fixpoint.specs.Flowing.{heads, Everything, Gathered, Filled}
use Rattle.pc_fixpoint.specs.Rounds.{Settled}
use Rattle.pc_fixpoint.proofs.Landing.{flows_lands}
use Rattle.pc_fixpoint.proofs.Pointing.{rises}

module _ {V : Type 0} (d : Ghosts V) (g : Flow) (graph : IsGraph g) (values : List V) where
  lands : (e : Arc) → In e g.edges → (v : V) → Gathered d g values e.to v → (s t : State) → HasVariable e.what s → HasAt d.has values e.from s → Pass e.what s t → d.has v t
  lands e m v h s t var in' pass =
      let u = some_is (slice_get values e.from) (λ x. d.has x s) in' in
      let among = in_picked (λ (x : Arc). x.to == e.to) e g.edges m (eq-eqb e.to e.to refl) in
      flows_lands d values (entering e.to g.edges) h.0 v h.2 e among u.0 u.1 s t var u.2 pass

  -- where the heads are settled no edge leads out
  pub all_consistent : Filled d g (length g.points) (length g.points) values → Settled d g values → IsConsistent d.has g values
  all_consistent h settled e m s t var in' pass = by (slice_get (heads g) e.to) refl (leads_of g graph e m).reaches
    where
      by : (o : Option Bool) → slice_get (heads g) e.to ≡ o → e.to < length g.points → HasAt d.has values e.to t
      by None is lt = absurd (let got = slice_get-get_or (heads g) e.to false (let l = length-map g.points (λ x. x.head) in omega arith) in cc)
      by (Some true) is lt = let j = settled e.to is in j.2 t (lands e m j.0 j.1 s t var in' pass)
      by (Some false) is lt =
          let v = some_is (slice_get values e.to) (Gathered d g values e.to) (h.points e.to (let r = rises g graph e m is in omega arith) lt is) in
          is_some (slice_get values e.to) (λ x. d.has x t) v.0 v.1 (lands e m v.0 v.2 s t var in' pass)

  -- every state that is reached is in the value at its point
  pub all_reached : Filled d g (length g.points) (length g.points) values → IsConsistent d.has g values → (p : ℕ) (t : State) → Reach g p t → HasAt d.has values p t
  all_reached h consistent p t r =
      let all = some_is (slice_get values 0) (Everything d g.variables) h.entry in
      let begin = is_some (slice_get values 0) (λ x. d.has x (entered g r.0)) all.0 all.1 (all.2.0 (entered g r.0)) in
      (forward_holds g.edges (λ q u. (length u ≡ g.variables) × HasAt d.has values q u) 0 (entered g r.0)
      (λ e m s u here pass. (same_length e.what s u pass ∙ here.0, consistent e m s u (has_variable g.variables e.what s (leads_of g graph e m).over here.0) here.1 pass))
      (entered_long g r.0 graph.parameters r.1, begin) r.2.0 p t r.2.1).1
