-- After a round in which no head changed no edge leads out, and so the states of the value at the entry are safe.
use Rattle.std.proofs.Common.{◌≡◌, ◌∙◌, ℕ, ◌<◌, List, length, get_or, refl, ap, subst, Some, None, Option, slice_get, arith, inl, inr, Bool, true, false, map, eq-eqb}
use Rattle.std.specs.Prelude.{◌⊎◌, ◌==◌}
use Rattle.std.specs.Option.{option_map}
use Rattle.std.proofs.lemmas.List.{length-map}
use Rattle.std.proofs.lemmas.Option.{slice_get-map, slice_get-get_or}
use Rattle.pc_rows.specs.Linear.{State}
use Rattle.pc_flow.specs.Arc.{Arc}
use Rattle.pc_flow.specs.Flow.{Flow}
use Rattle.pc_flow.specs.Incidence.{leaving}
use Rattle.pc_flow.specs.Shape.{NoHeads, IsGraph}
use Rattle.pc_flow.specs.Walk.{Pass, Keeps, IsEntry, GraphSafe, entered}
use Rattle.pc_flow.proofs.Assigning.{has_variable}
use Rattle.pc_flow.proofs.Carrying.{same_length}
use Rattle.pc_flow.proofs.Closed.{closed_is_safe}
use Rattle.pc_domain.specs.declared.backward.Backward.{Ghosts}
use Rattle.pc_domain.specs.Fold.{EbbsTo, IsBackFold}
use Rattle.pc_domain.specs.Values.{HasAt, IsBackConsistent}
use Rattle.pc_domain.proofs.Folding.{folds_seen}
use Rattle.pc_domain.proofs.Entered.{entered_long}
use Rattle.pc_domain.proofs.Heads.{leads_of}
use Rattle.pc_domain.proofs.Options.{some_is, is_some}
use Rattle.pc_domain.proofs.Picking.{in_picked}
use Rattle.pc_fixpoint.specs.Flowing.{heads}
use Rattle.pc_fixpoint.specs.Ebbing.{Before, Both, Asked}
use Rattle.pc_fixpoint.specs.Sweeps.{IsEmptyAt, IsAskedAt, Swept}
use Rattle.pc_fixpoint.proofs.Paying.{ebbs_pays}
use Rattle.pc_fixpoint.proofs.Pointing.{none_are_heads}

module _ {V : Type 0} (d : Ghosts V) (g : Flow) (graph : IsGraph g) (round : ℕ) (before : List Bool) (values : List V) (spent : List Bool)
    (swept : Swept d g round 0 before false values spent) where
  pub swept_consistent : IsBackConsistent d.has g values
  swept_consistent e m s var in' =
      let leads = leads_of g graph e m in
      by (slice_get (heads g) e.from) refl leads.leaves leads.reaches (swept.done refl e.from (omega arith) leads.leaves)
    where
      Pays : Type 0
      Pays = Keeps e.what s × ((t : State) → Pass e.what s t → HasAt d.has values e.to t)

      pays : (w : V) → Asked d g values e.from w → e.to < length g.points → d.has w s → Pays
      pays w h lt has =
          let got : slice_get values e.to ≡ Some (get_or values e.to w) = slice_get-get_or values e.to w (let l = swept.kept.long in omega arith) in
          let among = in_picked (λ (x : Arc). x.from == e.from) e g.edges m (eq-eqb e.from e.from refl) in
          let k = ebbs_pays d values (leaving e.from g.edges) h.0 w h.2 e among (get_or values e.to w) got s var has in
          (k.0, λ t pass. is_some (slice_get values e.to) (λ v. d.has v t) (get_or values e.to w) got (k.1 t pass))

      at_head : e.to < length g.points → IsEmptyAt d values e.from ⊎ ((v : V) × Asked d g values e.from v × ((u : State) → HasAt d.has values e.from u → d.has v u)) → Pays
      at_head lt (inl empty) = absurd (empty s in')
      at_head lt (inr v) = pays v.0 v.1 lt (v.2 s in')

      by : (o : Option Bool) → slice_get (heads g) e.from ≡ o → e.from < length g.points → e.to < length g.points → IsAskedAt d g values e.from → Pays
      by None is lt reach done = absurd (let got = slice_get-get_or (heads g) e.from false (let l = length-map g.points (λ x. x.head) in omega arith) in cc)
      by (Some true) is lt reach done = at_head reach (done.head is)
      by (Some false) is lt reach done =
          let w = some_is (slice_get values e.from) (Asked d g values e.from) (done.other is) in
          let got = some_is (slice_get values e.from) (λ v. d.has v s) in' in
          pays w.0 w.2 reach (let same : got.0 ≡ w.0 = let a = got.1 in let b = w.1 in cc in subst (λ z. d.has z s) same got.2)

  -- without heads the views are the fold of the edges
  pub swept_folds : NoHeads g.points → IsBackFold d.says g (map d.view values)
  swept_folds none = record {
    long = length-map values d.view ∙ swept.kept.long;
    points = λ p lt.
        let w = some_is (slice_get values p) (Asked d g values p) ((swept.done refl p (omega arith) lt).other (none_are_heads g none p lt)) in
        is_some (slice_get (map d.view values) p) (EbbsTo d.says g (map d.view values) p) (d.view w.0)
        (slice_get-map d.view values p ∙ ap (option_map d.view) w.1)
        (d.view w.2.0, w.2.1.1, folds_seen d.view (Before d) (Both d) d.says.before d.says.both (λ u e v h. h.1) (λ u v w h. h.1) (λ e. e.to) values (leaving p g.edges) w.2.0 w.0 w.2.2);
  }

-- no walk from a state of the value at the entry comes to an assertion that does not hold
pub consistent_is_safe : {V : Type 0} (has : V → State → Type 0) (g : Flow) (values : List V) → IsGraph g → IsBackConsistent has g values →
    (s : State) → IsEntry g s → HasAt has values 0 (entered g s) → GraphSafe g s
consistent_is_safe has g values graph consistent s entry begin =
    closed_is_safe g (λ p t. (length t ≡ g.variables) × HasAt has values p t) s
    (λ e m t h.
    let pays = consistent e m t (has_variable g.variables e.what t (leads_of g graph e m).over h.0) h.1 in
    (pays.0, λ u pass. (same_length e.what t u pass ∙ h.0, pays.1 u pass)))
    (entered_long g s graph.parameters entry, begin)
