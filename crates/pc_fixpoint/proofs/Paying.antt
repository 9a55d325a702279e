-- A state of what is asked at a point keeps what each edge from it asserts, and its successors are in the values at the targets.
use Rattle.std.proofs.Common.{◌≡◌, ◌∙◌, List, [], ◌∷◌, Option, Some, None, sym, ap, subst, slice_get, inl, inr}
use Rattle.pc_rows.specs.Linear.{State}
use Rattle.pc_flow.specs.declared.what.What.{What}
use Rattle.pc_flow.specs.Arc.{Arc}
use Rattle.pc_flow.specs.Carry.{HasVariable}
use Rattle.pc_flow.specs.Lists.{In}
use Rattle.pc_flow.specs.Walk.{Pass, Keeps}
use Rattle.pc_domain.specs.declared.backward.Backward.{Ghosts}
use Rattle.pc_domain.specs.Fold.{Brings, Folds}
use Rattle.pc_fixpoint.specs.Ebbing.{Before, Both}

module _ {V : Type 0} (d : Ghosts V) where
  -- the edge is paid by the state for a value at its target
  abbrev pub PaysFor : What → V → State → Type 0
  PaysFor e x s = Keeps e s × ((t : State) → Pass e s t → d.has x t)

  brings_less : (o : Option V) (e : What) (v u : V) → Brings (Before d) (Both d) o e v u → (s : State) → d.has u s → d.has v s
  brings_less (Some x) e v u h s m = (h.2.0 s m).0
  brings_less None e v u h s m = subst (λ z. d.has z s) h m

  -- no state is added
  ebbs_less : (values : List V) (edges : List Arc) (v w : V) → Folds (Before d) (Both d) (λ e. e.to) values edges v w → (s : State) → d.has w s → d.has v s
  ebbs_less values [] v w h s m = subst (λ z. d.has z s) h m
  ebbs_less values (e ∷ edges) v w h s m = brings_less (slice_get values e.to) e.what v h.0 h.1 s (ebbs_less values edges h.0 w h.2 s m)

  brings_pays : (o : Option V) (e : What) (v u x : V) → o ≡ Some x → Brings (Before d) (Both d) o e v u → (s : State) → HasVariable e s → d.has u s → PaysFor e x s
  brings_pays (Some y) e v u x o h s var m =
      let pays = h.1.0 s var (h.2.0 s m).1 in
      let same : y ≡ x = cc in
      (pays.0, λ t pass. subst (λ z. d.has z t) same (pays.1 t pass))
  brings_pays None e v u x o h s var m = absurd (cc)

  pub ebbs_pays : (values : List V) (edges : List Arc) (v w : V) → Folds (Before d) (Both d) (λ e. e.to) values edges v w →
      (e : Arc) → In e edges → (x : V) → slice_get values e.to ≡ Some x → (s : State) → HasVariable e.what s → d.has w s → PaysFor e.what x s
  ebbs_pays values [] v w h e m x at s var in' = absurd m
  ebbs_pays values (f ∷ edges) v w h e (inr m) x at s var in' = ebbs_pays values edges h.0 w h.2 e m x at s var in'
  ebbs_pays values (f ∷ edges) v w h e (inl same) x at s var in' =
      subst (λ (z : Arc). PaysFor z.what x s) (sym same)
      (brings_pays (slice_get values f.to) f.what v h.0 x (ap (λ (z : Arc). slice_get values z.to) (sym same) ∙ at) h.1 s
      (subst (λ (z : Arc). HasVariable z.what s) same var) (ebbs_less values edges h.0 w h.2 s in'))
