-- What passes an edge lands in what flows into its target.
use Rattle.std.proofs.Common.{◌≡◌, ◌∙◌, List, [], ◌∷◌, Option, Some, None, sym, ap, subst, slice_get, inl, inr}
use Rattle.pc_rows.specs.Linear.{State}
use Rattle.pc_flow.specs.declared.what.What.{What}
use Rattle.pc_flow.specs.Arc.{Arc}
use Rattle.pc_flow.specs.Carry.{HasVariable}
use Rattle.pc_flow.specs.Lists.{In}
use Rattle.pc_flow.specs.Walk.{Pass}
use Rattle.pc_domain.specs.declared.forward.Forward.{Ghosts}
use Rattle.pc_domain.specs.Fold.{Brings, Folds}
use Rattle.pc_fixpoint.specs.Flowing.{After, Join}

module _ {V : Type 0} (d : Ghosts V) where
  brings_keeps : (o : Option V) (e : What) (v u : V) → Brings (After d) (Join d) o e v u → (s : State) → d.has v s → d.has u s
  brings_keeps (Some x) e v u h s m = h.2.0 s (inl m)
  brings_keeps None e v u h s m = subst (λ z. d.has z s) (sym h) m

  -- the states so far stay
  flows_keeps : (values : List V) (edges : List Arc) (v w : V) → Folds (After d) (Join d) (λ e. e.from) values edges v w → (s : State) → d.has v s → d.has w s
  flows_keeps values [] v w h s m = subst (λ z. d.has z s) (sym h) m
  flows_keeps values (e ∷ edges) v w h s m = flows_keeps values edges h.0 w h.2 s (brings_keeps (slice_get values e.from) e.what v h.0 h.1 s m)

  brings_lands : (o : Option V) (e : What) (v u x : V) → o ≡ Some x → Brings (After d) (Join d) o e v u → (s t : State) → HasVariable e s → d.has x s → Pass e s t → d.has u t
  brings_lands (Some y) e v u x o h s t var m pass = h.2.0 t (inr (h.1.0 s t var (let same : x ≡ y = cc in subst (λ z. d.has z s) same m) pass))
  brings_lands None e v u x o h s t var m pass = absurd (cc)

  pub flows_lands : (values : List V) (edges : List Arc) (v w : V) → Folds (After d) (Join d) (λ e. e.from) values edges v w →
      (e : Arc) → In e edges → (x : V) → slice_get values e.from ≡ Some x → (s t : State) → HasVariable e.what s → d.has x s → Pass e.what s t → d.has w t
  flows_lands values [] v w h e m x at s t var in' pass = absurd m
  flows_lands values (f ∷ edges) v w h e (inr m) x at s t var in' pass = flows_lands values edges h.0 w h.2 e m x at s t var in' pass
  flows_lands values (f ∷ edges) v w h e (inl same) x at s t var in' pass =
      flows_keeps values edges h.0 w h.2 t
      (brings_lands (slice_get values f.from) f.what v h.0 x (ap (λ (z : Arc). slice_get values z.from) (sym same) ∙ at) h.1 s t
      (subst (λ (z : Arc). HasVariable z.what s) same var) in' (subst (λ (z : Arc). Pass z.what s t) same pass))
