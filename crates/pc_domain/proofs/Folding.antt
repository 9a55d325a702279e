-- Folds over edges, edge by edge.
use Rattle.std.proofs.Common.{◌≡◌, ℕ, ◌+◌, ◌≤◌, List, [], ◌∷◌, drop, length, sym, refl, ap, subst, Some, None, Option, slice_get, inl, inr, map}
use Rattle.std.specs.Option.{option_map}
use Rattle.std.proofs.lemmas.List.{drop_all}
use Rattle.std.proofs.lemmas.Option.{slice_get-map}
use Rattle.pc_rows.proofs.Adding.{drop_got}
use Rattle.pc_flow.specs.declared.what.What.{What}
use Rattle.pc_flow.specs.Arc.{Arc}
use Rattle.pc_flow.specs.Lists.{In}
use Rattle.pc_domain.specs.Fold.{Brings, Folds}

module _ {V : Type 0} (leads : V → What → V → Type 0) (joins : V → V → V → Type 0) (end : Arc → ℕ) where
  -- what the edges from place k on make of v is what all of them make of the start
  abbrev pub Remains : List V → List Arc → ℕ → V → V → Type 0
  Remains values edges k v start = (w : _) → Folds leads joins end values (drop k edges) v w → Folds leads joins end values edges start w

  pub remains_next : (values : List V) (edges : List Arc) (k : ℕ) (e : Arc) (v u start : V) → slice_get edges k ≡ Some e →
      Remains values edges k v start → Brings leads joins (slice_get values (end e)) e.what v u → Remains values edges (k + 1) u start
  remains_next values edges k e v u start at so_far one =
      λ w h. so_far w (subst (λ (z : List Arc). Folds leads joins end values z v w) (sym (drop_got edges k e at)) (u, one, h))

  pub remains_none : (values : List V) (edges : List Arc) (k : ℕ) (v start : V) → length edges ≤ k → Remains values edges k v start →
      Folds leads joins end values edges start v
  remains_none values edges k v start le so_far =
      so_far v (subst (λ (z : List Arc). Folds leads joins end values z v v) (sym (drop_all k edges le)) refl)

  -- the same fold where the ends of the edges have the same values
  pub folds_alike : (xs ys : List V) (edges : List Arc) (v w : V) → ((e : Arc) → In e edges → slice_get xs (end e) ≡ slice_get ys (end e)) →
      Folds leads joins end xs edges v w → Folds leads joins end ys edges v w
  folds_alike xs ys [] v w same h = h
  folds_alike xs ys (e ∷ edges) v w same h = (
    h.0,
    subst (λ (o : Option V). Brings leads joins o e.what v h.0) (same e (inl refl)) h.1,
    folds_alike xs ys edges h.0 w (λ f m. same f (inr m)) h.2,
  )

-- a view of the values folds in the same way
module _ {V W : Type 0} (view : V → W) (leads : V → What → V → Type 0) (joins : V → V → V → Type 0) (leads' : W → What → W → Type 0) (joins' : W → W → W → Type 0)
    (led : (u : V) (e : What) (v : V) → leads u e v → leads' (view u) e (view v)) (joined : (u v w : V) → joins u v w → joins' (view u) (view v) (view w)) where
  brings_seen : (o : Option V) (e : What) (v u : V) → Brings leads joins o e v u → Brings leads' joins' (option_map view o) e (view v) (view u)
  brings_seen (Some x) e v u h = (view h.0, led x e h.0 h.1, joined v h.0 u h.2)
  brings_seen None e v u h = ap view h

  pub folds_seen : (end : Arc → ℕ) (values : List V) (edges : List Arc) (v w : V) → Folds leads joins end values edges v w →
      Folds leads' joins' end (map view values) edges (view v) (view w)
  folds_seen end values [] v w h = ap view h
  folds_seen end values (e ∷ edges) v w h = (
    view h.0,
    subst (λ (z : Option W). Brings leads' joins' z e.what (view v) (view h.0)) (sym (slice_get-map view values (end e))) (brings_seen (slice_get values (end e)) e.what v h.0 h.1),
    folds_seen end values edges h.0 w h.2,
  )
