-- What stays at a point where the values there, or at the sources of its edges, stay.
use Rattle.std.proofs.Common.{◌≡◌, ℕ, List, subst, Option, slice_get}
use Rattle.std.specs.Prelude.{IsSomeAnd}
use Rattle.pc_rows.specs.Linear.{State}
use Rattle.pc_flow.specs.Arc.{Arc}
use Rattle.pc_flow.specs.Flow.{Flow}
use Rattle.pc_flow.specs.Incidence.{entering}
use Rattle.pc_flow.specs.Lists.{In}
use Rattle.pc_domain.specs.declared.forward.Forward.{Ghosts}
use Rattle.pc_domain.specs.Values.{HasAt}
use Rattle.pc_domain.proofs.Folding.{folds_alike}
use Rattle.pc_domain.proofs.Options.{some_more}
use Rattle.pc_fixpoint.specs.Flowing.{After, Join, Gathered}
use Rattle.pc_fixpoint.specs.Marks.{IsSettledAt}

pub has_alike : {V : Type 0} (has : V → State → Type 0) (xs ys : List V) (p : ℕ) → slice_get xs p ≡ slice_get ys p → (s : State) → HasAt has xs p s → HasAt has ys p s
has_alike has xs ys p same s m = subst (λ (o : Option _). IsSomeAnd o (λ v. has v s)) same m

module _ {V : Type 0} (d : Ghosts V) (g : Flow) (xs ys : List V) (p : ℕ) (sources : (e : Arc) → In e (entering p g.edges) → slice_get xs e.from ≡ slice_get ys e.from) where
  pub gathered_alike : (v : V) → Gathered d g xs p v → Gathered d g ys p v
  gathered_alike v h = (h.0, h.1, folds_alike (After d) (Join d) (λ e. e.from) xs ys (entering p g.edges) h.0 v sources h.2)

  pub value_alike : slice_get xs p ≡ slice_get ys p → IsSomeAnd (slice_get xs p) (Gathered d g xs p) → IsSomeAnd (slice_get ys p) (Gathered d g ys p)
  value_alike here h = subst (λ (o : Option V). IsSomeAnd o (Gathered d g ys p)) here (some_more (slice_get xs p) (Gathered d g xs p) (Gathered d g ys p) gathered_alike h)

  pub settled_alike : slice_get xs p ≡ slice_get ys p → IsSettledAt d g xs p → IsSettledAt d g ys p
  settled_alike here h = (h.0, gathered_alike h.0 h.1, λ s m. has_alike d.has xs ys p here s (h.2 s m))
