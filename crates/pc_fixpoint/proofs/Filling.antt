-- Points are filled from the least number up.
use Rattle.std.proofs.Common.{◌≡◌, ◌∙◌, ℕ, ◌+◌, ◌<◌, List, [], ◌∷◌, ◌++◌, length, sym, refl, ap, subst, Some, Option, slice_get, arith, inl, inr, false, map, set, length-set, length-append}
use Rattle.std.specs.Prelude.{◌⊎◌, ◌==◌, IsSomeAnd}
use Rattle.std.specs.Option.{option_map}
use Rattle.std.proofs.lemmas.Bool.{eqb-true}
use Rattle.std.proofs.lemmas.List.{length-map}
use Rattle.std.proofs.lemmas.Option.{slice_get-map}
use Rattle.pc_flow.specs.Arc.{Arc}
use Rattle.pc_flow.specs.Flow.{Flow}
use Rattle.pc_flow.specs.Incidence.{entering}
use Rattle.pc_flow.specs.Lists.{In}
use Rattle.pc_flow.specs.Shape.{NoHeads, IsGraph}
use Rattle.pc_domain.specs.declared.forward.Forward.{Ghosts}
use Rattle.pc_domain.specs.Fold.{FlowsTo, IsFold}
use Rattle.pc_domain.proofs.Folding.{folds_seen}
use Rattle.pc_domain.proofs.Options.{some_more, some_is, is_some}
use Rattle.pc_domain.proofs.Picking.{picked_in}
use Rattle.pc_domain.proofs.Places.{got_before, got_last, got_set, got_set_other}
use Rattle.pc_fixpoint.specs.Flowing.{heads, Everything, After, Join, Gathered, Filled}
use Rattle.pc_fixpoint.proofs.Alike.{gathered_alike}
use Rattle.pc_fixpoint.proofs.Pointing.{none_are_heads, rises}

module _ {V : Type 0} (d : Ghosts V) (g : Flow) (graph : IsGraph g) where
  -- an edge that enters a point that is no head comes from below
  from_below : (p : ℕ) → slice_get (heads g) p ≡ Some false → (e : Arc) → In e (entering p g.edges) → e.from < p
  from_below p other e m =
      let picked = picked_in (λ (x : Arc). x.to == p) e g.edges m in
      let to : e.to ≡ p = eqb-true e.to p picked.1 in
      subst (λ (q : ℕ). e.from < q) to (rises g graph e picked.0 (subst (λ (q : ℕ). slice_get (heads g) q ≡ Some false) (sym to) other))

  -- and so what is gathered there depends on the points below alone
  below_alike : (xs ys : List V) (p : ℕ) (v : V) → slice_get (heads g) p ≡ Some false → ((q : ℕ) → q < p → slice_get xs q ≡ slice_get ys q) →
      Gathered d g xs p v → Gathered d g ys p v
  below_alike xs ys p v other same h = gathered_alike d g xs ys p (λ e m. same e.from (from_below p other e m)) v h

  pub filled_entry : (v : V) → Everything d g.variables v → Filled d g 1 1 (v ∷ [])
  filled_entry v h = record { long = refl; entry = h; points = λ p low high. absurd (omega arith) }

  -- one more point, whether it is a head or not
  pub filled_push : (k : ℕ) (values : List V) (v : V) → 0 < k → Filled d g k k values → Gathered d g values k v → Filled d g (k + 1) (k + 1) (values ++ v ∷ [])
  filled_push k values v low h here = record {
    long = (let l = h.long in omega (arith, length-append values (v ∷ [])));
    entry = subst (λ (o : Option V). IsSomeAnd o (Everything d g.variables)) (sym (got_before values v 0 (let l = h.long in omega arith))) h.entry;
    points = λ p lo hi other. by p lo (let either : (p ≡ k) ⊎ (p < k) = grind arith in either) other;
  }
    where
      before : (q : ℕ) → q < k → slice_get values q ≡ slice_get (values ++ v ∷ []) q
      before q lt = sym (got_before values v q (let l = h.long in omega arith))

      by : (p : ℕ) → 0 < p → (p ≡ k) ⊎ (p < k) → slice_get (heads g) p ≡ Some false → IsSomeAnd (slice_get (values ++ v ∷ []) p) (Gathered d g (values ++ v ∷ []) p)
      by p lo (inr lt) other =
          subst (λ (o : Option V). IsSomeAnd o (Gathered d g (values ++ v ∷ []) p)) (before p lt)
          (some_more (slice_get values p) (Gathered d g values p) (Gathered d g (values ++ v ∷ []) p)
          (λ x. below_alike values (values ++ v ∷ []) p x other (λ q qp. before q (omega arith))) (h.points p lo lt other))
      by p lo (inl is) other =
          is_some (slice_get (values ++ v ∷ []) p) (Gathered d g (values ++ v ∷ []) p) v (ap (slice_get (values ++ v ∷ [])) (is ∙ sym h.long) ∙ got_last values v)
          (below_alike values (values ++ v ∷ []) p v other (λ q qp. before q (omega arith)) (subst (λ (q : ℕ). Gathered d g values q v) (sym is) here))

  -- the next point stays: it is a head, or is gathered as it stands
  pub filled_kept : (n k : ℕ) (values : List V) → (slice_get (heads g) k ≡ Some false → IsSomeAnd (slice_get values k) (Gathered d g values k)) →
      Filled d g n k values → Filled d g n (k + 1) values
  filled_kept n k values here h = record {
    long = h.long;
    entry = h.entry;
    points = λ p lo hi other. by p lo (let either : (p ≡ k) ⊎ (p < k) = grind arith in either) other;
  }
    where
      by : (p : ℕ) → 0 < p → (p ≡ k) ⊎ (p < k) → slice_get (heads g) p ≡ Some false → IsSomeAnd (slice_get values p) (Gathered d g values p)
      by p lo (inr lt) other = h.points p lo lt other
      by p lo (inl is) other =
          subst (λ (q : ℕ). IsSomeAnd (slice_get values q) (Gathered d g values q)) (sym is) (here (subst (λ (q : ℕ). slice_get (heads g) q ≡ Some false) is other))

  -- the next point is no head and is gathered anew
  pub filled_set : (n k : ℕ) (values : List V) (v : V) → 0 < k → k < n → slice_get (heads g) k ≡ Some false → Filled d g n k values → Gathered d g values k v → Filled d g n (k + 1) (set values k v)
  filled_set n k values v low high none h here = record {
    long = length-set values k v ∙ h.long;
    entry = subst (λ (o : Option V). IsSomeAnd o (Everything d g.variables)) (before 0 low) h.entry;
    points = λ p lo hi other. by p lo (let either : (p ≡ k) ⊎ (p < k) = grind arith in either) other;
  }
    where
      before : (q : ℕ) → q < k → slice_get values q ≡ slice_get (set values k v) q
      before q lt = sym (got_set_other values k q v (λ e. omega arith))

      by : (p : ℕ) → 0 < p → (p ≡ k) ⊎ (p < k) → slice_get (heads g) p ≡ Some false → IsSomeAnd (slice_get (set values k v) p) (Gathered d g (set values k v) p)
      by p lo (inr lt) other =
          subst (λ (o : Option V). IsSomeAnd o (Gathered d g (set values k v) p)) (before p lt)
          (some_more (slice_get values p) (Gathered d g values p) (Gathered d g (set values k v) p)
          (λ x. below_alike values (set values k v) p x other (λ q qp. before q (omega arith))) (h.points p lo lt other))
      by p lo (inl is) other =
          is_some (slice_get (set values k v) p) (Gathered d g (set values k v) p) v
          (ap (slice_get (set values k v)) is ∙ got_set values k v (let l = h.long in omega arith))
          (below_alike values (set values k v) p v other (λ q qp. before q (omega arith)) (subst (λ (q : ℕ). Gathered d g values q v) (sym is) here))

  -- heads may change as they like: the entry is none
  pub filled_again : (n k : ℕ) (values new : List V) → length new ≡ length values → slice_get new 0 ≡ slice_get values 0 → Filled d g n k values → Filled d g n 1 new
  filled_again n k values new long first h = record {
    long = long ∙ h.long;
    entry = subst (λ (o : Option V). IsSomeAnd o (Everything d g.variables)) (sym first) h.entry;
    points = λ p lo hi other. absurd (omega arith);
  }

  -- without heads the views are the fold of the edges
  pub filled_folds : (values : List V) → NoHeads g.points → Filled d g (length g.points) (length g.points) values → IsFold d.says g (map d.view values)
  filled_folds values none h = record {
    long = length-map values d.view ∙ h.long;
    entry = (let e = some_is (slice_get values 0) (Everything d g.variables) h.entry in
        is_some (slice_get (map d.view values) 0) (d.says.everything g.variables) (d.view e.0) (slice_get-map d.view values 0 ∙ ap (option_map d.view) e.1) e.2.1);
    points = λ p lo hi.
        let e = some_is (slice_get values p) (Gathered d g values p) (h.points p lo hi (none_are_heads g none p hi)) in
        is_some (slice_get (map d.view values) p) (FlowsTo d.says g (map d.view values) p) (d.view e.0)
        (slice_get-map d.view values p ∙ ap (option_map d.view) e.1)
        (d.view e.2.0, e.2.1.1, folds_seen d.view (After d) (Join d) d.says.after d.says.join (λ u e v h. h.1) (λ u v w h. h.1) (λ e. e.from) values (entering p g.edges) e.2.0 e.0 e.2.2);
  }
