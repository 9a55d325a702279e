-- Rounds from the greatest point down, point by point.
use Rattle.std.proofs.Common.{◌≡◌, ◌≢◌, ◌∙◌, ℕ, zero, suc, ◌+◌, ◌<◌, ◌≤◌, List, [], ◌∷◌, length, sym, refl, ap, subst, Some, Option, slice_get, arith, inl, inr, Bool, true, false, set, length-set}
use Rattle.std.specs.Prelude.{◌⊎◌, ◌==◌, IsSomeAnd}
use Rattle.std.proofs.lemmas.Bool.{eqb-true}
use Rattle.pc_rows.specs.Linear.{State}
use Rattle.pc_flow.specs.Arc.{Arc}
use Rattle.pc_flow.specs.Flow.{Flow}
use Rattle.pc_flow.specs.Incidence.{leaving}
use Rattle.pc_flow.specs.Lists.{In}
use Rattle.pc_flow.specs.Shape.{IsGraph}
use Rattle.pc_domain.specs.declared.backward.Backward.{Ghosts}
use Rattle.pc_domain.specs.Values.{HasAt}
use Rattle.pc_domain.proofs.Folding.{folds_alike}
use Rattle.pc_domain.proofs.Options.{some_more, is_some}
use Rattle.pc_domain.proofs.Picking.{picked_in}
use Rattle.pc_domain.proofs.Places.{got_set, got_set_other}
use Rattle.pc_fixpoint.specs.Flowing.{heads, IsHeadAt}
use Rattle.pc_fixpoint.specs.Ebbing.{Before, Both, Asked}
use Rattle.pc_fixpoint.specs.Sweeps.{IsEmptyAt, left, Leaves, IsKeptAt, Stepped, AreMarked, IsAskedAt, Swept}
use Rattle.pc_fixpoint.proofs.Alike.{has_alike}
use Rattle.pc_fixpoint.proofs.Pointing.{here_or_above, none_are_heads, rises}

left_set : (spent : List Bool) (p : ℕ) → slice_get spent p ≡ Some false → suc (left (set spent p true)) ≡ left spent
left_set [] p h = absurd (cc)
left_set (true ∷ spent) zero h = absurd (cc)
left_set (false ∷ spent) zero h = refl
left_set (true ∷ spent) (suc p) h = left_set spent p h
left_set (false ∷ spent) (suc p) h = ap suc (left_set spent p h)

module _ {V : Type 0} (d : Ghosts V) (g : Flow) where
  -- what is asked at a point stays where the targets of its edges stay
  asked_alike : (xs ys : List V) (p : ℕ) (v : V) → ((e : Arc) → In e g.edges → e.from ≡ p → slice_get xs e.to ≡ slice_get ys e.to) → Asked d g xs p v → Asked d g ys p v
  asked_alike xs ys p v same h = (
    h.0,
    h.1,
    folds_alike (Before d) (Both d) (λ e. e.to) xs ys (leaving p g.edges) h.0 v
        (λ e m. let picked = picked_in (λ (x : Arc). x.from == p) e g.edges m in same e picked.0 (eqb-true e.from p picked.1)) h.2,
  )

  point_alike : (xs ys : List V) (p : ℕ) → slice_get xs p ≡ slice_get ys p → ((e : Arc) → In e g.edges → e.from ≡ p → slice_get xs e.to ≡ slice_get ys e.to) →
      IsAskedAt d g xs p → IsAskedAt d g ys p
  point_alike xs ys p here same h = record {
    other = λ none. subst (λ (o : Option V). IsSomeAnd o (Asked d g ys p)) here (some_more (slice_get xs p) (Asked d g xs p) (Asked d g ys p) (λ v. asked_alike xs ys p v same) (h.other none));
    head = λ is. by (h.head is);
  }
    where
      by : IsEmptyAt d xs p ⊎ ((v : V) × Asked d g xs p v × ((s : State) → HasAt d.has xs p s → d.has v s)) →
          IsEmptyAt d ys p ⊎ ((v : V) × Asked d g ys p v × ((s : State) → HasAt d.has ys p s → d.has v s))
      by (inl empty) = inl (λ s m. empty s (has_alike d.has ys xs p (sym here) s m))
      by (inr v) = inr (v.0, asked_alike xs ys p v.0 same v.1, λ s m. v.2 s (has_alike d.has ys xs p (sym here) s m))

module _ {V : Type 0} (d : Ghosts V) (g : Flow) (graph : IsGraph g) where
  -- an edge from a point above, or from the point itself, does not lead to a point that is no head
  apart : (p : ℕ) → slice_get (heads g) p ≡ Some false → (e : Arc) → In e g.edges → p ≤ e.from → e.to ≢ p
  apart p none e m above to = let up = rises g graph e m (ap (slice_get (heads g)) to ∙ none) in absurd (omega arith)

  module _ (round p : ℕ) (before : List Bool) (changed : Bool) (values : List V) (spent : List Bool) (lt : p < length g.points)
      (swept : Swept d g round (p + 1) before changed values spent) where
    -- the value at a point is set: what stands at another point stays
    empty_other : (v : V) (q : ℕ) → q ≢ p → IsEmptyAt d values q → IsEmptyAt d (set values p v) q
    empty_other v q other empty s m = empty s (has_alike d.has (set values p v) values q (got_set_other values p q v other) s m)

    got_here : (v : V) → slice_get (set values p v) p ≡ Some v
    got_here v = got_set values p v (let l = swept.kept.long in omega arith)

    -- a point that is no head
    step_other : (v : V) → slice_get (heads g) p ≡ Some false → Asked d g values p v → Swept d g round p before changed (set values p v) spent
    step_other v none here = record {
      kept = record {
        long = length-set values p v ∙ swept.kept.long;
        marks = swept.kept.marks;
        empty = λ q is. let k = swept.kept.empty q is in
            (k.0, empty_other v q (λ e. let head = k.0 in let same = ap (slice_get (heads g)) e in cc) k.1);
      };
      done = λ c q le hi. by q (here_or_above p q le) hi (swept.done c q);
      fewer = swept.fewer;
      falls = swept.falls;
      loops = swept.loops;
    }
      where
        targets : (q : ℕ) → p ≤ q → (e : Arc) → In e g.edges → e.from ≡ q → slice_get values e.to ≡ slice_get (set values p v) e.to
        targets q le e m from = sym (got_set_other values p e.to v (apart p none e m (omega arith)))

        by : (q : ℕ) → (q ≡ p) ⊎ (p + 1 ≤ q) → q < length g.points → (p + 1 ≤ q → q < length g.points → IsAskedAt d g values q) → IsAskedAt d g (set values p v) q
        by q (inr up) hi go = point_alike d g values (set values p v) q (sym (got_set_other values p q v (λ e. omega arith))) (targets q (omega arith)) (go up hi)
        by q (inl is) hi go = subst (IsAskedAt d g (set values p v)) (sym is) (record {
          other = λ n. is_some (slice_get (set values p v) p) (Asked d g (set values p v) p) v (got_here v) (asked_alike d g values (set values p v) p v (targets p (omega arith)) here);
          head = λ head. absurd (cc);
        })

    -- a head that stays
    step_head : IsHeadAt g p → IsKeptAt d g values spent p → Swept d g round p before changed values spent
    step_head head h = record {
      kept = swept.kept;
      done = λ c q le hi. by q (here_or_above p q le) h hi (swept.done c q);
      fewer = swept.fewer;
      falls = swept.falls;
      loops = swept.loops;
    }
      where
        by : (q : ℕ) → (q ≡ p) ⊎ (p + 1 ≤ q) → IsKeptAt d g values spent p → q < length g.points → (p + 1 ≤ q → q < length g.points → IsAskedAt d g values q) → IsAskedAt d g values q
        by q (inr up) h hi go = go up hi
        by q (inl is) (inl gone) hi go = subst (IsAskedAt d g values) (sym is) (record { other = λ none. absurd (cc); head = λ _. inl (swept.kept.empty p gone).1 })
        by q (inl is) (inr v) hi go = subst (IsAskedAt d g values) (sym is) (record { other = λ none. absurd (cc); head = λ _. inr v })

    -- a head that is narrowed
    step_narrowed : (v : V) (spent' : List Bool) → IsHeadAt g p → slice_get spent p ≡ Some false → Leaves d round p v spent spent' →
        Swept d g round p before true (set values p v) spent'
    step_narrowed v spent' head fresh (inl h) = record {
      kept = record {
        long = length-set values p v ∙ swept.kept.long;
        marks = ap length h.1 ∙ swept.kept.marks;
        empty = λ q is. let k = swept.kept.empty q (ap (λ (z : List Bool). slice_get z q) (sym h.1) ∙ is) in
            (k.0, empty_other v q (λ e. let same = ap (slice_get spent') e in let was = ap (λ (z : List Bool). slice_get z p) h.1 in cc) k.1);
      };
      done = λ c. absurd (cc);
      fewer = (let f = swept.fewer in let same = ap left h.1 in omega arith);
      falls = λ c late. let early = h.0 in absurd (omega arith);
      loops = λ c none. let other = none_are_heads g none p lt in cc;
    }
    step_narrowed v spent' head fresh (inr h) = record {
      kept = record {
        long = length-set values p v ∙ swept.kept.long;
        marks = ap length h.1 ∙ length-set spent p true ∙ swept.kept.marks;
        empty = λ q is. by q (let either : (q ≡ p) ⊎ (q ≢ p) = grind arith in either) is;
      };
      done = λ c. absurd (cc);
      fewer = (let f = swept.fewer in let l = left_set spent p fresh in let same = ap left h.1 in omega arith);
      falls = λ c late. let f = swept.fewer in let l = left_set spent p fresh in let same = ap left h.1 in omega arith;
      loops = λ c none. let other = none_are_heads g none p lt in cc;
    }
      where
        by : (q : ℕ) → (q ≡ p) ⊎ (q ≢ p) → slice_get spent' q ≡ Some true → IsHeadAt g q × IsEmptyAt d (set values p v) q
        by q (inr other) is =
            let k = swept.kept.empty q (sym (got_set_other spent p q true other) ∙ ap (λ (z : List Bool). slice_get z q) (sym h.1) ∙ is) in
            (k.0, empty_other v q other k.1)
        by q (inl same) is = (
          ap (slice_get (heads g)) same ∙ head,
          λ s m. h.2 s (subst (λ (o : Option V). IsSomeAnd o (λ x. d.has x s)) (ap (slice_get (set values p v)) same ∙ got_here v) m),
        )

  pub swept_none : (round : ℕ) (values : List V) (spent : List Bool) → AreMarked d g values spent → Swept d g round (length g.points) spent false values spent
  swept_none round values spent kept = record {
    kept = kept;
    done = λ c q le hi. absurd (omega arith);
    fewer = omega arith;
    falls = λ c. absurd (cc);
    loops = λ c. absurd (cc);
  }

  -- one point of a round at which no head changes
  pub swept_same : (round p : ℕ) (before : List Bool) (changed : Bool) (values : List V) (spent : List Bool) (new : List V) (spent' : List Bool) → p < length g.points →
      Swept d g round (p + 1) before changed values spent → Stepped d g round values spent p false new spent' → Swept d g round p before changed new spent'
  swept_same round p before changed values spent new spent' lt swept step = subst (Swept d g round p before changed new) (sym step.0) (by step.1)
    where
      by : ((slice_get (heads g) p ≡ Some false) × ((v : _) × (new ≡ set values p v) × Asked d g values p v)) ⊎ (IsHeadAt g p × (new ≡ values) × IsKeptAt d g values spent p) →
          Swept d g round p before changed new spent
      by (inl h) = subst (λ (z : List V). Swept d g round p before changed z spent) (sym h.1.1) (step_other round p before changed values spent lt swept h.1.0 h.0 h.1.2)
      by (inr h) = subst (λ (z : List V). Swept d g round p before changed z spent) (sym h.1) (step_head round p before changed values spent lt swept h.0 h.2)

  -- one point of a round at which a head changes
  pub swept_changed : (round p : ℕ) (before : List Bool) (changed : Bool) (values : List V) (spent : List Bool) (new : List V) (spent' : List Bool) → p < length g.points →
      Swept d g round (p + 1) before changed values spent → Stepped d g round values spent p true new spent' → Swept d g round p before true new spent'
  swept_changed round p before changed values spent new spent' lt swept step =
      subst (λ (z : List V). Swept d g round p before true z spent') (sym step.2.1) (step_narrowed round p before changed values spent lt swept step.2.0 spent' step.0 step.1 step.2.2)
