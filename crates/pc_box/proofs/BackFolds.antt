-- The fold of the views of boxes over the edges that leave a point, box by box.
use Rattle.std.proofs.Common.{◌≡◌, ◌∙◌, ℕ, ◌<◌, List, [], ◌∷◌, length, Option, Some, None, slice_get, refl, sym, ap, subst, inl, inr}
use Rattle.std.specs.Prelude.{◌↔◌, slice_index_or}
use Rattle.std.proofs.lemmas.Option.{slice_get-get_or}
use Rattle.pc_rows.specs.Linear.{State}
use Rattle.pc_flow.specs.declared.what.What.{What}
use Rattle.pc_flow.specs.Arc.{Arc}
use Rattle.pc_flow.specs.Lists.{In}
use Rattle.pc_domain.specs.Fold.{Brings, Folds}
use Rattle.pc_domain.specs.View.{View}
use Rattle.pc_box.specs.Boxes.{Box, HasBox}
use Rattle.pc_box.specs.Meeting.{both_of}
use Rattle.pc_box.specs.Backward.{before_of, box_back_says}
use Rattle.pc_box.specs.Views.{box_of}
use Rattle.pc_box.proofs.Intersecting.{both_exact}
use Rattle.pc_box.proofs.Small.{BoxIsSmall, both_small}
use Rattle.pc_box.proofs.Viewing.{box_view}

module _ (views : List View) where
  -- the box of the view at a point
  abbrev pub box_at_point : ℕ → Box
  box_at_point p = box_of (slice_index_or views p None)

  brings_box : (o : Option View) (e : What) (v w u : View) → o ≡ Some u → Brings box_back_says.before box_back_says.both o e v w → box_of w ≡ both_of (box_of v) (before_of e (box_of u))
  brings_box None e v w u at h = absurd (cc)
  brings_box (Some x) e v w u at h =
      let same : x ≡ u = cc in
      let before : box_of h.0 ≡ before_of e (box_of x) = ap box_of h.1 ∙ box_view (before_of e (box_of x)) in
      ap box_of h.2 ∙ box_view (both_of (box_of v) (box_of h.0)) ∙ ap (both_of (box_of v)) (before ∙ ap (λ (z : View). before_of e (box_of z)) same)

  abbrev FoldsTo : List Arc → View → View → Type 0
  FoldsTo edges v w = Folds box_back_says.before box_back_says.both (λ e. e.to) views edges v w

  one_edge : (e : Arc) (v w : View) → e.to < length views → Brings box_back_says.before box_back_says.both (slice_get views e.to) e.what v w →
      box_of w ≡ both_of (box_of v) (before_of e.what (box_at_point e.to))
  one_edge e v w lt h = brings_box (slice_get views e.to) e.what v w (slice_index_or views e.to None) (slice_get-get_or views e.to None lt) h

  pub folds_exact : (edges : List Arc) (v w : View) → ((e : Arc) → In e edges → e.to < length views) → FoldsTo edges v w → (s : State) →
      HasBox (box_of w) s ↔ (HasBox (box_of v) s × ((e : Arc) → In e edges → HasBox (before_of e.what (box_at_point e.to)) s))
  folds_exact [] v w within h s = (
    (λ has. (subst (λ (z : View). HasBox (box_of z) s) h has, λ e m. absurd m)),
    (λ k. subst (λ (z : View). HasBox (box_of z) s) (sym h) k.0),
  )
  folds_exact (e ∷ edges) v w within h s =
      let one = one_edge e v h.0 (within e (inl refl)) h.1 in
      let rest = folds_exact edges h.0 w (λ f m. within f (inr m)) h.2 s in
      let both = both_exact (box_of v) (before_of e.what (box_at_point e.to)) s in (
        (λ has.
            let r = rest.0 has in
            let b = both.0 (subst (λ (z : Box). HasBox z s) one r.0) in
            (b.0, λ f m. either f m b.1 r.1)),
        (λ k. rest.1 (subst (λ (z : Box). HasBox z s) (sym one) (both.1 (k.0, k.1 e (inl refl))), λ f m. k.1 f (inr m))),
      )
    where
      either : (f : Arc) → In f (e ∷ edges) → HasBox (before_of e.what (box_at_point e.to)) s → ((g : Arc) → In g edges → HasBox (before_of g.what (box_at_point g.to)) s) →
          HasBox (before_of f.what (box_at_point f.to)) s
      either f (inl is) here more = subst (λ (z : Arc). HasBox (before_of z.what (box_at_point z.to)) s) (sym is) here
      either f (inr m) here more = more f m

  pub folds_small : (k : ℕ) (edges : List Arc) (v w : View) → ((e : Arc) → In e edges → e.to < length views) → FoldsTo edges v w → BoxIsSmall k (box_of v) →
      ((e : Arc) → In e edges → BoxIsSmall k (before_of e.what (box_at_point e.to))) → BoxIsSmall k (box_of w)
  folds_small k [] v w within h small all = subst (λ (z : View). BoxIsSmall k (box_of z)) (sym h) small
  folds_small k (e ∷ edges) v w within h small all =
      folds_small k edges h.0 w (λ f m. within f (inr m)) h.2
      (subst (BoxIsSmall k) (sym (one_edge e v h.0 (within e (inl refl)) h.1)) (both_small k (box_of v) (before_of e.what (box_at_point e.to)) small (all e (inl refl)))) (λ f m. all f (inr m))
