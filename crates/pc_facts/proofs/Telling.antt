-- Rows and lines, point by point.
use Rattle.std.proofs.Common.{◌≡◌, ◌∙◌, ℕ, suc, ◌+◌, ◌<◌, List, [], ◌∷◌, ◌++◌, length, length-append, append_assoc, refl, sym, ap, subst, Some, slice_get, arith, inl, inr, map}
use Rattle.std.specs.Prelude.{◌⊎◌, IsSomeAnd}
use Rattle.std.specs.Option.{option_map}
use Rattle.std.proofs.lemmas.List.{length-map, append-nil}
use Rattle.std.proofs.lemmas.Option.{slice_get-map, slice_get_within}
use Rattle.pc_text.specs.Bytes.{Bytes}
use Rattle.pc_rows.specs.Linear.{Linear, State, MeetsAll}
use Rattle.pc_flow.specs.Flow.{Flow}
use Rattle.pc_flow.specs.Walk.{Reach}
use Rattle.pc_flow.specs.declared.point.PointInfo.{PointInfo}
use Rattle.pc_flow.specs.Shape.{NoHeads}
use Rattle.pc_domain.specs.declared.forward.Forward.{Ghosts}
use Rattle.pc_domain.specs.Fold.{IsFold}
use Rattle.pc_domain.specs.Values.{HasAt}
use Rattle.pc_domain.proofs.Options.{some_is, is_some}
use Rattle.pc_domain.proofs.Places.{got_before, got_last}
use Rattle.pc_facts.specs.Lines.{point_line, lines_from}
use Rattle.pc_facts.specs.Facts.{RowsAre, AreTold, AreLines, AreSaid, IsFacts}

lines_more : (names : List Bytes) (points : List PointInfo) (rows : List (List Linear)) (r : List Linear) (p k : ℕ) → k ≡ p + length rows →
    lines_from names points p (rows ++ r ∷ []) ≡ lines_from names points p rows ++ point_line names points k r
lines_more names points [] r p k is =
    let same : k ≡ p = omega arith in
    append-nil (point_line names points p r) ∙ ap (λ (n : ℕ). point_line names points n r) (sym same)
lines_more names points (x ∷ rows) r p k is =
    ap (λ (z : Bytes). point_line names points p x ++ z) (lines_more names points rows r (suc p) k (omega arith))
    ∙ sym (append_assoc (point_line names points p x) (lines_from names points (suc p) rows) (point_line names points k r))

module _ {V : Type 0} (d : Ghosts V) (values : List V) where
  told_more : (k : ℕ) (rows : List (List Linear)) (v : V) (r : List Linear) → slice_get values k ≡ Some v → AreTold d values k rows → RowsAre d v r → AreTold d values (k + 1) (rows ++ r ∷ [])
  told_more k rows v r at h here = record {
    long = (let l = h.long in omega (arith, length-append rows (r ∷ [])));
    each = λ p lt. by p (let either : (p ≡ k) ⊎ (p < k) = grind arith in either);
  }
    where
      by : (p : ℕ) → (p ≡ k) ⊎ (p < k) → (v : V) × (slice_get values p ≡ Some v) × ((s : List Linear) × (slice_get (rows ++ r ∷ []) p ≡ Some s) × RowsAre d v s)
      by p (inr lt) = let e = h.each p lt in (e.0, e.1, (e.2.0, got_before rows r p (let l = h.long in omega arith) ∙ e.2.1, e.2.2))
      by p (inl same) = (v, ap (slice_get values) same ∙ at, (r, ap (slice_get (rows ++ r ∷ [])) (same ∙ sym h.long) ∙ got_last rows r, here))

  -- one line more
  pub lines_next : (g : Flow) (names : List Bytes) (k : ℕ) (text new : Bytes) (v : V) (r : List Linear) → slice_get values k ≡ Some v → RowsAre d v r →
      new ≡ text ++ point_line names g.points k r → AreLines d g names values k text → AreLines d g names values (k + 1) new
  lines_next g names k text new v r at here is h = record {
    rows = h.rows ++ r ∷ [];
    told = told_more k h.rows v r at h.told here;
    printed = is ∙ ap (λ (z : Bytes). z ++ point_line names g.points k r) h.printed ∙ sym (lines_more names g.points h.rows r 0 k (let l = h.told.long in omega arith));
  }

  pub no_lines : (g : Flow) (names : List Bytes) → AreLines d g names values 0 []
  no_lines g names = record { rows = []; told = record { long = refl; each = λ p lt. absurd (omega arith) }; printed = refl }

  told_met : (rows : List (List Linear)) → AreTold d values (length values) rows → (p : ℕ) (s : State) → HasAt d.has values p s → IsSomeAnd (slice_get rows p) (MeetsAll s)
  told_met rows h p s in' =
      let v = some_is (slice_get values p) (λ v. d.has v s) in' in
      let e = h.each p (slice_get_within values p v.0 v.1) in
      is_some (slice_get rows p) (MeetsAll s) e.2.0 e.2.1 (e.2.2.0 s (subst (λ z. d.has z s) (let same : v.0 ≡ e.0 = let a = v.1 in let b = e.1 in cc in same) v.2))

  told_said : (rows : List (List Linear)) → AreTold d values (length values) rows → AreSaid d.says (map d.view values) rows
  told_said rows h = record {
    long = h.long ∙ sym (length-map values d.view);
    each = λ p lt.
        let e = h.each p (let l = length-map values d.view in omega arith) in
        (d.view e.0, slice_get-map d.view values p ∙ ap (option_map d.view) e.1, (e.2.0, e.2.1, e.2.2.1));
  }

  pub lines_are_facts : (g : Flow) (names : List Bytes) (text : Bytes) → length values ≡ length g.points → ((p : ℕ) (s : State) → Reach g p s → HasAt d.has values p s) →
      (NoHeads g.points → IsFold d.says g (map d.view values)) → AreLines d g names values (length g.points) text → IsFacts d g names text
  lines_are_facts g names text long reached folded h = by (subst (λ (n : ℕ). AreTold d values n h.rows) (sym long) h.told)
    where
      by : AreTold d values (length values) h.rows → IsFacts d g names text
      by told = record {
        rows = h.rows;
        long = told.long ∙ long;
        printed = h.printed;
        met = λ p s reach. told_met h.rows told p s (reached p s reach);
        folded = λ none. record { views = map d.view values; fold = folded none; said = told_said h.rows told };
      }
