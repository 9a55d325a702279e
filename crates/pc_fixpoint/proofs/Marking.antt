-- What the marks tell, from the first round on, point by point.
use Rattle.std.proofs.Common.{◌≡◌, ◌≢◌, ◌∙◌, ℕ, ◌+◌, ◌<◌, List, length, sym, ap, subst, Some, slice_get, get_or, arith, inl, inr, Bool, true, false, set, length-set}
use Rattle.std.specs.Prelude.{◌⊎◌, IsSomeAnd}
use Rattle.std.specs.List.{AllByRecursion as Each}
use Rattle.std.proofs.lemmas.Option.{slice_get-get_or, slice_get_within}
use Rattle.pc_flow.specs.Arc.{Arc}
use Rattle.pc_flow.specs.Flow.{Flow}
use Rattle.pc_flow.specs.Incidence.{entering}
use Rattle.pc_flow.specs.Lists.{In}
use Rattle.pc_flow.specs.Shape.{IsGraph}
use Rattle.pc_flow.proofs.Lists.{each_at, each_got, each_more}
use Rattle.pc_domain.specs.declared.forward.Forward.{Ghosts}
use Rattle.pc_domain.proofs.Places.{got_set, got_set_other}
use Rattle.pc_fixpoint.specs.Flowing.{heads, Gathered, Filled}
use Rattle.pc_fixpoint.specs.Marks.{IsMarked, AreStill, MarksTell}
use Rattle.pc_fixpoint.specs.Rounds.{Turned, Settled}
use Rattle.pc_fixpoint.proofs.Alike.{value_alike, settled_alike}
use Rattle.pc_fixpoint.proofs.Filling.{filled_again, filled_kept, filled_set}
use Rattle.pc_fixpoint.proofs.Pointing.{entry_no_head, marks_within}

-- a point that is marked stays so
pub marked_stays : (moved : List Bool) (k p : ℕ) → IsMarked moved p → IsMarked (set moved k true) p
marked_stays moved k p m = by (let either : (p ≡ k) ⊎ (p ≢ k) = grind arith in either)
  where
    by : (p ≡ k) ⊎ (p ≢ k) → IsMarked (set moved k true) p
    by (inr other) = got_set_other moved k p true other ∙ m
    by (inl is) = subst (IsMarked (set moved k true)) (sym is) (got_set moved k true (slice_get_within moved k true (subst (IsMarked moved) is m)))

-- where one more point is marked, what is still was still before
still_before : (g : Flow) (moved : List Bool) (k p : ℕ) → AreStill g (set moved k true) p → AreStill g moved p
still_before g moved k p still =
    each_more (λ (e : Arc). IsMarked (set moved k true) e.from → ⊥) (λ (e : Arc). IsMarked moved e.from → ⊥) (λ e free m. free (marked_stays moved k e.from m)) (entering p g.edges) still

module _ {V : Type 0} (d : Ghosts V) (g : Flow) where
  -- in the beginning all points are marked
  pub tells_first : (values : List V) (moved : List Bool) → length moved ≡ length g.points → Each (λ m. m ≡ true) moved →
      Filled d g (length g.points) (length g.points) values → MarksTell d g (length g.points) values moved
  tells_first values moved long all filled = record {
    filled = filled;
    marks = long;
    others = λ p lo hi other still. filled.points p lo hi other;
    settled = λ p head free still.
        let got = slice_get-get_or moved p false (let within = marks_within g p true head in omega arith) in
        absurd (free (got ∙ ap Some (each_got (λ m. m ≡ true) moved p (get_or moved p false) all got)));
  }

  -- after a round in which no head changed all heads are settled
  pub turned_settled : (round : ℕ) (old : List V) (changed : Bool) (new : List V) (moved : List Bool) → changed ≡ false → Turned d g round 0 old changed new moved →
      (new ≡ old) × Settled d g old
  turned_settled round old changed new moved not t = let none = t.none not in (none.0, λ p head. t.settled p (omega arith) head (none.1 p))

module _ {V : Type 0} (d : Ghosts V) (g : Flow) (graph : IsGraph g) where
  -- after a round at the heads the marks tell what is left to do
  pub tells_turned : (round : ℕ) (old : List V) (marks : List Bool) (changed : Bool) (new : List V) (moved : List Bool) →
      MarksTell d g (length g.points) old marks → Turned d g round 0 old changed new moved → MarksTell d g 1 new moved
  tells_turned round old marks changed new moved h t = record {
    filled = filled_again d g graph (length g.points) (length g.points) old new t.long
        (t.same 0 (λ m. let head = (t.changes 0 m).1 in let entry = entry_no_head g graph in cc)) h.filled;
    marks = t.marks;
    others = λ p lo hi other still. value_alike d g old new p (sources p still) (sym (t.same p (λ m. let head = (t.changes p m).1 in cc))) (h.filled.points p lo hi other);
    settled = λ p head free still. settled_alike d g old new p (sources p still) (sym (t.same p free)) (t.settled p (omega arith) head free);
  }
    where
      sources : (p : ℕ) → AreStill g moved p → (e : Arc) → In e (entering p g.edges) → slice_get old e.from ≡ slice_get new e.from
      sources p still e m = sym (t.same e.from (each_at (λ (x : Arc). IsMarked moved x.from → ⊥) (entering p g.edges) e still m))

  -- a point that need not be gathered stays
  pub tells_kept : (k : ℕ) (values : List V) (moved : List Bool) → 0 < k → k < length g.points → (slice_get (heads g) k ≡ Some false → AreStill g moved k) →
      MarksTell d g k values moved → MarksTell d g (k + 1) values moved
  tells_kept k values moved low high still h = record {
    filled = filled_kept d g graph (length g.points) k values (λ other. h.others k low high other (still other)) h.filled;
    marks = h.marks;
    others = h.others;
    settled = h.settled;
  }

  -- a point is gathered anew, and marked
  pub tells_set : (k : ℕ) (values : List V) (moved : List Bool) (v : V) → 0 < k → k < length g.points → slice_get (heads g) k ≡ Some false → Gathered d g values k v →
      MarksTell d g k values moved → MarksTell d g (k + 1) (set values k v) (set moved k true)
  tells_set k values moved v low high none here h = record {
    filled = filled;
    marks = length-set moved k true ∙ h.marks;
    others = λ p lo hi other still. by p lo hi other still (let either : (p ≡ k) ⊎ (p ≢ k) = grind arith in either);
    settled = λ p head free still.
        settled_alike d g values (set values k v) p (sources p still) (sym (got_set_other values k p v (λ e. let same = ap (slice_get (heads g)) e in cc)))
        (h.settled p head (λ m. free (marked_stays moved k p m)) (still_before g moved k p still));
  }
    where
      filled : Filled d g (length g.points) (k + 1) (set values k v)
      filled = filled_set d g graph (length g.points) k values v low high none h.filled here

      sources : (p : ℕ) → AreStill g (set moved k true) p → (e : Arc) → In e (entering p g.edges) → slice_get values e.from ≡ slice_get (set values k v) e.from
      sources p still e m =
          let free = each_at (λ (x : Arc). IsMarked (set moved k true) x.from → ⊥) (entering p g.edges) e still m in
          sym (got_set_other values k e.from v (λ is. free (subst (IsMarked (set moved k true)) (sym is) (got_set moved k true (let long = h.marks in omega arith)))))

      by : (p : ℕ) → 0 < p → p < length g.points → slice_get (heads g) p ≡ Some false → AreStill g (set moved k true) p → (p ≡ k) ⊎ (p ≢ k) →
          IsSomeAnd (slice_get (set values k v) p) (Gathered d g (set values k v) p)
      by p lo hi other still (inl is) = filled.points p lo (omega arith) other
      by p lo hi other still (inr apart) =
          value_alike d g values (set values k v) p (sources p still) (sym (got_set_other values k p v apart)) (h.others p lo hi other (still_before g moved k p still))
