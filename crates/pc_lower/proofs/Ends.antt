-- The end of a loop: the number after the greatest source of an edge into the loop's head.
use Rattle.std.proofs.Common.{◌≡◌, ◌∙◌, ℕ, ◌+◌, ◌<◌, ◌≤◌, ◌==◌, List, [], ◌∷◌, drop, length, set, sym, refl, ap, subst, cond, Bool, true, false, arith, Some, slice_get, slice_index_or, eq-eqb}
use Rattle.std.specs.List.{AllByRecursion as Each}
use Rattle.std.proofs.lemmas.List.{get_or-set_other, drop_all}
use Rattle.std.proofs.lemmas.Option.{slice_get-get_or, slice_get_within}
use Rattle.pc_rows.specs.Linear.{Linear}
use Rattle.pc_rows.proofs.Adding.{drop_got}
use Rattle.pc_flow.specs.Annotation.{rows_at}
use Rattle.pc_flow.specs.Arc.{Arc}
use Rattle.pc_flow.specs.Flow.{Flow}
use Rattle.pc_flow.specs.Incidence.{leaving, entering, numbers_entering, AreAt}
use Rattle.pc_flow.proofs.Lists.{each_more}
use Rattle.pc_flow.proofs.Numbers.{numbers_are_theirs, numbers_long, edge_at_number}
use Rattle.pc_lower.specs.Annotation.{is_head}
use Rattle.pc_lower.specs.Fresh.{IsFresh, NoneReaches}
use Rattle.pc_lower.specs.Operations.{Operation, Fits}
use Rattle.pc_lower.proofs.Agreeing.{Agree, each_leaving, gathered_alike, operations_alike}

-- ---- the numbers of the edges that enter a point

module _ (edges : List Arc) (p k : ℕ) (numbers : List ℕ) (listed : numbers ≡ numbers_entering p edges) where
  told : AreAt edges numbers (entering p edges)
  told = subst (λ (ns : List ℕ). AreAt edges ns (entering p edges)) (sym listed) (numbers_are_theirs edges p).entering

  there : k < length numbers →
      (e : Arc) × (slice_get edges (slice_index_or numbers k 0) ≡ Some e) × (slice_get (entering p edges) k ≡ Some e)
  there lt = edge_at_number edges numbers (entering p edges) k (slice_index_or numbers k 0) told (slice_get-get_or numbers k 0 lt)

  -- each number is that of an edge
  pub entering_within : k < length numbers → slice_index_or numbers k 0 < length edges
  entering_within lt = let h = there lt in slice_get_within edges (slice_index_or numbers k 0) h.0 h.1

  pub entering_there : (e : Arc) → k < length numbers → slice_get edges (slice_index_or numbers k 0) ≡ Some e → slice_get (entering p edges) k ≡ Some e
  entering_there e lt at = let h = there lt in h.2 ∙ sym h.1 ∙ at

  pub entering_done : length numbers ≤ k → length (entering p edges) ≤ k
  entering_done le = let long = numbers_long edges numbers (entering p edges) told in omega arith

-- ---- the loop over these edges

-- where no edge into h among those that enter it has a source from n on, none has
none_reaches : (h n : ℕ) (edges : List Arc) → Each (λ e. e.from < n) (entering h edges) → NoneReaches h n edges
none_reaches h n [] all = tt
none_reaches h n (e ∷ edges) all = by (e.to == h) refl all (none_reaches h n edges)
  where
    by : (t : Bool) → (e.to == h) ≡ t → Each (λ e. e.from < n) (cond t (e ∷ entering h edges) (entering h edges)) →
        (Each (λ e. e.from < n) (entering h edges) → NoneReaches h n edges) → NoneReaches h n (e ∷ edges)
    by true is all go = ((λ le to. (let lt = all.0 in omega arith)), go all.1)
    by false is all go = ((λ le to. (let same = eq-eqb e.to h to in absurd (cc))), go all)

-- `end` is after all sources of these edges but of those that are left
pub record Ends (points h : ℕ) (some : List Arc) (k end : ℕ) : Type 0 where
  pub after : h < end
  pub within : end ≤ points
  pub sources : (n : ℕ) → end ≤ n → Each (λ e. e.from < n) (drop k some) → Each (λ e. e.from < n) some

pub ends_none : (points h : ℕ) (some : List Arc) (end : ℕ) → h < points → end ≡ h + 1 → Ends points h some 0 end
ends_none points h some end lt is = record { after = omega arith; within = omega arith; sources = λ n le rest. rest }

pub ends_next : (points h : ℕ) (some : List Arc) (k end new : ℕ) (e : Arc) → slice_get some k ≡ Some e → end ≤ new → e.from < new → new ≤ points → Ends points h some k end →
    Ends points h some (k + 1) new
ends_next points h some k end new e at more source most so_far =
    let after = so_far.after in
    record {
      after = omega arith;
      within = most;
      sources = λ n le rest. so_far.sources n (omega arith) (subst (Each (λ e. e.from < n)) (sym (drop_got some k e at)) (omega arith, rest));
    }

pub ends_all : (points h : ℕ) (edges : List Arc) (k end : ℕ) → length (entering h edges) ≤ k → Ends points h (entering h edges) k end → NoneReaches h end edges
ends_all points h edges k end le so_far =
    none_reaches h end edges (so_far.sources end (omega arith) (subst (Each (λ e. e.from < end)) (sym (drop_all k (entering h edges) le)) tt))

-- ---- what stays up to date

-- where a head gets other rows, the points from which no edge leads to it stay up to date
module _ (g : Flow) (a : List (List Linear)) (h n : ℕ) (rows : List Linear) (none : NoneReaches h n g.edges) (after : h < n) where
  apart_edges : (p : ℕ) → n ≤ p → Agree (rows_at a) (rows_at (set a h rows)) (leaving p g.edges)
  apart_edges p le =
      each_more (λ e. (e.from ≡ p) × (n ≤ e.from → e.to ≡ h → ⊥)) (λ e. rows_at a e.to ≡ rows_at (set a h rows) e.to)
      (λ e k. sym (get_or-set_other a h e.to rows [] (λ same. k.1 (let from = k.0 in omega arith) same)))
      (leaving p g.edges) (each_leaving (λ e. n ≤ e.from → e.to ≡ h → ⊥) p g.edges none)

  pub fresh_apart : IsFresh g n a → IsFresh g n (set a h rows)
  fresh_apart fresh = record {
    rows = λ p le other. get_or-set_other a h p rows [] (omega arith) ∙ fresh.rows p le other ∙ gathered_alike (rows_at a) (rows_at (set a h rows)) [] (leaving p g.edges) (apart_edges p le);
    fit = λ p le.
        subst (Each Fits) (ap (λ (z : List Operation). cond (is_head g.points p) [] z) (operations_alike (rows_at a) (rows_at (set a h rows)) [] (leaving p g.edges) (apart_edges p le))) (fresh.fit p le);
  }
