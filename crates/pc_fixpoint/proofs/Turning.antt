-- Rounds at the heads, point by point.
use Rattle.std.proofs.Common.{◌≡◌, ◌≢◌, ◌∙◌, ℕ, zero, suc, ◌+◌, ◌-◌, ◌*◌, ◌<◌, ◌≤◌, List, [], ◌∷◌, ◌++◌, length, sym, refl, ap, subst, Some, None, Option, Ok, Err, Result, slice_get, arith, inl, inr, Bool, true, false, cond, set, length-set, length-append}
use Rattle.std.specs.Prelude.{◌⊎◌, IsSomeAnd, IfOk, MatchOption}
use Rattle.std.specs.List.{AllByRecursion as Each}
use Rattle.std.proofs.Math.Dec.{ltb}
use Rattle.std.proofs.lemmas.Bool.Decides.{nat_tests}
use Rattle.pc_rows.specs.Linear.{State}
use Rattle.pc_flow.specs.Flow.{Flow}
use Rattle.pc_flow.proofs.Lists.{each_got}
use Rattle.pc_domain.specs.declared.forward.Forward.{Ghosts}
use Rattle.pc_domain.specs.declared.limits.TheConstants.{PARTS}
use Rattle.pc_domain.proofs.Options.{some_is, is_some}
use Rattle.pc_domain.proofs.Places.{got_before, got_last, got_set, got_set_other}
use Rattle.pc_fixpoint.specs.Flowing.{heads, IsHeadAt, Gathered}
use Rattle.pc_fixpoint.specs.Marks.{IsMarked, IsSettledAt}
use Rattle.pc_fixpoint.specs.Rounds.{weight, WidensTo, AreWidened, Turned}
use Rattle.pc_fixpoint.proofs.Marking.{marked_stays}
use Rattle.pc_fixpoint.proofs.Pointing.{marks_within, none_are_heads, here_or_above}

module _ {V : Type 0} (parts : V → ℕ) where
  weight_less : (marks : List Bool) (values : List V) (p : ℕ) (u v : V) → slice_get marks p ≡ Some true → slice_get values p ≡ Some u → parts v < parts u →
      weight parts marks (set values p v) < weight parts marks values
  weight_less [] values p u v h at less = absurd (cc)
  weight_less (b ∷ marks) [] p u v h at less = absurd (cc)
  weight_less (true ∷ marks) (x ∷ values) zero u v h at less = let same : parts x ≡ parts u = ap parts (let e : x ≡ u = cc in e) in omega arith
  weight_less (false ∷ marks) (x ∷ values) zero u v h at less = absurd (cc)
  weight_less (true ∷ marks) (x ∷ values) (suc p) u v h at less = let r = weight_less marks values p u v h at less in omega arith
  weight_less (false ∷ marks) (x ∷ values) (suc p) u v h at less = weight_less marks values p u v h at less

  pub weight_same : (marks : List Bool) (values : List V) (p : ℕ) (v : V) → slice_get marks p ≡ Some false → weight parts marks (set values p v) ≡ weight parts marks values
  weight_same [] values p v h = absurd (cc)
  weight_same (b ∷ marks) [] p v h = refl
  weight_same (true ∷ marks) (x ∷ values) zero v h = absurd (cc)
  weight_same (false ∷ marks) (x ∷ values) zero v h = refl
  weight_same (true ∷ marks) (x ∷ values) (suc p) v h = ap (λ (n : ℕ). parts x + n) (weight_same marks values p v h)
  weight_same (false ∷ marks) (x ∷ values) (suc p) v h = weight_same marks values p v h

  pub weight_most : (few : (v : V) → parts v ≤ PARTS) (marks : List Bool) (values : List V) → weight parts marks values ≤ PARTS * length marks
  weight_most few [] values = omega arith
  weight_most few (b ∷ marks) [] = omega arith
  weight_most few (true ∷ marks) (v ∷ values) = let a = few v in let r = weight_most few marks values in omega arith
  weight_most few (false ∷ marks) (v ∷ values) = let r = weight_most few marks values in omega arith

module _ {V : Type 0} (d : Ghosts V) (g : Flow) (round : ℕ) where
  -- what a head finds that is asked
  widens : (values : List V) (p : ℕ) (u newer : V) (o : Option V) → IsHeadAt g p → slice_get values p ≡ Some u → Gathered d g values p newer →
      MatchOption o ((s : State) → d.has newer s → d.has u s) (λ v. (s : State) → d.has u s ⊎ d.has newer s → d.has v s) →
      MatchOption o (Unit {0}) (λ v. d.TOP_ROUND ≤ round → d.parts v < d.parts u) → WidensTo d g round values p o
  widens values p u newer (Some v) head at here states fewer = (head, λ late. is_some (slice_get values p) (λ x. d.parts v < d.parts x) u at (fewer late))
  widens values p u newer None head at here states fewer = λ _. (newer, here, λ s m. is_some (slice_get values p) (λ x. d.has x s) u at (states s m))

  pub widens_to : {E : Type 0} (values : List V) (p : ℕ) (u newer : V) (r : Result (Option V) E) → IsHeadAt g p → slice_get values p ≡ Some u → Gathered d g values p newer →
      IfOk r (λ o. MatchOption o ((s : State) → d.has newer s → d.has u s) (λ v. (s : State) → d.has u s ⊎ d.has newer s → d.has v s)) →
      IfOk r (λ o. MatchOption o (Unit {0}) (λ v. d.TOP_ROUND ≤ round → d.parts v < d.parts u)) → IfOk r (WidensTo d g round values p)
  widens_to values p u newer (Ok o) head at here states fewer = widens values p u newer o head at here states fewer
  widens_to values p u newer (Err e) head at here states fewer = tt

  -- the last of the points that a round has found something for
  pub widened_last : (old : List V) (wider rest : List (Option V)) (o : Option V) → wider ≡ rest ++ o ∷ [] → AreWidened d g round old (length wider) wider →
      AreWidened d g round old (length rest) rest × WidensTo d g round old (length rest) o
  widened_last old wider rest o is h = (
    record {
      long = refl;
      each = λ p lt. subst (λ (z : Option (Option V)). IsSomeAnd z (WidensTo d g round old p)) (ap (λ (z : List (Option V)). slice_get z p) is ∙ got_before rest o p lt) (h.each p (let l = longer in omega arith));
    },
    (let last = some_is (slice_get wider (length rest)) (WidensTo d g round old (length rest)) (h.each (length rest) (let l = longer in omega arith)) in
        subst (WidensTo d g round old (length rest)) (let at = last.1 in let end = ap (λ (z : List (Option V)). slice_get z (length rest)) is ∙ got_last rest o in let same : last.0 ≡ o = cc in same) last.2),
  )
    where
      longer : length wider ≡ length rest + 1
      longer = ap length is ∙ length-append rest (o ∷ [])

  pub turned_none : (old : List V) (moved : List Bool) → length moved ≡ length g.points → Each (λ m. m ≡ false) moved →
      Turned d g round (length g.points) old false old moved
  turned_none old moved long all = record {
    long = refl;
    marks = long;
    changes = λ p m. absurd (free p m);
    same = λ p free. refl;
    settled = λ p le head free. absurd (let within = marks_within g p true head in omega arith);
    none = λ c. (refl, free);
    fewer = λ c. absurd (cc);
    loops = λ c. absurd (cc);
  }
    where
      free : (p : ℕ) → IsMarked moved p → ⊥
      free p m = let is : true ≡ false = each_got (λ m. m ≡ false) moved p true all m in cc

  -- a point at which nothing changes
  pub turned_keeps : (k : ℕ) (old : List V) (changed : Bool) (new : List V) (moved : List Bool) →
      Turned d g round (k + 1) old changed new moved → WidensTo d g round old k None → Turned d g round k old changed new moved
  turned_keeps k old changed new moved t here = record {
    long = t.long;
    marks = t.marks;
    changes = λ p m. (let le = (t.changes p m).0 in omega arith, (t.changes p m).1);
    same = t.same;
    settled = λ p le head free. by p head free (here_or_above k p le);
    none = t.none;
    fewer = t.fewer;
    loops = t.loops;
  }
    where
      by : (p : ℕ) → IsHeadAt g p → (IsMarked moved p → ⊥) → (p ≡ k) ⊎ (k + 1 ≤ p) → IsSettledAt d g old p
      by p head free (inr above) = t.settled p above head free
      by p head free (inl is) = subst (IsSettledAt d g old) (sym is) (here (subst (IsHeadAt g) is head))

  at_most : (k : ℕ) (old : List V) (changed : Bool) (new : List V) (moved : List Bool) → Turned d g round k old changed new moved → d.TOP_ROUND ≤ round →
      weight d.parts (heads g) new ≤ weight d.parts (heads g) old
  at_most k old true new moved t late = let f = t.fewer refl late in omega arith
  at_most k old false new moved t late = let same = ap (weight d.parts (heads g)) (t.none refl).0 in omega arith

  -- a head that changes
  pub turned_takes : (k : ℕ) (old : List V) (changed : Bool) (new : List V) (moved : List Bool) (v : V) → k < length g.points →
      Turned d g round (k + 1) old changed new moved → WidensTo d g round old k (Some v) → Turned d g round k old true (set new k v) (set moved k true)
  turned_takes k old changed new moved v lt t here = record {
    long = length-set new k v ∙ t.long;
    marks = length-set moved k true ∙ t.marks;
    changes = λ p m. by p m (let either : (p ≡ k) ⊎ (p ≢ k) = grind arith in either);
    same = λ p free. got_set_other new k p v (apart p free) ∙ t.same p (λ m. free (marked_stays moved k p m));
    settled = λ p le head free. t.settled p (let other = apart p free in omega arith) head (λ m. free (marked_stays moved k p m));
    none = λ c. absurd (cc);
    fewer = λ c late.
        let u = some_is (slice_get old k) (λ u. d.parts v < d.parts u) (here.1 late) in
        let most = at_most (k + 1) old changed new moved t late in
        let less = weight_less d.parts (heads g) new k u.0 v here.0 (t.same k fresh ∙ u.1) u.2 in
        omega arith;
    loops = λ c none. let other = none_are_heads g none k lt in let head = here.0 in cc;
  }
    where
      fresh : IsMarked moved k → ⊥
      fresh m = let above = (t.changes k m).0 in omega arith

      apart : (p : ℕ) → (IsMarked (set moved k true) p → ⊥) → p ≢ k
      apart p free is = free (subst (IsMarked (set moved k true)) (sym is) (got_set moved k true (let long = t.marks in omega arith)))

      by : (p : ℕ) → IsMarked (set moved k true) p → (p ≡ k) ⊎ (p ≢ k) → (k ≤ p) × IsHeadAt g p
      by p m (inl is) = (omega arith, subst (IsHeadAt g) (sym is) here.0)
      by p m (inr other) = let above = t.changes p (sym (got_set_other moved k p true other) ∙ m) in (let le = above.0 in omega arith, above.1)

-- what falls from round to round: below the top the rounds that are left to it, and from it on the parts
abbrev pub left : ℕ → ℕ → ℕ → ℕ → ℕ
left top round most parts = (top - round) + cond (ltb round top) most parts

pub left_falls : (top round next most before after : ℕ) → after ≤ most → (top ≤ round → after < before) → (round < next) ⊎ (top ≤ next) → left top next most after < left top round most before
left_falls top round next most before after few fewer rise = grind (arith, nat_tests)
