-- The verdict on a run says what is so of the run, and no other verdict does.
use Rattle.std.proofs.Common.{◌≡◌, ◌∙◌, refl, ap, sym, subst, ℕ, zero, suc, ◌+◌, ◌≤◌, ℤ, pos, List, [], ◌∷◌, Option, Some, None, Ok, length, get_or, take, arith}
use Rattle.pc_text.specs.declared.place.Place.{Place}
use Rattle.pc_program.specs.declared.tree.Stmt.{Stmt}
use Rattle.pc_rows.specs.Linear.{State}
use Rattle.pc_program.specs.Machine.{Outcome, Going, Violated, Blocked, Ended, run, step}
use Rattle.pc_runner.specs.declared.verdict.Verdict.{Verdict}
use Rattle.pc_runner.specs.declared.verdict.Verdict.TheVariants as verdict
use Rattle.pc_runner.specs.Computed.{computed, first_past}
use Rattle.pc_runner.specs.Verdicts.{unless, taken, later, concluded, verdict_from}
use Rattle.pc_runner.specs.Runs.{after, IsGoing, computed_by, computed_after, InRangeFor, EndsAt, PastAt, StillGoes, Says}

-- ---- one step on

-- what is so of the rest of a run is so of the run, one step later
module _ (k k' : List Stmt) (s s' : State) (c : ℤ) (cs : List ℤ) (fits : first_past (computed k s c) ≡ None) (goes : step k s c ≡ Going k' s') where
  after_more : (n : ℕ) → after (Going k s) (c ∷ cs) (suc n) ≡ after (Going k' s') cs n
  after_more n = ap (λ o. run o (take n cs)) goes

  in_range_more : (n : ℕ) → InRangeFor (Going k' s') cs n → InRangeFor (Going k s) (c ∷ cs) (suc n)
  in_range_more n h zero l = fits
  in_range_more n h (suc m) l = ap (λ o. first_past (computed_by o (get_or cs m (pos 0)))) (after_more m) ∙ h m (omega arith)

  ends_more : (n : ℕ) (end : Outcome) → EndsAt (Going k' s') cs n end → EndsAt (Going k s) (c ∷ cs) (n + 1) end
  ends_more n end h = record {
    before = suc h.before;
    next = let e = h.next in omega arith;
    within = let e = h.within in omega arith;
    going = subst IsGoing (sym (after_more h.before)) h.going;
    in_range = λ m l. in_range_more n h.in_range m (omega arith);
    ends = (let e : n + 1 ≡ suc n = omega arith in ap (after (Going k s) (c ∷ cs)) e) ∙ after_more n ∙ h.ends;
  }

  past_more : (n : ℕ) (p : Place) → PastAt (Going k' s') cs n p → PastAt (Going k s) (c ∷ cs) (n + 1) p
  past_more n p h = record {
    before = suc h.before;
    next = let e = h.next in omega arith;
    within = let e = h.within in omega arith;
    going = subst IsGoing (sym (after_more h.before)) h.going;
    in_range = in_range_more h.before h.in_range;
    past = ap (λ o. first_past (computed_by o (get_or cs h.before (pos 0)))) (after_more h.before) ∙ h.past;
  }

  goes_more : (t : State) → StillGoes (Going k' s') cs t → StillGoes (Going k s) (c ∷ cs) t
  goes_more t h = record { left = h.left; goes = ap (λ o. run o cs) goes ∙ h.goes; in_range = in_range_more (length cs) h.in_range }

  says_more : (v : Verdict) → Says (Going k' s') cs v → Says (Going k s) (c ∷ cs) (later 1 v)
  says_more (verdict.Violated n p) h = ends_more n (Violated p) h
  says_more (verdict.Blocked n p) h = ends_more n (Blocked p) h
  says_more (verdict.Ended n) h = ends_more n Ended h
  says_more (verdict.Going t) h = goes_more t h
  says_more (verdict.Past n p) h = past_more n p h

-- ---- the first step

in_range_first : (k : List Stmt) (s : State) (c : ℤ) (cs : List ℤ) → first_past (computed k s c) ≡ None → InRangeFor (Going k s) (c ∷ cs) 1
in_range_first k s c cs fits zero l = fits
in_range_first k s c cs fits (suc m) l = absurd (omega arith)

ends_first : (k : List Stmt) (s : State) (c : ℤ) (cs : List ℤ) (end : Outcome) → first_past (computed k s c) ≡ None → step k s c ≡ end → EndsAt (Going k s) (c ∷ cs) 1 end
ends_first k s c cs end fits e = record { before = 0; next = refl; within = omega arith; going = tt; in_range = in_range_first k s c cs fits; ends = e }

past_first : (k : List Stmt) (s : State) (c : ℤ) (cs : List ℤ) (p : Place) → first_past (computed k s c) ≡ Some p → PastAt (Going k s) (c ∷ cs) 1 p
past_first k s c cs p e = record { before = 0; next = refl; within = omega arith; going = tt; in_range = λ m l. absurd (omega arith); past = e }

says_step : (k : List Stmt) (s : State) (c : ℤ) (cs : List ℤ) (o : Option Place) (n : Outcome) → first_past (computed k s c) ≡ o → step k s c ≡ n
    → ((k : List Stmt) (s : State) → Says (Going k s) cs (verdict_from k s cs)) → Says (Going k s) (c ∷ cs) (concluded (unless o n) (λ k s. later 1 (verdict_from k s cs)))
says_step k s c cs (Some p) n f e rest = past_first k s c cs p f
says_step k s c cs None (Going k' s') f e rest = says_more k k' s s' c cs f e (verdict_from k' s' cs) (rest k' s')
says_step k s c cs None (Violated p) f e rest = ends_first k s c cs (Violated p) f e
says_step k s c cs None (Blocked p) f e rest = ends_first k s c cs (Blocked p) f e
says_step k s c cs None Ended f e rest = ends_first k s c cs Ended f e

-- the verdict says what is so
pub verdict_says : (cs : List ℤ) (k : List Stmt) (s : State) → Says (Going k s) cs (verdict_from k s cs)
verdict_says [] k s = record { left = k; goes = refl; in_range = λ m l. absurd (omega arith) }
verdict_says (c ∷ cs) k s = says_step k s c cs (first_past (computed k s c)) (step k s c) refl refl (verdict_says cs)

-- ---- no other verdict

-- a run that has come to an end stays there
going_before : (cs : List ℤ) (o : Outcome) → IsGoing (run o cs) → IsGoing o
going_before cs (Going k s) h = tt
going_before [] (Violated p) h = h
going_before (c ∷ cs) (Violated p) h = going_before cs (Violated p) h
going_before [] (Blocked p) h = h
going_before (c ∷ cs) (Blocked p) h = going_before cs (Blocked p) h
going_before [] Ended h = h
going_before (c ∷ cs) Ended h = going_before cs Ended h

-- where the machine goes on, it goes on somewhere
on_going : (P : Type 0) (n : Outcome) → IsGoing n → ((k : List Stmt) (s : State) → n ≡ Going k s → P) → P
on_going P (Going k s) h f = f k s refl
on_going P (Violated p) h f = absurd h
on_going P (Blocked p) h f = absurd h
on_going P Ended h f = absurd h

taken_ok : (k : List Stmt) (s : State) (c : ℤ) (n : Outcome) → first_past (computed k s c) ≡ None → step k s c ≡ n → taken k s c ≡ Ok n
taken_ok k s c n f e = ap (λ o. unless o (step k s c)) f ∙ ap Ok e

-- the rest of the run, after a first step that goes on
module _ (k k' : List Stmt) (s s' : State) (c : ℤ) (cs : List ℤ) (goes : step k s c ≡ Going k' s') where
  after_less : (n : ℕ) → after (Going k' s') cs n ≡ after (Going k s) (c ∷ cs) (suc n)
  after_less n = ap (λ o. run o (take n cs)) (sym goes)

  in_range_less : (n : ℕ) → InRangeFor (Going k s) (c ∷ cs) (suc n) → InRangeFor (Going k' s') cs n
  in_range_less n h m l = ap (λ o. first_past (computed_by o (get_or cs m (pos 0)))) (after_less m) ∙ h (suc m) (omega arith)

module _ (k : List Stmt) (s : State) (c : ℤ) (cs : List ℤ) (more : List Stmt → State → Verdict) where
  ends_only : (end : Outcome) (v : ℕ → Verdict) → concluded (Ok end) more ≡ v 1
      → ((k' : List Stmt) (s' : State) (m : ℕ) → EndsAt (Going k' s') cs m end → more k' s' ≡ v (m + 1))
      → (n before : ℕ) → n ≡ before + 1 → n ≤ suc (length cs) → IsGoing (after (Going k s) (c ∷ cs) before) → InRangeFor (Going k s) (c ∷ cs) n
      → after (Going k s) (c ∷ cs) n ≡ end → concluded (taken k s c) more ≡ v n
  ends_only end v first rest n zero next within going in_range ends =
      let one : n ≡ 1 = omega arith in
      ap (λ r. concluded r more) (taken_ok k s c end (in_range 0 (omega arith)) (ap (after (Going k s) (c ∷ cs)) (sym one) ∙ ends)) ∙ first ∙ ap v (sym one)
  ends_only end v first rest n (suc b) next within going in_range ends =
      let two : n ≡ suc (b + 1) = omega arith in
      on_going (concluded (taken k s c) more ≡ v n) (step k s c) (going_before (take b cs) (step k s c) going) (λ k' s' goes.
      let fits : first_past (computed k s c) ≡ None = in_range 0 (omega arith) in
      let at : EndsAt (Going k' s') cs (b + 1) end = record {
        before = b;
        next = refl;
        within = omega arith;
        going = subst IsGoing (ap (λ o. run o (take b cs)) goes) going;
        in_range = in_range_less k k' s s' c cs goes (b + 1) (λ m l. in_range m (omega arith));
        ends = after_less k k' s s' c cs goes (b + 1) ∙ ap (after (Going k s) (c ∷ cs)) (sym two) ∙ ends;
      } in
      ap (λ r. concluded r more) (taken_ok k s c (Going k' s') fits goes) ∙ rest k' s' (b + 1) at ∙ ap v (let e : (b + 1) + 1 ≡ n = omega arith in e))

  past_only : (p : Place) → ((k' : List Stmt) (s' : State) (m : ℕ) → PastAt (Going k' s') cs m p → more k' s' ≡ verdict.Past (m + 1) p)
      → (n before : ℕ) → n ≡ before + 1 → n ≤ suc (length cs) → IsGoing (after (Going k s) (c ∷ cs) before) → InRangeFor (Going k s) (c ∷ cs) before
      → first_past (computed_after (Going k s) (c ∷ cs) before) ≡ Some p → concluded (taken k s c) more ≡ verdict.Past n p
  past_only p rest n zero next within going in_range past =
      ap (λ o. concluded (unless o (step k s c)) more) past ∙ ap (λ (i : ℕ). verdict.Past i p) (let e : 1 ≡ n = omega arith in e)
  past_only p rest n (suc b) next within going in_range past =
      on_going (concluded (taken k s c) more ≡ verdict.Past n p) (step k s c) (going_before (take b cs) (step k s c) going) (λ k' s' goes.
      let fits : first_past (computed k s c) ≡ None = in_range 0 (omega arith) in
      let at : PastAt (Going k' s') cs (b + 1) p = record {
        before = b;
        next = refl;
        within = omega arith;
        going = subst IsGoing (ap (λ o. run o (take b cs)) goes) going;
        in_range = in_range_less k k' s s' c cs goes b in_range;
        past = ap (λ o. first_past (computed_by o (get_or cs b (pos 0)))) (after_less k k' s s' c cs goes b) ∙ past;
      } in
      ap (λ r. concluded r more) (taken_ok k s c (Going k' s') fits goes) ∙ rest k' s' (b + 1) at ∙ ap (λ (i : ℕ). verdict.Past i p) (let e : (b + 1) + 1 ≡ n = omega arith in e))

  goes_only : (t : State) → ((k' : List Stmt) (s' : State) → StillGoes (Going k' s') cs t → more k' s' ≡ verdict.Going t) → StillGoes (Going k s) (c ∷ cs) t
      → concluded (taken k s c) more ≡ verdict.Going t
  goes_only t rest h =
      on_going (concluded (taken k s c) more ≡ verdict.Going t) (step k s c) (going_before cs (step k s c) (subst IsGoing (sym h.goes) tt)) (λ k' s' goes.
      let fits : first_past (computed k s c) ≡ None = h.in_range 0 (omega arith) in
      let still : StillGoes (Going k' s') cs t = record { left = h.left; goes = ap (λ o. run o cs) (sym goes) ∙ h.goes; in_range = in_range_less k k' s s' c cs goes (length cs) h.in_range } in
      ap (λ r. concluded r more) (taken_ok k s c (Going k' s') fits goes) ∙ rest k' s' still)

same_state : (k k' : List Stmt) (s t : State) → Going k s ≡ Going k' t → s ≡ t
same_state k k' s t e = cc

-- what is so of a run is what its verdict says
pub says_only : (cs : List ℤ) (k : List Stmt) (s : State) (v : Verdict) → Says (Going k s) cs v → verdict_from k s cs ≡ v
says_only [] k s (verdict.Violated n p) h = let e = h.next in let l = h.within in absurd (omega arith)
says_only [] k s (verdict.Blocked n p) h = let e = h.next in let l = h.within in absurd (omega arith)
says_only [] k s (verdict.Ended n) h = let e = h.next in let l = h.within in absurd (omega arith)
says_only [] k s (verdict.Going t) h = ap verdict.Going (same_state k h.left s t h.goes)
says_only [] k s (verdict.Past n p) h = let e = h.next in let l = h.within in absurd (omega arith)
says_only (c ∷ cs) k s (verdict.Violated n p) h =
    ends_only k s c cs (λ k s. later 1 (verdict_from k s cs)) (Violated p) (λ n. verdict.Violated n p) refl (λ k' s' m e. ap (later 1) (says_only cs k' s' (verdict.Violated m p) e)) n h.before h.next h.within h.going h.in_range h.ends
says_only (c ∷ cs) k s (verdict.Blocked n p) h =
    ends_only k s c cs (λ k s. later 1 (verdict_from k s cs)) (Blocked p) (λ n. verdict.Blocked n p) refl (λ k' s' m e. ap (later 1) (says_only cs k' s' (verdict.Blocked m p) e)) n h.before h.next h.within h.going h.in_range h.ends
says_only (c ∷ cs) k s (verdict.Ended n) h =
    ends_only k s c cs (λ k s. later 1 (verdict_from k s cs)) Ended (λ n. verdict.Ended n) refl (λ k' s' m e. ap (later 1) (says_only cs k' s' (verdict.Ended m) e)) n h.before h.next h.within h.going h.in_range h.ends
says_only (c ∷ cs) k s (verdict.Going t) h = goes_only k s c cs (λ k s. later 1 (verdict_from k s cs)) t (λ k' s' e. ap (later 1) (says_only cs k' s' (verdict.Going t) e)) h
says_only (c ∷ cs) k s (verdict.Past n p) h =
    past_only k s c cs (λ k s. later 1 (verdict_from k s cs)) p (λ k' s' m e. ap (later 1) (says_only cs k' s' (verdict.Past m p) e)) n h.before h.next h.within h.going h.in_range h.past
