-- A question is settled in one way.
use Rattle.std.proofs.Common.{◌≡◌, ◌∙◌, ℕ, ◌+◌, ◌≤◌, sym, refl, subst, Option, Some, None, Result, Ok, Bool, true, false, inl, inr, List, ◌++◌, [], drop, length, slice_get}
use Rattle.std.specs.Prelude.{◌⊎◌}
use Rattle.std.specs.List.{AllByRecursion as Each}
use Rattle.std.proofs.lemmas.List.{append-nil, drop_all}
use Rattle.pc_rows.proofs.Adding.{drop_got}
use Rattle.pc_rows.specs.declared.rows.NoMemory.{NoMemory}
use Rattle.pc_rows.specs.Linear.{Linear}
use Rattle.pc_rows.specs.Evidence.{System, Proof, Point as Place}
use Rattle.pc_elim.specs.declared.decision.Answer.{Answer}
use Rattle.pc_elim.specs.declared.decision.Answer.TheVariants.{Shown, Point, Unsettled}
use Rattle.pc_elim.specs.Deciding.{AnswerIs, DecisionFits, answer}
use Rattle.pc_simplex.specs.declared.guess.Guess.{Guess}
use Rattle.pc_simplex.specs.declared.guess.Guess.TheVariants as guess
use Rattle.pc_simplex.specs.Searching.{Fails}
use Rattle.pc_simplex.specs.Turns.{found}
use Rattle.pc_entail.specs.Settled.{SettledIs, GivesUp}
use Rattle.pc_entail.specs.Showing.{question, ShowsAllIs}
use Rattle.pc_entail.specs.Found.{IsProofFound, IsFound, AllFound, Tells, SettlesOnce}

-- the answer that a guess makes
abbrev answer_of : Guess → Option Answer
answer_of (guess.Shown p) = Some (Shown p)
answer_of (guess.Point p) = Some (Point p)
answer_of guess.GaveUp = None

-- an answer is that of the search, which does not give up then; or that of elimination, where the search gives up
abbrev Comes : System → Answer → Type 0
Comes s a = ((answer_of (found s) ≡ Some a) × (GivesUp s → ⊥)) ⊎ (GivesUp s × AnswerIs s (Ok a))

comes : (s : System) (a : Answer) → SettledIs s (Ok a) → Comes s a
comes s (Shown p) (inl (e, told)) = inl (subst (λ (z : Guess). answer_of z ≡ Some (Shown p)) e refl, λ up. subst (Fails s) (sym e) up told)
comes s (Shown p) (inr h) = inr h
comes s (Point p) (inl (e, told)) = inl (subst (λ (z : Guess). answer_of z ≡ Some (Point p)) e refl, λ up. subst (Fails s) (sym e) up told)
comes s (Point p) (inr h) = inr h
comes s Unsettled h = inr h

-- so does elimination answer in one way
abbrev Decides : System → Answer → Type 0
Decides s a = (DecisionFits s × (a ≡ answer s)) ⊎ ((DecisionFits s → ⊥) × (a ≡ Unsettled))

decides : (s : System) (a : Answer) → AnswerIs s (Ok a) → Decides s a
decides s (Shown p) h = inl h
decides s (Point p) h = inl h
decides s Unsettled h = inr (h, refl)

decides_once : (s : System) (a b : Answer) → Decides s a → Decides s b → a ≡ b
decides_once s a b (inl h) (inl k) = h.1 ∙ sym k.1
decides_once s a b (inl h) (inr k) = absurd (k.0 h.0)
decides_once s a b (inr h) (inl k) = absurd (h.0 k.0)
decides_once s a b (inr h) (inr k) = h.1 ∙ sym k.1

comes_once : (s : System) (a b : Answer) → Comes s a → Comes s b → a ≡ b
comes_once s a b (inl h) (inl k) = let e = h.0 in let f = k.0 in cc
comes_once s a b (inl h) (inr k) = absurd (h.1 k.0)
comes_once s a b (inr h) (inl k) = absurd (k.1 h.0)
comes_once s a b (inr h) (inr k) = decides_once s a b (decides s a h.1) (decides s b k.1)

pub settles_once : SettlesOnce
settles_once s a b h k = comes_once s a b (comes s a h) (comes s b k)

-- a proof that is found

pub found_shown : (s : System) (p : Proof) → SettledIs s (Ok (Shown p)) → IsProofFound s p
unfolding IsProofFound
found_shown s p h = h

pub proof_once : (s : System) (p q : Proof) → IsProofFound s p → IsProofFound s q → p ≡ q
unfolding IsProofFound
proof_once s p q h k = let e = settles_once s (Shown p) (Shown q) h k in cc

-- none is found where the answer is another one

pub point_found : (s : System) (p : Place) → SettledIs s (Ok (Point p)) → (q : Proof) → IsProofFound s q → ⊥
unfolding IsProofFound
point_found s p h q k = let e = settles_once s (Point p) (Shown q) h k in cc

pub unsettled_found : (s : System) → SettledIs s (Ok Unsettled) → (q : Proof) → IsProofFound s q → ⊥
unfolding IsProofFound
unsettled_found s h q k = let e = settles_once s Unsettled (Shown q) h k in cc

-- rows that are found to be shown, one after the other

pub row_found : (rows : List Linear) (goal : Linear) (p : Proof) → SettledIs (question rows goal) (Ok (Shown p)) → IsFound rows goal
row_found rows goal p h = (p, found_shown (question rows goal) p h)

pub row_point : (rows : List Linear) (goal : Linear) (p : Place) → SettledIs (question rows goal) (Ok (Point p)) → IsFound rows goal → ⊥
row_point rows goal p h k = point_found (question rows goal) p h k.0 k.1

pub row_unsettled : (rows : List Linear) (goal : Linear) → SettledIs (question rows goal) (Ok Unsettled) → IsFound rows goal → ⊥
row_unsettled rows goal h k = unsettled_found (question rows goal) h k.0 k.1

module _ (P : Linear → Type 0) (goals : List Linear) (i : ℕ) where
  pub each_more : (r : Linear) → slice_get goals i ≡ Some r → P r → (Each P (drop i goals) → Each P goals) → Each P (drop (i + 1) goals) → Each P goals
  each_more r at one go more = go (subst (Each P) (sym (drop_got goals i r at)) (one, more))

  pub each_rest : (r : Linear) → slice_get goals i ≡ Some r → (Each P goals → Each P (drop i goals)) → Each P goals → Each P (drop (i + 1) goals)
  each_rest r at go all = (subst (Each P) (drop_got goals i r at) (go all)).1

  pub each_here : (r : Linear) → slice_get goals i ≡ Some r → (Each P goals → Each P (drop i goals)) → (P r → ⊥) → Each P goals → ⊥
  each_here r at go fails all = fails (subst (Each P) (drop_got goals i r at) (go all)).0

  pub each_done : length goals ≤ i → (Each P (drop i goals) → Each P goals) → Each P goals
  each_done past go = go (subst (Each P) (sym (drop_all i goals past)) tt)

-- what an answer tells

pub tells_shown : (rows : List Linear) (goal : Linear) (a : Answer) (p : Proof) (r : Result Bool NoMemory) → SettledIs (question rows goal) (Ok a) → a ≡ Shown p → r ≡ Ok true →
    Tells (IsFound rows goal) r
tells_shown rows goal a p r h is e = subst (Tells (IsFound rows goal)) (sym e) (row_found rows goal p (subst (λ (z : Answer). SettledIs (question rows goal) (Ok z)) is h))

pub tells_point : (rows : List Linear) (goal : Linear) (a : Answer) (p : Place) (r : Result Bool NoMemory) → SettledIs (question rows goal) (Ok a) → a ≡ Point p → r ≡ Ok false →
    Tells (IsFound rows goal) r
tells_point rows goal a p r h is e = subst (Tells (IsFound rows goal)) (sym e) (row_point rows goal p (subst (λ (z : Answer). SettledIs (question rows goal) (Ok z)) is h))

pub tells_unsettled : (rows : List Linear) (goal : Linear) (a : Answer) (r : Result Bool NoMemory) → SettledIs (question rows goal) (Ok a) → a ≡ Unsettled → r ≡ Ok false →
    Tells (IsFound rows goal) r
tells_unsettled rows goal a r h is e = subst (Tells (IsFound rows goal)) (sym e) (row_unsettled rows goal (subst (λ (z : Answer). SettledIs (question rows goal) (Ok z)) is h))

-- of rows without more rows behind them

pub tells_alone : (rows : List Linear) (goal : Linear) (found : Result Bool NoMemory) → Tells (IsFound (rows ++ []) goal) found → Tells (IsFound rows goal) found
tells_alone rows goal found h = subst (λ (z : List Linear). Tells (IsFound z goal) found) (append-nil rows) h

pub tells_all_alone : (rows goals : List Linear) (found : Result Bool NoMemory) → Tells (AllFound (rows ++ []) goals) found → Tells (AllFound rows goals) found
tells_all_alone rows goals found h = subst (λ (z : List Linear). Tells (AllFound z goals) found) (append-nil rows) h

pub shows_all_alone : (rows goals : List Linear) (found : Result Bool NoMemory) → ShowsAllIs (rows ++ []) goals found → ShowsAllIs rows goals found
shows_all_alone rows goals found h = subst (λ (z : List Linear). ShowsAllIs z goals found) (append-nil rows) h
