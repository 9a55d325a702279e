-- What is found of lists of rows, one after the other.
use Rattle.std.proofs.Common.{◌≡◌, ℕ, ◌+◌, ◌≤◌, negsuc, sym, subst, arith, List, [], ◌∷◌, ◌++◌, length, drop, slice_get, Some, inl, inr, Bool, true, false, Result, Ok, Err}
use Rattle.std.proofs.lemmas.Int.{ints}
use Rattle.std.proofs.lemmas.List.{drop_all, append-nil}
use Rattle.pc_rows.specs.declared.rows.NoMemory.{NoMemory}
use Rattle.pc_rows.specs.Linear.{Linear, State, MeetsAll}
use Rattle.pc_rows.specs.Modest.{IsModest}
use Rattle.pc_rows.proofs.Farkas.{shown_is_met, refuted_is_not_shown}
use Rattle.pc_rows.proofs.Values.{value-constant}
use Rattle.pc_rows.proofs.Adding.{drop_got}
use Rattle.pc_rows.proofs.Joining.{each_left, each_right}
use Rattle.pc_rows.specs.Substitution.{never_row}
use Rattle.pc_entail.specs.Showing.{question, IsShown, AllShown, IsNotFound, SomeNotFound, ShowIs, ContradictoryIs}
use Rattle.pc_entail.specs.Laws.{ShownRowsAreMet}
use Rattle.pc_entail.specs.Steps.{FailsToShow}

pub shown_rows_are_met : ShownRowsAreMet
shown_rows_are_met rows [] s h m = tt
shown_rows_are_met rows (goal ∷ goals) s h m = (shown_is_met rows goal h.0.0 s h.0.1 m, shown_rows_are_met rows goals s h.1 m)

-- the loop over goals

pub all_more : (rows goals : List Linear) (i : ℕ) (r : Linear) → slice_get goals i ≡ Some r → IsShown rows r →
    (AllShown rows (drop i goals) → AllShown rows goals) → AllShown rows (drop (i + 1) goals) → AllShown rows goals
all_more rows goals i r at shown go more = go (subst (AllShown rows) (sym (drop_got goals i r at)) (shown, more))

pub some_more : (rows goals : List Linear) (i : ℕ) (r : Linear) → slice_get goals i ≡ Some r →
    (SomeNotFound rows (drop i goals) → SomeNotFound rows goals) → SomeNotFound rows (drop (i + 1) goals) → SomeNotFound rows goals
some_more rows goals i r at go more = go (subst (SomeNotFound rows) (sym (drop_got goals i r at)) (inr more))

pub some_here : (rows goals : List Linear) (i : ℕ) (r : Linear) → slice_get goals i ≡ Some r → IsNotFound rows r →
    (SomeNotFound rows (drop i goals) → SomeNotFound rows goals) → SomeNotFound rows goals
some_here rows goals i r at not_found go = go (subst (SomeNotFound rows) (sym (drop_got goals i r at)) (inl not_found))

pub all_done : (rows goals : List Linear) (i : ℕ) → length goals ≤ i → (AllShown rows (drop i goals) → AllShown rows goals) → AllShown rows goals
all_done rows goals i past go = go (subst (AllShown rows) (sym (drop_all i goals past)) tt)

-- a row that is not found fails to be shown, unless its question is not modest

one_fails : (rows : List Linear) (goal : Linear) → IsNotFound rows goal → IsModest (question rows goal) → IsShown rows goal → ⊥
one_fails rows goal (inl (p, refutes)) modest (q, shows) = refuted_is_not_shown rows goal q p shows refutes
one_fails rows goal (inr not_modest) modest shown = not_modest modest

not_found_fails : (rows goals : List Linear) → SomeNotFound rows goals → FailsToShow rows goals
not_found_fails rows [] h = absurd h
not_found_fails rows (goal ∷ goals) (inl h) = λ modest shown. one_fails rows goal h modest.0 shown.0
not_found_fails rows (goal ∷ goals) (inr h) = λ modest shown. not_found_fails rows goals h modest.1 shown.1

-- whether a row goes, after those that went before

pub removed_stays : (stay removed : List Linear) (r : Linear) → SomeNotFound stay removed → FailsToShow stay (removed ++ r ∷ [])
removed_stays stay removed r h modest all = not_found_fails stay removed h
    (each_left (λ q. IsModest (question stay q)) removed (r ∷ []) modest) (each_left (IsShown stay) removed (r ∷ []) all)

pub unknown_stays : (stay removed : List Linear) (r : Linear) → IsNotFound stay r → FailsToShow stay (removed ++ r ∷ [])
unknown_stays stay removed r h modest all = one_fails stay r h
    (each_right (λ q. IsModest (question stay q)) removed (r ∷ []) modest).0 (each_right (IsShown stay) removed (r ∷ []) all).0

-- rows that contradict each other

pub contradictory_is : (rows : List Linear) (found : Result Bool NoMemory) → ShowIs (rows ++ []) never_row found → ContradictoryIs rows found
contradictory_is rows found h = by found (subst (λ (z : List Linear). ShowIs z never_row found) (append-nil rows) h)
  where
    by : (found : Result Bool NoMemory) → ShowIs rows never_row found → ContradictoryIs rows found
    by (Ok true) h = h
    by (Ok false) (inl (p, refutes)) = inl (p, refutes.positive, refutes.meets_premises)
    by (Ok false) (inr not_modest) = inr not_modest
    by (Err e) h = tt

pub contradictory_states : (rows : List Linear) (found : Result Bool NoMemory) → ContradictoryIs rows found → found ≡ Ok true → (s : State) → MeetsAll s rows → ⊥
contradictory_states rows (Ok true) (p, shows) e s m =
    let below = shown_is_met rows never_row p s shows m in
    let v = value-constant (negsuc 0) s in omega (arith, ints)
contradictory_states rows (Ok false) h e s m = cc
contradictory_states rows (Err x) h e s m = cc
