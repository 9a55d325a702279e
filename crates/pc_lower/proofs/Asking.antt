-- What an edge asks, and the operations by which it is joined.
use Rattle.std.proofs.Common.{◌≡◌, ◌∙◌, ◌≤◌, List, [], ◌∷◌, ◌++◌, length, arith, sym, refl, ap, subst, Result, Ok, Err, inl, inr}
use Rattle.std.specs.List.{AllByRecursion as Each}
use Rattle.pc_rows.specs.Linear.{Linear}
use Rattle.pc_rows.specs.Joins.{joined, with_row}
use Rattle.pc_rows.specs.declared.rows.TheConstants.{ROWS}
use Rattle.pc_rows.proofs.Joining.{joined-longer}
use Rattle.pc_flow.specs.declared.what.What.{What}
use Rattle.pc_flow.specs.declared.what.What.TheVariants.{Test, Check}
use Rattle.pc_flow.specs.Carry.{back_all}
use Rattle.pc_lower.specs.declared.fault.CandidateFault.{CandidateFault}
use Rattle.pc_lower.specs.declared.fault.CandidateFault.TheVariants.{Past, Full, NoMemory}
use Rattle.pc_lower.specs.Need.{uncovered, demanded}
use Rattle.pc_lower.specs.Operations.{Joins, Fits, IsFirstFault, Answers, carries, edge_operations}
use Rattle.pc_lower.proofs.Answering.{fault_after, answer_after}

-- joins one after the other
pub joined-append : (a b c : List Linear) → joined a (b ++ c) ≡ joined (joined a b) c
joined-append a [] c = refl
joined-append a (r ∷ b) c = joined-append (with_row a r) b c

-- over a test and over an assertion rows stay as they are
test_same : (own rows : List Linear) → back_all (Test own) rows ≡ rows
test_same own [] = refl
test_same own (r ∷ rows) = ap (λ (z : List Linear). r ∷ z) (test_same own rows)

test_fits : (own rows : List Linear) → Each Fits (carries (Test own) rows)
test_fits own [] = tt
test_fits own (r ∷ rows) = (tt, test_fits own rows)

check_fits : (own rows : List Linear) → Each Fits (carries (Check own) rows)
check_fits own [] = tt
check_fits own (r ∷ rows) = (tt, check_fits own rows)

after_carries : (w : What) (a target : List Linear) (answer : Result (List Linear) CandidateFault) → Each Fits (carries w target) →
    Answers (Joins a (demanded w target) ∷ []) (joined a (demanded w target)) answer → Answers (edge_operations w a target) (joined a (demanded w target)) answer
after_carries w a target answer fit h = answer_after (carries w target) (Joins a (demanded w target) ∷ []) (joined a (demanded w target)) answer fit h

pub over_test : (w : What) (own a target left : List Linear) (answer : Result (List Linear) CandidateFault) → w ≡ Test own → left ≡ uncovered own target →
    Answers (Joins a left ∷ []) (joined a left) answer → Answers (edge_operations w a target) (joined a (demanded w target)) answer
over_test w own a target left answer e is h =
    rw e (after_carries (Test own) a target answer (test_fits own target)
    (subst (λ (z : List Linear). Answers (Joins a z ∷ []) (joined a z) answer) (is ∙ ap (uncovered own) (sym (test_same own target))) h))

-- two joins are one with both lists
both_refused : (f : CandidateFault) (own a target : List Linear) → IsFirstFault f (Joins (joined a own) target ∷ []) → IsFirstFault f (Joins a (own ++ target) ∷ [])
both_refused f own a target (inl h) = inl ((λ fit. h.0 (subst (λ (z : List Linear). length z ≤ ROWS) (joined-append a own target) fit)), h.1)
both_refused f own a target (inr h) = absurd h.1

over_both : (own a target : List Linear) (answer : Result (List Linear) CandidateFault) →
    Answers (Joins (joined a own) target ∷ []) (joined (joined a own) target) answer → Answers (Joins a (own ++ target) ∷ []) (joined a (own ++ target)) answer
over_both own a target (Ok value) h =
    let same = joined-append a own target in
    ((subst (λ (z : List Linear). length z ≤ ROWS) (sym same) h.0.0, tt), h.1 ∙ sym same)
over_both own a target (Err Past) h = both_refused Past own a target h
over_both own a target (Err Full) h = both_refused Full own a target h
over_both own a target (Err NoMemory) h = tt

pub over_check : (w : What) (own a first target : List Linear) (answer : Result (List Linear) CandidateFault) → w ≡ Check own → first ≡ joined a own →
    Answers (Joins first target ∷ []) (joined first target) answer → Answers (edge_operations w a target) (joined a (demanded w target)) answer
over_check w own a first target answer e is h =
    rw e (after_carries (Check own) a target answer (check_fits own target)
    (over_both own a target answer (subst (λ (z : List Linear). Answers (Joins z target ∷ []) (joined z target) answer) is h)))

-- where the first join has a row too many, so has that with both lists
longer : (own a target : List Linear) → length (joined a (own ++ target)) ≤ ROWS → length (joined a own) ≤ ROWS
longer own a target h =
    let more = joined-longer (joined a own) target in
    let size = ap (λ (z : List Linear). length z) (joined-append a own target) in
    omega arith

first_refused : (f : CandidateFault) (own a target : List Linear) → IsFirstFault f (Joins a own ∷ []) → IsFirstFault f (edge_operations (Check own) a target)
first_refused f own a target (inl h) =
    fault_after f (carries (Check own) target) (Joins a (own ++ target) ∷ []) (check_fits own target) (inl ((λ fit. h.0 (longer own a target fit)), h.1))
first_refused f own a target (inr h) = absurd h.1

check_refused : (own a target value : List Linear) (e : CandidateFault) → Answers (Joins a own ∷ []) (joined a own) (Err e) → Answers (edge_operations (Check own) a target) value (Err e)
check_refused own a target value Past h = first_refused Past own a target h
check_refused own a target value Full h = first_refused Full own a target h
check_refused own a target value NoMemory h = tt

pub over_check_refused : (w : What) (own a target value : List Linear) (e : CandidateFault) → w ≡ Check own → Answers (Joins a own ∷ []) (joined a own) (Err e) →
    Answers (edge_operations w a target) value (Err e)
over_check_refused w own a target value e is h =
    subst (λ (z : What). Answers (edge_operations z a target) value (Err e)) (sym is) (check_refused own a target value e h)

-- the rows are carried back, and then joined
pub carried_joined : (w : What) (a target back : List Linear) (answer : Result (List Linear) CandidateFault) → Each Fits (carries w target) → back ≡ back_all w target →
    Answers (Joins a back ∷ []) (joined a back) answer → Answers (carries w target ++ Joins a (back_all w target) ∷ []) (joined a (back_all w target)) answer
carried_joined w a target back answer fit is h = answer_after (carries w target) (Joins a (back_all w target) ∷ []) (joined a (back_all w target)) answer fit (subst (λ (z : List Linear). Answers (Joins a z ∷ []) (joined a z) answer) is h)
