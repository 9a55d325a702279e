-- Of rows that are modest together, each question that arises is modest.
use Rattle.std.proofs.Common.{◌≡◌, ℕ, zero, suc, ◌+◌, ◌≤◌, pos, neg_ℤ, refl, arith, List, [], ◌∷◌, ◌++◌, length, length-append, Bool, true, false, cond, inl, inr}
use Rattle.std.specs.Prelude.{not}
use Rattle.std.specs.List.{AllByRecursion}
use Rattle.std.proofs.lemmas.Bool.{or_parts}
use Rattle.pc_rows.specs.declared.row.TheConstants.{VARIABLES}
use Rattle.pc_rows.specs.declared.system.TheConstants.{MODEST_ROWS, MODEST_NUMBER}
use Rattle.pc_rows.specs.Linear.{Linear, coefficient, is_zero, negation}
use Rattle.pc_rows.specs.Bounds.{Within, AllWithin}
use Rattle.pc_rows.specs.Modest.{occurs, occurring, IsModest}
use Rattle.pc_rows.proofs.Algebra.{get_or-negate_list}
use Rattle.pc_rows.proofs.Joining.{each_join}
use Rattle.pc_rows.proofs.Lists.{zero_is}
use Rattle.pc_entail.specs.Showing.{question}
use Rattle.pc_entail.specs.Reduction.{Reduces, Thins, Thinned, Reduced, AllModest, AreModest}

-- a row has only variables that the rows have
abbrev HasNoOther : List Linear → Linear → Type 0
HasNoOther rows r = (v : ℕ) → occurs v rows ≡ false → coefficient r v ≡ pos 0

-- what each row of modest rows has
record IsSmall (rows : List Linear) (r : Linear) : Type 0 where
  numbers : Within MODEST_NUMBER r
  negation : Within MODEST_NUMBER (negation r)
  variables : HasNoOther rows r

zero_test : (t : Bool) → not t ≡ false → t ≡ true
zero_test true h = refl
zero_test false h = cc

none_occurs : (v : ℕ) (rows : List Linear) → occurs v rows ≡ false → AllByRecursion (λ r. coefficient r v ≡ pos 0) rows
none_occurs v [] h = tt
none_occurs v (r ∷ rows) h =
    let b = or_parts (not (is_zero (coefficient r v))) (occurs v rows) h in
    (zero_is (coefficient r v) (zero_test (is_zero (coefficient r v)) b.0), none_occurs v rows b.1)

occurs_none : (v : ℕ) (rows : List Linear) → AllByRecursion (λ r. coefficient r v ≡ pos 0) rows → occurs v rows ≡ false
occurs_none v [] h = refl
occurs_none v (r ∷ rows) h = rw (h.0, occurs_none v rows h.1) refl

negated_coefficient : (r : Linear) (v : ℕ) → coefficient (negation r) v ≡ neg_ℤ (coefficient r v)
negated_coefficient r v = get_or-negate_list r.coefficients v

negation_has : (rows : List Linear) (r : Linear) → HasNoOther rows r → HasNoOther rows (negation r)
negation_has rows r h v none = rw (negated_coefficient r v, h v none) refl

-- the facts of all rows at each variable are those of each row at all variables
each_row : (rows rs : List Linear) → ((v : ℕ) → occurs v rows ≡ false → AllByRecursion (λ r. coefficient r v ≡ pos 0) rs) → AllByRecursion (HasNoOther rows) rs
each_row rows [] h = tt
each_row rows (r ∷ rs) h = ((λ v none. (h v none).0), each_row rows rs (λ v none. (h v none).1))

each_small : (rows rs : List Linear) → AllWithin MODEST_NUMBER rs → AllByRecursion (λ r. Within MODEST_NUMBER (negation r)) rs → AllByRecursion (HasNoOther rows) rs → AllByRecursion (IsSmall rows) rs
each_small rows [] h g k = tt
each_small rows (r ∷ rs) h g k = (record { numbers = h.0; negation = g.0; variables = k.0 }, each_small rows rs h.1 g.1 k.1)

are_small : (rows : List Linear) → AreModest rows → AllByRecursion (IsSmall rows) rows
are_small rows h = each_small rows rows h.numbers h.negations (each_row rows rows (λ v none. none_occurs v rows none))

-- no more variables occur in rows that have no other
one_at_most : (s t : Bool) → (t ≡ false → s ≡ false) → cond s 1 0 ≤ cond t 1 0
one_at_most true true h = omega arith
one_at_most true false h = let e = h refl in cc
one_at_most false t h = omega arith

at_variable : (rows : List Linear) (v : ℕ) (rs : List Linear) → AllByRecursion (HasNoOther rows) rs → occurs v rows ≡ false → AllByRecursion (λ r. coefficient r v ≡ pos 0) rs
at_variable rows v [] h none = tt
at_variable rows v (r ∷ rs) h none = (h.0 v none, at_variable rows v rs h.1 none)

fewer_occur : (rows rs : List Linear) (n v : ℕ) → AllByRecursion (HasNoOther rows) rs → occurring n v rs ≤ occurring n v rows
fewer_occur rows rs zero v h = omega arith
fewer_occur rows rs (suc n) v h =
    let a = one_at_most (occurs v rs) (occurs v rows) (λ none. occurs_none v rs (at_variable rows v rs h none)) in
    let b = fewer_occur rows rs n (suc v) h in
    omega arith

module _ (rows : List Linear) where
  within : (rs : List Linear) → AllByRecursion (IsSmall rows) rs → AllWithin MODEST_NUMBER rs
  within [] h = tt
  within (r ∷ rs) h = (h.0.numbers, within rs h.1)

  variables : (rs : List Linear) → AllByRecursion (IsSmall rows) rs → AllByRecursion (HasNoOther rows) rs
  variables [] h = tt
  variables (r ∷ rs) h = (h.0.variables, variables rs h.1)

  module _ (modest : AreModest rows) where
    question_modest : (stay : List Linear) (q : Linear) → length stay + 1 ≤ MODEST_ROWS → AllByRecursion (IsSmall rows) stay → IsSmall rows q → IsModest (question stay q)
    question_modest stay q few h g =
        let all = each_join (HasNoOther rows) stay (negation q ∷ []) (variables stay h) (negation_has rows q g.variables, tt) in
        record {
          rows = let l = length-append stay (negation q ∷ []) in omega arith;
          variables = let a = fewer_occur rows (stay ++ negation q ∷ []) VARIABLES 0 all in let b = modest.variables in omega arith;
          numbers = each_join (Within MODEST_NUMBER) stay (negation q ∷ []) (within stay h) (g.negation, tt);
          goal = g.numbers;
        }

    all_modest : (stay qs : List Linear) → length stay + 1 ≤ MODEST_ROWS → AllByRecursion (IsSmall rows) stay → AllByRecursion (IsSmall rows) qs → AllModest stay qs
    all_modest stay [] few h g = tt
    all_modest stay (q ∷ qs) few h g = (question_modest stay q few h g.0, all_modest stay qs few h g.1)

    thins_reduces : (kept removed later answer : List Linear) → length kept + length later ≤ MODEST_ROWS → AllByRecursion (IsSmall rows) kept → AllByRecursion (IsSmall rows) removed → AllByRecursion (IsSmall rows) later →
        Thins kept removed later answer → Reduces kept removed later answer
    thins_reduces kept removed [] answer few k g l is = is
    thins_reduces kept removed (r ∷ later) answer few k g l (inl (shown, more)) =
        inl (shown, thins_reduces kept (removed ++ r ∷ []) later answer (omega arith) k (each_join (IsSmall rows) removed (r ∷ []) g (l.0, tt)) l.1 more)
    thins_reduces kept removed (r ∷ later) answer few k g l (inr (fails, more)) =
        let a = length-append kept later in
        let b = length-append kept (r ∷ []) in
        let all = all_modest (kept ++ later) (removed ++ r ∷ []) (omega arith) (each_join (IsSmall rows) kept later k l.1) (each_join (IsSmall rows) removed (r ∷ []) g (l.0, tt)) in
        inr (fails all, thins_reduces (kept ++ r ∷ []) removed later answer (omega arith) (each_join (IsSmall rows) kept (r ∷ []) k (l.0, tt)) g l.1 more)

-- where the rows are modest what is thinned is reduced
pub modest_reduced : (rows answer : List Linear) → Thinned rows answer → AreModest rows → Reduced rows answer
modest_reduced rows answer h modest = thins_reduces rows modest [] [] rows answer (let f = modest.few in omega arith) tt tt (are_small rows modest) h
