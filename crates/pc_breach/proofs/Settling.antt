-- The answer of an entry state: what is settled, and what is tame.
use Rattle.std.proofs.Common.{◌≡◌, ◌∙◌, ℕ, ◌+◌, ◌*◌, ◌^◌, ◌<◌, ◌≤◌, ℤ, pos, ◌+ℤ◌, ◌*ℤ◌, List, [], ◌∷◌, length, Bool, true, false, cond, refl, ap, arith, Some, None, Result, Ok, Err}
use Rattle.std.specs.Prelude.{int_le}
use Rattle.std.specs.Bool.{MatchBool}
use Rattle.pc_rows.specs.declared.rows.NoMemory.{NoMemory}
use Rattle.pc_rows.specs.declared.row.TheConstants.{VARIABLES}
use Rattle.pc_rows.specs.Linear.{Linear, State, MeetsAll, value}
use Rattle.pc_rows.specs.Points.{SumsFit}
use Rattle.pc_rows.specs.Bounds.{IsWithin, AreWithin, AllWithin}
use Rattle.pc_rows.proofs.Bounding.{product_within, sum_within, within_in_range}
use Rattle.pc_rows.proofs.Joining.{le_is, is_le}
use Rattle.pc_flow.specs.declared.what.What.TheVariants.{Enter}
use Rattle.pc_flow.specs.Arc.{arc}
use Rattle.pc_flow.specs.Flow.{Flow}
use Rattle.pc_flow.specs.Shape.{NoHeads, IsGraph}
use Rattle.pc_flow.proofs.Entries.{edge_within}
use Rattle.pc_lower.specs.Annotation.{no_rows}
use Rattle.pc_lower.specs.Tame.{IsTame, AreTame, tame_bound}
use Rattle.pc_lower.proofs.Tameness.{no_tame, tame_need_fits}
use Rattle.pc_lower.proofs.Variables.{each_rows_at}
use Rattle.pc_breach.specs.declared.answer.Breach.{Breach}
use Rattle.pc_breach.specs.declared.answer.Breach.TheVariants.{Past, Safe, Choices}
use Rattle.pc_breach.specs.Entry.{AreEvaluated, first_broken}
use Rattle.pc_breach.specs.Answers.{needed, entry_rows, IsSettled, BreachIs, IsNotPast}

-- ---- the first row that is not met

pub none_broken : (s : State) (rows : List Linear) → None ≡ first_broken s rows → MeetsAll s rows
none_broken s [] h = tt
none_broken s (r ∷ rows) h = by (int_le (pos 0) (value r s)) refl h (none_broken s rows)
  where
    by : (t : Bool) → int_le (pos 0) (value r s) ≡ t → None ≡ cond t (first_broken s rows) (Some r) → (None ≡ first_broken s rows → MeetsAll s rows) → MeetsAll s (r ∷ rows)
    by true met h more = (le_is (pos 0) (value r s) met, more h)
    by false met h more = absurd (cc)

pub some_broken : (s : State) (rows : List Linear) (r : Linear) → Some r ≡ first_broken s rows → MeetsAll s rows → ⊥
some_broken s [] r h m = cc
some_broken s (x ∷ rows) r h m =
    some_broken s rows r (h ∙ ap (λ (t : Bool). cond t (first_broken s rows) (Some x)) (is_le (pos 0) (value x s) m.0)) m.1

-- ---- tame numbers

sums_fit : (b m : ℕ) (sum : ℤ) (cs s : List ℤ) → IsWithin m sum → AreWithin b cs → AreWithin b s → m + length s * (b * b) < 2 ^ 127 → SumsFit sum cs s
sums_fit b m sum [] s hm hc hs lt = tt
sums_fit b m sum (c ∷ cs) [] hm hc hs lt = tt
sums_fit b m sum (c ∷ cs) (x ∷ s) hm hc hs lt =
    let product = product_within b b c x hc.0 hs.0 in
    let next = sum_within m (b * b) sum (c *ℤ x) hm product in
    let small : b * b < 2 ^ 127 = omega arith in
    let less : m + b * b < 2 ^ 127 = omega arith in
    let rest : m + b * b + length s * (b * b) < 2 ^ 127 = omega arith in
    (within_in_range (b * b) (c *ℤ x) small product, within_in_range (m + b * b) (sum +ℤ c *ℤ x) less next, sums_fit b (m + b * b) (sum +ℤ c *ℤ x) cs s next hc.1 hs.1 rest)

evaluated_fit : (b : ℕ) (s : State) (rows : List Linear) → AllWithin b rows → AreWithin b s → b + length s * (b * b) < 2 ^ 127 → AreEvaluated s rows
evaluated_fit b s [] h hs lt = tt
evaluated_fit b s (r ∷ rows) h hs lt =
    (sums_fit b b r.constant r.coefficients s h.0.constant h.0.coefficients hs lt, by (int_le (pos 0) (value r s)) (evaluated_fit b s rows h.1 hs lt))
  where
    by : (t : Bool) → AreEvaluated s rows → MatchBool t (AreEvaluated s rows) (Unit {0})
    by true more = more
    by false more = tt

few_products : (n : ℕ) → n ≤ 32 → tame_bound + n * (tame_bound * tame_bound) < 2 ^ 127
few_products n le = omega arith

pub tame_settled : (g : Flow) (s : State) → IsGraph g → NoHeads g.points → length s ≤ VARIABLES → IsTame g → AreWithin tame_bound s → IsSettled g s
tame_settled g s is none long tame within =
    let rows = each_rows_at AreTame (needed g) 0 no_tame tame.points in
    record {
      need = tame_need_fits g (no_rows g.points) is none tame;
      entry = evaluated_fit tame_bound s (entry_rows g) rows.numbers within (few_products (length s) long);
    }

pub settled_not_past : (g : Flow) (s : State) (answer : Result Breach NoMemory) → BreachIs g s answer → IsSettled g s → IsNotPast answer
settled_not_past g s (Ok Past) h settled = h settled
settled_not_past g s (Ok Safe) h settled = tt
settled_not_past g s (Ok (Choices cs)) h settled = tt
settled_not_past g s (Err e) h settled = tt

-- a graph has a point
pub some_point : (g : Flow) → IsGraph g → 0 < length g.points
some_point g is = (edge_within g 0 (arc 0 1 (Enter g.params)) is is.enters).0
