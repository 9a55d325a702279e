-- Points that are completed one after the other.
use Rattle.std.proofs.Common.{◌≡◌, ◌∙◌, ℕ, suc, zero, ◌≤◌, List, [], ◌++◌, length, set, sym, ap, subst, cond, Bool, true, false, arith, Err, Result, Ok, length-set}
use Rattle.std.specs.Prelude.{IfOk}
use Rattle.std.specs.List.{AllByRecursion as Each}
use Rattle.pc_rows.specs.Linear.{Linear}
use Rattle.pc_rows.specs.declared.rows.TheConstants.{ROWS}
use Rattle.pc_flow.specs.Flow.{Flow}
use Rattle.pc_flow.specs.Shape.{NoHeads, IsGraph}
use Rattle.pc_lower.specs.declared.fault.CandidateFault.{CandidateFault}
use Rattle.pc_lower.specs.declared.fault.CandidateFault.TheVariants.{Past, Full, NoMemory}
use Rattle.pc_flow.specs.Annotation.{rows_at}
use Rattle.pc_lower.specs.Annotation.{is_head, AreFew, AreOver}
use Rattle.pc_flow.specs.Incidence.{leaving}
use Rattle.pc_lower.specs.Need.{needed_at, at_heads, filled, filled_below, need}
use Rattle.pc_lower.specs.Operations.{Operation, Fits, Answers, edges_operations, operations_below, operations}
use Rattle.pc_lower.specs.Laws.{IsComplete, IsNotRefused}
use Rattle.pc_lower.specs.Tame.{IsTame}
use Rattle.pc_lower.proofs.Agreeing.{agree_leaving, operations_alike}
use Rattle.pc_lower.proofs.Answering.{Left, left_all, left_over, refused, no_fault}
use Rattle.pc_lower.proofs.Filling.{agree_below}
use Rattle.pc_lower.proofs.Meaning.{heads_long}
use Rattle.pc_lower.proofs.Tameness.{tame_need_fits}
use Rattle.pc_lower.proofs.Variables.{each_set, need_is_complete}

-- all points from number n on have what they need
pub record Completes (g : Flow) (heads : List (List Linear)) (n : ℕ) (a : List (List Linear)) : Type 0 where
  pub within : n ≤ length g.points
  pub long : length a ≡ length g.points
  pub few : AreFew a
  pub rest : filled_below g n a ≡ need g heads
  pub left : Left (operations_below g (rows_at (need g heads)) n) (operations g heads)

pub completes_none : (g : Flow) (heads a : List (List Linear)) (n : ℕ) → n ≡ length g.points → a ≡ at_heads g.points heads → AreFew a → Completes g heads n a
completes_none g heads a n all is few =
    let start : Completes g heads (length g.points) a = record {
      within = omega arith;
      long = ap (λ (z : List (List Linear)). length z) is ∙ heads_long g.points heads;
      few = few;
      rest = ap (filled_below g (length g.points)) is;
      left = left_all (operations g heads);
    } in
    subst (λ (m : ℕ). Completes g heads m a) (sym all) start

pub completes_all : (g : Flow) (heads a : List (List Linear)) (n : ℕ) → n ≤ 0 → Completes g heads n a → Each Fits (operations g heads) × (a ≡ need g heads)
completes_all g heads a zero le h = (h.left.fit tt, h.rest)
completes_all g heads a (suc n) le h = absurd (omega arith)

module _ (g : Flow) (heads a : List (List Linear)) (is : IsGraph g) (n : ℕ) (h : Completes g heads (suc n) a) where
  head_left : is_head g.points n ≡ true → Left (operations_below g (rows_at (need g heads)) n) (operations g heads)
  head_left head =
      subst (λ (t : Bool). Left (cond t [] (edges_operations (rows_at (need g heads)) [] (leaving n g.edges)) ++ operations_below g (rows_at (need g heads)) n) (operations g heads)) head h.left

  -- a head has its rows
  pub completes_head : is_head g.points n ≡ true → Completes g heads n a
  completes_head head =
      let same = ap (λ (t : Bool). filled_below g n (cond t a (set a n (needed_at g.edges (rows_at a) n)))) (sym head) in
      let within = h.within in
      record { within = omega arith; long = h.long; few = h.few; rest = same ∙ h.rest; left = head_left head }

  -- the operations at any other point are the next, whether the rows at greater points are those so far or those at the end
  next_left : is_head g.points n ≡ false → Left (edges_operations (rows_at a) [] (leaving n g.edges) ++ operations_below g (rows_at (need g heads)) n) (operations g heads)
  next_left other =
      let opened =
      subst (λ (t : Bool). Left (cond t [] (edges_operations (rows_at (need g heads)) [] (leaving n g.edges)) ++ operations_below g (rows_at (need g heads)) n) (operations g heads)) other h.left in
      let agree = agree_leaving g.points g.variables n (rows_at a) (rows_at (filled_below g (suc n) a)) g.edges is.leads (agree_below g n a) in
      let alike = operations_alike (rows_at a) (rows_at (filled_below g (suc n) a)) [] (leaving n g.edges) agree in
      let same = alike ∙ ap (λ (z : List (List Linear)). edges_operations (rows_at z) [] (leaving n g.edges)) h.rest in
      subst (λ (z : List Operation). Left (z ++ operations_below g (rows_at (need g heads)) n) (operations g heads)) (sym same) opened

  pub completes_next : (rows : List Linear) (new : List (List Linear)) → is_head g.points n ≡ false → Each Fits (edges_operations (rows_at a) [] (leaving n g.edges)) →
      rows ≡ needed_at g.edges (rows_at a) n → length rows ≤ ROWS → new ≡ set a n rows → Completes g heads n new
  completes_next rows new other fit is_needed most is_set =
      let same : new ≡ filled g n a =
      is_set ∙ ap (λ (z : List Linear). set a n z) is_needed ∙ ap (λ (t : Bool). cond t a (set a n (needed_at g.edges (rows_at a) n))) (sym other) in
      let within = h.within in
      record {
        within = omega arith;
        long = ap (λ (z : List (List Linear)). length z) is_set ∙ length-set a n rows ∙ h.long;
        few = subst AreFew (sym is_set) (each_set (λ rows. length rows ≤ ROWS) a n rows most h.few);
        rest = ap (filled_below g n) same ∙ h.rest;
        left = left_over (edges_operations (rows_at a) [] (leaving n g.edges)) (operations_below g (rows_at (need g heads)) n) _ (next_left other) fit;
      }

  pub completes_refused : (part : List Linear) (f : CandidateFault) → is_head g.points n ≡ false → Answers (edges_operations (rows_at a) [] (leaving n g.edges)) part (Err f) →
      Answers (operations g heads) (need g heads) (Err f)
  completes_refused part f other answer =
      refused (edges_operations (rows_at a) [] (leaving n g.edges)) (operations_below g (rows_at (need g heads)) n) (operations g heads) part (need g heads) f (next_left other) answer

-- a computation all of whose operations can be carried out is not refused
pub fits_not_refused : {A : Type 0} (os : List Operation) (value : A) (answer : Result A CandidateFault) → Answers os value answer → Each Fits os → IsNotRefused answer
fits_not_refused os value (Ok x) h fit = tt
fits_not_refused os value (Err Past) h fit = no_fault Past os h fit
fits_not_refused os value (Err Full) h fit = no_fault Full os h fit
fits_not_refused os value (Err NoMemory) h fit = tt

pub tame_not_refused : (g : Flow) (heads : List (List Linear)) (answer : Result (List (List Linear)) CandidateFault) → IsGraph g → Answers (operations g heads) (need g heads) answer →
    NoHeads g.points → IsTame g → IsNotRefused answer
tame_not_refused g heads answer is h none tame = fits_not_refused (operations g heads) (need g heads) answer h (tame_need_fits g heads is none tame)

pub complete_told : (g : Flow) (heads : List (List Linear)) (answer : Result (List (List Linear)) CandidateFault) → IsGraph g → AreOver g.variables heads → Answers (operations g heads) (need g heads) answer →
    IfOk answer (IsComplete g)
complete_told g heads (Ok a) is over h = subst (IsComplete g) (sym h.1) (need_is_complete g heads is over)
complete_told g heads (Err f) is over h = tt
