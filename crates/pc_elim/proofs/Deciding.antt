-- The answer of elimination decides a system: it is evidence either way, and there is one for every modest system.
use Rattle.std.proofs.Common.{◌≡◌, ℕ, zero, ◌≤◌, ◌^◌, ℤ, refl, subst, arith, List, [], ◌∷◌, Option, Some, None, length, length-append, Result, Ok, Err}
use Rattle.std.specs.List.{AllByRecursion}
use Rattle.pc_rows.specs.declared.row.TheConstants.{VARIABLES}
use Rattle.pc_rows.specs.declared.rows.NoMemory.{NoMemory}
use Rattle.pc_rows.specs.declared.system.TheConstants.{MODEST_NUMBER}
use Rattle.pc_rows.specs.Linear.{Linear, IsRow, IsInRange, negation}
use Rattle.pc_rows.specs.Bounds.{AreWithin, Within, AllWithin}
use Rattle.pc_rows.specs.Evidence.{System, Proof, Point, IsSystem}
use Rattle.pc_rows.specs.Shows.{Shows, TotalFits}
use Rattle.pc_rows.specs.Points.{MeetsAt, Refutes}
use Rattle.pc_rows.specs.Modest.{refuting, IsModest}
use Rattle.pc_rows.proofs.Joining.{each_join, each_left, each_right}
use Rattle.pc_rows.proofs.Farkas.{refuted_is_not_shown}
use Rattle.pc_elim.specs.declared.decision.Answer.{Answer}
use Rattle.pc_elim.specs.declared.decision.Answer.TheVariants.{Shown as Proved, Point as Refuted, Unsettled}
use Rattle.pc_elim.specs.declared.made.TheConstants.{PARTS}
use Rattle.pc_elim.specs.Elimination.{level, started}
use Rattle.pc_elim.specs.Settling.{origin, taken_back, proof_of}
use Rattle.pc_elim.specs.Deciding.{IsEvidence, DecideIs, start, contradiction, answer_by, EvidenceFits, DecisionFits, AnswerIs}
use Rattle.pc_elim.proofs.Completeness.{origin_from, origin_meets, back_meets}
use Rattle.pc_elim.proofs.Soundness.{Contradicts, last_contradicts, last_full}
use Rattle.pc_elim.proofs.SmallRows.{row_in_range, row_more}
use Rattle.pc_elim.proofs.Stages.{Modestly, modest_fits}
use Rattle.pc_elim.proofs.Starting.{Long, started_good, started_full, started_within, started_remaining, started_meets, length-started}
use Rattle.pc_elim.proofs.Proving.{long_negation, contradiction_shows}
use Rattle.pc_elim.proofs.Totals.{total_fits}

rows_long : (rows : List Linear) → AllByRecursion IsRow rows → AllByRecursion Long rows
rows_long [] h = tt
rows_long (r ∷ rows) h = (h.0.wide, rows_long rows h.1)

all_more : (m n : ℕ) (rows : List Linear) → m ≤ n → AllWithin m rows → AllWithin n rows
all_more m n [] le h = tt
all_more m n (r ∷ rows) le h = (row_more m n r le h.0, all_more m n rows le h.1)

-- the multipliers of a contradiction show the goal

long_refuting : (s : System) → IsSystem s → AllByRecursion Long (refuting s)
long_refuting s h = each_join Long s.premises (negation s.goal ∷ []) (rows_long s.premises h.each) (long_negation s.goal h.goal.wide, tt)

contradiction_contradicts : (s : System) (ms : List ℤ) → IsSystem s → contradiction s ≡ Some ms → Contradicts (refuting s) ms
unfolding contradiction start
contradiction_contradicts s ms h e =
    let long = long_refuting s h in
    let most = h.most in
    let l = length-append s.premises (negation s.goal ∷ []) in
    last_contradicts (refuting s) VARIABLES (started PARTS (refuting s)) ms
    (started_good PARTS zero (refuting s) (refuting s) long long (omega arith) refl) e

contradiction_full : (s : System) (ms : List ℤ) → contradiction s ≡ Some ms → length ms ≡ PARTS
unfolding contradiction start
contradiction_full s ms e = last_full PARTS VARIABLES (started PARTS (refuting s)) ms (started_full PARTS zero (refuting s)) e

contradiction_proves : (s : System) (ms : List ℤ) → IsSystem s → contradiction s ≡ Some ms → Shows s.premises s.goal (proof_of (length s.premises) ms)
contradiction_proves s ms h e =
    let most = h.most in
    let full = contradiction_full s ms e in
    contradiction_shows s.premises s.goal ms (rows_long s.premises h.each) h.goal.wide (omega arith) (contradiction_contradicts s ms h e)

-- the point refutes the system

last_point : System → Point
last_point s = taken_back VARIABLES (start s) (origin VARIABLES)

point_refutes : (s : System) → contradiction s ≡ None → Refutes s.premises s.goal (last_point s)
unfolding last_point contradiction start
point_refutes s e =
    let q = back_meets VARIABLES VARIABLES (start s) (origin VARIABLES) (omega arith) (origin_from VARIABLES VARIABLES) (origin_meets VARIABLES (level VARIABLES (start s)) e) in
    let m = started_meets PARTS zero (last_point s) (refuting s) q.1 in
    record {
      positive = q.0.positive;
      meets_premises = each_left (MeetsAt (last_point s)) s.premises (negation s.goal ∷ []) m;
      meets_negation = (each_right (MeetsAt (last_point s)) s.premises (negation s.goal ∷ []) m).0;
    }

-- all numbers of a modest system fit

modest_start : (s : System) → IsModest s → Modestly VARIABLES (start s)
unfolding start
modest_start s m =
    let r = started_remaining PARTS VARIABLES zero (refuting s) in
    let l = length-started PARTS zero (refuting s) in
    modest_fits VARIABLES (started PARTS (refuting s)) (omega arith) (omega (arith, m.variables)) (started_within PARTS zero (refuting s) m.numbers) (omega (arith, m.rows))

modest_negation : (s : System) → IsModest s → Within MODEST_NUMBER (negation s.goal)
modest_negation s m = (each_right (Within MODEST_NUMBER) s.premises (negation s.goal ∷ []) m.numbers).0

modest_total_fits : (s : System) (ms : List ℤ) → IsModest s → AreWithin (2 ^ 87) ms → TotalFits s.premises s.goal (proof_of (length s.premises) ms)
modest_total_fits s ms m within =
    let l = length-append s.premises (negation s.goal ∷ []) in
    total_fits s.premises s.goal ms (omega (arith, m.rows)) within
    (all_more MODEST_NUMBER (2 ^ 10) s.premises (omega arith) (each_left (Within MODEST_NUMBER) s.premises (negation s.goal ∷ []) m.numbers))
    (row_more MODEST_NUMBER (2 ^ 10) (negation s.goal) (omega arith) (modest_negation s m))

modest_multipliers : (s : System) (ms : List ℤ) → IsModest s → contradiction s ≡ Some ms → AreWithin (2 ^ 87) ms
unfolding contradiction
modest_multipliers s ms m e = (modest_start s m).multipliers ms e

modest_evidence : (s : System) (o : Option (List ℤ)) → IsModest s → contradiction s ≡ o → EvidenceFits s o
modest_evidence s (Some ms) m e = modest_total_fits s ms m (modest_multipliers s ms m e)
modest_evidence s None m e = (modest_start s m).point

modest_decision_fits : (s : System) → IsModest s → DecisionFits s
modest_decision_fits s m = record {
  negated_goal = row_in_range MODEST_NUMBER (negation s.goal) (omega arith) (modest_negation s m);
  levels = (modest_start s m).levels;
  evidence = modest_evidence s (contradiction s) m refl;
}

-- so the answer of elimination decides

shown_decides : (s : System) (p : Proof) (o : Option (List ℤ)) → IsSystem s → contradiction s ≡ o → Proved p ≡ answer_by s o → EvidenceFits s o → IsEvidence s p
shown_decides s p (Some ms) h e is fits =
    let same : proof_of (length s.premises) ms ≡ p = cc in
    subst (IsEvidence s) same record { shows = contradiction_proves s ms h e; fits = fits }
shown_decides s p None h e is fits = cc

point_decides : (s : System) (p : Point) (o : Option (List ℤ)) → contradiction s ≡ o → Refuted p ≡ answer_by s o → Refutes s.premises s.goal p × ((q : Proof) → Shows s.premises s.goal q → ⊥)
unfolding last_point
point_decides s p (Some ms) e is = cc
point_decides s p None e is =
    let same : last_point s ≡ p = cc in
    let h = subst (Refutes s.premises s.goal) same (point_refutes s e) in
    (h, λ q g. refuted_is_not_shown s.premises s.goal q p g h)

pub answer_decides : (s : System) (r : Result Answer NoMemory) → IsSystem s → AnswerIs s r → DecideIs s r
answer_decides s (Ok (Proved p)) h g = shown_decides s p (contradiction s) h refl g.1 g.0.evidence
answer_decides s (Ok (Refuted p)) h g = point_decides s p (contradiction s) refl g.1
answer_decides s (Ok Unsettled) h g = λ m. g (modest_decision_fits s m)
answer_decides s (Err e) h g = tt

pub past_goal_not_modest : (s : System) → (IsInRange (negation s.goal) → ⊥) → IsModest s → ⊥
past_goal_not_modest s h m = h (modest_decision_fits s m).negated_goal
