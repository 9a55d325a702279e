-- What is settled is the answer of elimination.
use Rattle.std.proofs.Common.{◌≡◌, ℕ, zero, ◌≤◌, ℤ, refl, sym, subst, ◌∙◌, ap, arith, List, [], ◌∷◌, Option, Some, None, length, length-append, Result, Ok, Err}
use Rattle.pc_rows.specs.declared.row.TheConstants.{VARIABLES}
use Rattle.pc_rows.specs.declared.rows.NoMemory.{NoMemory}
use Rattle.pc_rows.specs.Linear.{IsInRange, negation}
use Rattle.pc_rows.specs.Evidence.{System, Point, IsSystem}
use Rattle.pc_rows.specs.Shows.{TotalFits}
use Rattle.pc_rows.specs.Modest.{refuting}
use Rattle.pc_elim.specs.declared.decision.Answer.{Answer}
use Rattle.pc_elim.specs.declared.decision.Answer.TheVariants.{Shown as Proved, Point as Refuted, Unsettled}
use Rattle.pc_elim.specs.declared.settle.Found.{Found}
use Rattle.pc_elim.specs.declared.settle.Found.TheVariants.{Shown, At}
use Rattle.pc_elim.specs.declared.made.Fault.{Fault}
use Rattle.pc_elim.specs.declared.made.Fault.TheVariants.{Past, Full}
use Rattle.pc_elim.specs.declared.made.TheConstants.{PARTS, LIMIT}
use Rattle.pc_elim.specs.Elimination.{Made, level, started}
use Rattle.pc_elim.specs.Settling.{origin, contradiction_of, taken_back, settled_by, settle}
use Rattle.pc_elim.specs.Fits.{LevelFits, BackFits}
use Rattle.pc_elim.specs.Steps.{PointFits, SettleFits, FaultIs}
use Rattle.pc_elim.specs.Deciding.{start, contradiction, answer_by, EvidenceFits, DecisionFits, AnswerIs, ShownIs}
use Rattle.pc_elim.proofs.Starting.{length-started}

shown_by : (w : ℕ) (rows : List Made) (ms : List ℤ) (o : Option (List ℤ)) → settled_by w rows o ≡ Shown ms → o ≡ Some ms
shown_by w rows ms (Some found) e = cc
shown_by w rows ms None e = cc

point_by : (w : ℕ) (rows : List Made) (p : Point) (o : Option (List ℤ)) → settled_by w rows o ≡ At p → (o ≡ None) × (taken_back w rows (origin w) ≡ p)
point_by w rows p (Some found) e = cc
point_by w rows p None e = (refl, cc)

pub started_few : (s : System) (rows : List Made) → rows ≡ started PARTS (refuting s) → IsSystem s → length rows ≤ LIMIT
started_few s rows e h =
    let l = ap (length {A = Made}) e ∙ length-started PARTS zero (refuting s) in
    let a = length-append s.premises (negation s.goal ∷ []) in
    let m = h.most in
    omega arith

module _ (s : System) (rows : List Made) (same : rows ≡ started PARTS (refuting s)) (negated : IsInRange (negation s.goal)) where
  is_start : rows ≡ start s
  unfolding start
  is_start = same

  is_contradiction : contradiction_of (level VARIABLES rows) ≡ contradiction s
  unfolding contradiction
  is_contradiction = ap (λ (z : List Made). contradiction_of (level VARIABLES z)) is_start

  levels_fit : LevelFits VARIABLES rows → LevelFits VARIABLES (start s)
  levels_fit h = subst (LevelFits VARIABLES) is_start h

  -- multipliers
  shown_is : (f : Found) (ms : List ℤ) → f ≡ settle VARIABLES rows → f ≡ Shown ms → Some ms ≡ contradiction s
  shown_is f ms at is = sym (shown_by VARIABLES rows ms (contradiction_of (level VARIABLES rows)) (sym at ∙ is)) ∙ is_contradiction

  pub shown_answers : (f : Found) (ms : List ℤ) (r : Result Answer NoMemory) → SettleFits VARIABLES rows × (f ≡ settle VARIABLES rows) → f ≡ Shown ms → ShownIs s ms r → AnswerIs s r
  shown_answers f ms (Ok (Proved p)) h is g =
      let e = shown_is f ms h.1 is in (
        record { negated_goal = negated; levels = levels_fit h.0.levels; evidence = subst (EvidenceFits s) e (subst (TotalFits s.premises s.goal) g.0 g.1) },
        ap Proved g.0 ∙ ap (answer_by s) e,
      )
  shown_answers f ms (Ok (Refuted p)) h is g = absurd g
  shown_answers f ms (Ok Unsettled) h is g = λ fits. g (subst (EvidenceFits s) (sym (shown_is f ms h.1 is)) fits.evidence)
  shown_answers f ms (Err e) h is g = tt

  -- a point
  pub point_answers : (f : Found) (p : Point) → SettleFits VARIABLES rows × (f ≡ settle VARIABLES rows) → f ≡ At p → AnswerIs s (Ok (Refuted p))
  point_answers f p h is =
      let q = point_by VARIABLES rows p (contradiction_of (level VARIABLES rows)) (sym h.1 ∙ is) in
      let e : None ≡ contradiction s = sym q.0 ∙ is_contradiction in
      let fits = subst (λ (z : List Made). BackFits VARIABLES z (origin VARIABLES)) is_start (subst (PointFits VARIABLES rows) q.0 h.0.point) in (
        record { negated_goal = negated; levels = levels_fit h.0.levels; evidence = subst (EvidenceFits s) e fits },
        ap Refuted (sym q.1 ∙ ap (λ (z : List Made). taken_back VARIABLES z (origin VARIABLES)) is_start) ∙ ap (answer_by s) e,
      )

  -- a fault
  point_fits : (o : Option (List ℤ)) → EvidenceFits s o → PointFits VARIABLES rows o
  point_fits (Some ms) h = tt
  point_fits None h = subst (λ (z : List Made). BackFits VARIABLES z (origin VARIABLES)) (sym is_start) h

  settle_fits : DecisionFits s → SettleFits VARIABLES rows
  settle_fits h = record {
    levels = subst (LevelFits VARIABLES) (sym is_start) h.levels;
    point = subst (PointFits VARIABLES rows) (sym is_contradiction) (point_fits (contradiction s) h.evidence);
  }

  pub past_unfit : (e : Fault) → e ≡ Past → FaultIs (SettleFits VARIABLES rows) e → DecisionFits s → ⊥
  past_unfit e is h fits = subst (FaultIs (SettleFits VARIABLES rows)) is h (settle_fits fits)

  pub full_unfit : (e : Fault) → e ≡ Full → FaultIs (SettleFits VARIABLES rows) e → DecisionFits s → ⊥
  full_unfit e is h fits = subst (FaultIs (SettleFits VARIABLES rows)) is h (settle_fits fits)
