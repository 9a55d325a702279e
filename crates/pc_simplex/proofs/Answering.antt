-- What a search answers, by how its turns end.
use Rattle.std.proofs.Common.{◌≡◌, ℕ, ℤ, pos, ◌≤ℤ◌, ◌≤◌, ◌+◌, refl, sym, subst, ◌∙◌, ap, Bool, true, false, cond, List, [], ◌∷◌, length, drop, Some, Result, Ok, Err}
use Rattle.std.specs.List.{AllByRecursion}
use Rattle.std.specs.Prelude.{slice_get}
use Rattle.std.proofs.lemmas.List.{drop_all}
use Rattle.pc_rows.specs.declared.rows.NoMemory.{NoMemory}
use Rattle.pc_rows.specs.Linear.{Linear, IsInRange, is_in_range, negation}
use Rattle.pc_rows.specs.Evidence.{System, Proof, Point as Place}
use Rattle.pc_rows.specs.Points.{Refutes, AllMeetAt}
use Rattle.pc_rows.proofs.Farkas.{refuted_is_not_shown}
use Rattle.pc_rows.proofs.Ranges.{range_is_meant}
use Rattle.pc_simplex.specs.declared.guess.Guess.{Guess}
use Rattle.pc_simplex.specs.declared.guess.Guess.TheVariants.{Shown, Point, GaveUp}
use Rattle.pc_simplex.specs.declared.turns.End.{End}
use Rattle.pc_simplex.specs.declared.turns.End.TheVariants as end
use Rattle.pc_simplex.specs.declared.turns.TheConstants.{PIVOTS}
use Rattle.pc_simplex.specs.Values.{Table}
use Rattle.pc_simplex.specs.Found.{point_of, proof_of}
use Rattle.pc_simplex.specs.Turns.{turns, first_table, found}
use Rattle.pc_simplex.specs.Ending.{found_at, EndIs}
use Rattle.pc_simplex.specs.Searching.{IsEvidence, IsTold, AreTold, Fails, SearchIs, EvidenceIs, PointIs, ProofIs}
use Rattle.pc_rows.proofs.Adding.{drop_got}
use Rattle.pc_rows.proofs.Joining.{each_left, each_right}

pub same_point : (p q : Place) → p.numerators ≡ q.numerators → p.denominator ≡ q.denominator → p ≡ q
same_point p q e f =
    ap (λ (ns : List ℤ). place ns p.denominator) e ∙ ap (place q.numerators) f
  where
    place : List ℤ → ℤ → Place
    place ns d = record { numerators = ns; denominator = d }

-- the rows from a place on, and those from the next

pub told_here : (p : Place) (rs : List Linear) (i : ℕ) (r : Linear) → slice_get rs i ≡ Some r → AllByRecursion (IsTold p) (drop i rs) → IsTold p r × AllByRecursion (IsTold p) (drop (i + 1) rs)
told_here p rs i r e h = subst (λ (z : List Linear). AllByRecursion (IsTold p) z) (drop_got rs i r e) h

pub told_before : (p : Place) (rs : List Linear) (i : ℕ) (r : Linear) → slice_get rs i ≡ Some r → IsTold p r → AllByRecursion (IsTold p) (drop (i + 1) rs) → AllByRecursion (IsTold p) (drop i rs)
told_before p rs i r e g h = subst (λ (z : List Linear). AllByRecursion (IsTold p) z) (sym (drop_got rs i r e)) (g, h)

pub told_behind : (p : Place) (rs : List Linear) (i : ℕ) → length rs ≤ i → AllByRecursion (IsTold p) (drop i rs)
told_behind p rs i le = subst (λ (z : List Linear). AllByRecursion (IsTold p) z) (sym (drop_all i rs le)) tt

-- each row that is told is met

meets_each : (p : Place) (rs : List Linear) → AllByRecursion (IsTold p) rs → AllMeetAt p rs
meets_each p [] h = tt
meets_each p (r ∷ rs) h = (h.0.meets, meets_each p rs h.1)

refutes : (s : System) (p : Place) → pos 1 ≤ℤ p.denominator → AreTold s p → Refutes s.premises s.goal p
refutes s p d h =
    record {
      positive = d;
      meets_premises = meets_each p s.premises (each_left (IsTold p) s.premises (negation s.goal ∷ []) h);
      meets_negation = (each_right (IsTold p) s.premises (negation s.goal ∷ []) h).0.meets;
    }

module _ (s : System) where
  when_out : (b : Bool) (g : Guess) → b ≡ false → cond b g GaveUp ≡ GaveUp
  when_out true g e = cc
  when_out false g e = refl

  when_in : (b : Bool) (g : Guess) → b ≡ true → cond b g GaveUp ≡ g
  when_in true g e = refl
  when_in false g e = cc

  -- a number of the negated goal is not in range
  out : (b : Bool) → is_in_range (negation s.goal) ≡ b → (IsInRange (negation s.goal) → ⊥) → b ≡ false
  out true e h = absurd (h ((range_is_meant (negation s.goal)).0 e))
  out false e h = refl

  pub out_of_range : (IsInRange (negation s.goal) → ⊥) → SearchIs s (Ok GaveUp)
  out_of_range h = subst (Fails s) (sym (when_out (is_in_range (negation s.goal)) (turns (length s.premises) PIVOTS (first_table s)) (out (is_in_range (negation s.goal)) refl h))) tt

  found_is : (first new : Table) (e : End) → IsInRange (negation s.goal) → first ≡ first_table s → EndIs PIVOTS first e new → found s ≡ found_at (length s.premises) new e
  found_is first new e h same ends =
      when_in (is_in_range (negation s.goal)) (turns (length s.premises) PIVOTS (first_table s)) ((range_is_meant (negation s.goal)).1 h)
      ∙ ap (turns (length s.premises) PIVOTS) (sym same)
      ∙ ends.found (length s.premises)

  point_is : (p : Place) (g : Guess) → found s ≡ Point p → PointIs s p g → SearchIs s (Ok g)
  point_is p (Point q) at h = (ap Point h.0 ∙ sym at, subst (AreTold s) (sym h.0) h.1)
  point_is p (Shown q) at h = absurd h
  point_is p GaveUp at h = subst (Fails s) (sym at) h

  proof_is : (p : Proof) (result : Result Guess NoMemory) → found s ≡ Shown p → ProofIs s p result → SearchIs s result
  proof_is p (Ok (Shown q)) at h = (ap Shown h.0 ∙ sym at, subst (IsEvidence s) (sym h.0) h.1)
  proof_is p (Ok (Point q)) at h = absurd h
  proof_is p (Ok GaveUp) at h = subst (Fails s) (sym at) h
  proof_is p (Err e) at h = tt

  pub point_is_evidence : (p : Place) (g : Guess) → PointIs s p g → EvidenceIs s (Ok g)
  point_is_evidence p (Point q) h =
      let refuted = subst (Refutes s.premises s.goal) (sym h.0) (refutes s p h.2 h.1) in
      (refuted, λ r shown. refuted_is_not_shown s.premises s.goal r q shown refuted)
  point_is_evidence p (Shown q) h = absurd h
  point_is_evidence p GaveUp h = tt

  pub proof_is_evidence : (p : Proof) (result : Result Guess NoMemory) → ProofIs s p result → EvidenceIs s result
  proof_is_evidence p (Ok (Shown q)) h = subst (IsEvidence s) (sym h.0) h.1
  proof_is_evidence p (Ok (Point q)) h = absurd h
  proof_is_evidence p (Ok GaveUp) h = tt
  proof_is_evidence p (Err e) h = tt

  pub point_answers : (first new : Table) (g : Guess) → IsInRange (negation s.goal) → first ≡ first_table s → EndIs PIVOTS first end.Met new → PointIs s (point_of new) g → SearchIs s (Ok g)
  point_answers first new g h same ends = point_is (point_of new) g (found_is first new end.Met h same ends)

  pub proof_answers : (first new : Table) (r : ℕ) (result : Result Guess NoMemory) → IsInRange (negation s.goal) → first ≡ first_table s → EndIs PIVOTS first (end.Stuck r) new → ProofIs s (proof_of (length s.premises) new r) result → SearchIs s result
  proof_answers first new r result h same ends = proof_is (proof_of (length s.premises) new r) result (found_is first new (end.Stuck r) h same ends)
