-- Without loops the candidate of every mode is the need.
use Rattle.std.proofs.Common.{ℕ, zero, suc, List, [], ◌∷◌, ◌++◌, length, cond, Bool, sym, subst}
use Rattle.std.specs.List.{AllByRecursion as Each}
use Rattle.pc_rows.specs.Linear.{Linear}
use Rattle.pc_rows.proofs.Joining.{each_join}
use Rattle.pc_flow.specs.Annotation.{rows_at}
use Rattle.pc_flow.specs.Flow.{Flow}
use Rattle.pc_flow.specs.Shape.{NoHeads}
use Rattle.pc_lower.specs.declared.mode.Mode.{Mode}
use Rattle.pc_lower.specs.declared.mode.Mode.TheVariants.{Hint, Plain, Tilt1, Tilt2, Escape}
use Rattle.pc_lower.specs.declared.rounds.TheConstants.{ROUNDS}
use Rattle.pc_lower.specs.Annotation.{no_rows}
use Rattle.pc_lower.specs.Candidate.{turned, turn, turns_below, heads_by}
use Rattle.pc_lower.specs.Need.{need}
use Rattle.pc_lower.specs.Tame.{AreTame}
use Rattle.pc_lower.specs.TameCourse.{rows_after, tested_lists, turn_lists, turns_lists, rounds_lists, heads_lists, CandidatesAreNeeds}
use Rattle.pc_lower.proofs.Meaning.{need_is_free}
use Rattle.pc_lower.proofs.Paying.{no_head}

-- no head has a turn

module _ (g : Flow) (none : NoHeads g.points) (m : Mode) where
  no_turn : (h : ℕ) (heads : List (List Linear)) → Each AreTame (turn_lists g m h heads)
  no_turn h heads =
      subst (λ (t : Bool). Each AreTame (cond t (rows_after g heads h ++ (tested_lists g m h (rows_at (need g heads)) ++ turned g m h heads ∷ [])) []))
      (sym (no_head g.points h none)) tt

  no_turns : (n : ℕ) (heads : List (List Linear)) → Each AreTame (turns_lists g m n heads)
  no_turns zero heads = tt
  no_turns (suc n) heads = each_join AreTame (turn_lists g m n heads) (turns_lists g m n (turn g m n heads)) (no_turn n heads) (no_turns n (turn g m n heads))

  no_rounds : (n : ℕ) (heads : List (List Linear)) → Each AreTame (rounds_lists n g m heads)
  no_rounds zero heads = tt
  no_rounds (suc n) heads =
      each_join AreTame (turns_lists g m (length g.points) heads) (rounds_lists n g m (turns_below g m (length g.points) heads)) (no_turns (length g.points) heads)
      (no_rounds n (turns_below g m (length g.points) heads))

no_lists : (g : Flow) → NoHeads g.points → (m : Mode) → Each AreTame (heads_lists g m)
no_lists g none Hint = tt
no_lists g none Plain = no_rounds g none Plain ROUNDS (no_rows g.points)
no_lists g none Tilt1 = no_rounds g none Tilt1 ROUNDS (no_rows g.points)
no_lists g none Tilt2 = no_rounds g none Tilt2 ROUNDS (no_rows g.points)
no_lists g none Escape = no_rounds g none Escape ROUNDS (no_rows g.points)

pub candidates_are_needs : CandidatesAreNeeds
candidates_are_needs g m none = record {
  candidate = λ heads. need_is_free g (heads_by g m) heads none;
  tame = (
    λ tame. record { edges = tame.edges; points = subst (Each AreTame) (need_is_free g (heads_by g m) (no_rows g.points) none) tame.candidate },
    λ tame. record {
      edges = tame.edges;
      rounds = no_lists g none m;
      candidate = subst (Each AreTame) (need_is_free g (no_rows g.points) (heads_by g m) none) tame.points;
    },
  );
}
