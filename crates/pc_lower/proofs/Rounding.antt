-- Turns one after the other, and rounds of them.
use Rattle.std.proofs.Common.{◌≡◌, ◌∙◌, ℕ, suc, zero, ◌≤◌, List, [], ◌++◌, length, set, sym, refl, ap, subst, cond, Bool, true, false, arith, Err, Ok, length-set}
use Rattle.std.specs.List.{AllByRecursion as Each}
use Rattle.std.proofs.lemmas.List.{get_or_past}
use Rattle.pc_rows.specs.Linear.{Linear}
use Rattle.pc_flow.specs.Arc.{Arc}
use Rattle.pc_flow.specs.Flow.{Flow}
use Rattle.pc_flow.specs.Shape.{LeadsUp}
use Rattle.pc_lower.specs.declared.fault.CandidateFault.{CandidateFault}
use Rattle.pc_lower.specs.declared.fault.CandidateFault.TheVariants.{Past, Full, NoMemory}
use Rattle.pc_lower.specs.declared.mode.Mode.{Mode}
use Rattle.pc_flow.specs.Annotation.{rows_at}
use Rattle.pc_lower.specs.Annotation.{is_head, AreFew}
use Rattle.pc_lower.specs.Candidate.{turned_from, turned, turn, turns_below, rounds}
use Rattle.pc_lower.specs.Course.{turned_from_operations, turned_operations, turn_operations, turns_operations, rounds_operations, operations_between}
use Rattle.pc_lower.specs.Fresh.{IsFresh, Stands, TurnIs, RoundIs, HeadsAre}
use Rattle.pc_flow.specs.Incidence.{leaving}
use Rattle.pc_lower.specs.Need.{at_heads, filled_below}
use Rattle.pc_lower.specs.Operations.{Operation, Fits, edges_operations}
use Rattle.pc_lower.proofs.Agreeing.{each_leaving}
use Rattle.pc_lower.proofs.Answering.{Left, left_all, left_over, fault_within}
use Rattle.pc_lower.proofs.Meaning.{nothing_needed, none_leave}
use Rattle.pc_lower.proofs.Turning.{heads_set}

-- turns depend on the rows of the heads alone

module _ (g : Flow) (m : Mode) where
  turned_same : (p : ℕ) (a b : List (List Linear)) → at_heads g.points a ≡ at_heads g.points b → turned g m p a ≡ turned g m p b
  turned_same p a b same = ap (λ (z : List (List Linear)). turned_from g m p (rows_at (filled_below g (length g.points) z))) same

  turned_operations_same : (p : ℕ) (a b : List (List Linear)) → at_heads g.points a ≡ at_heads g.points b → turned_operations g m p a ≡ turned_operations g m p b
  turned_operations_same p a b same =
      ap (λ (z : List (List Linear)). operations_between g (rows_at (filled_below g (length g.points) z)) (suc p) (length g.points) ++
      turned_from_operations g m p (rows_at (filled_below g (length g.points) z))) same

  pub turn_long : (p : ℕ) (a : List (List Linear)) → length (turn g m p a) ≡ length a
  turn_long p a = by (is_head g.points p)
    where
      by : (t : Bool) → length (cond t (set a p (turned g m p a)) a) ≡ length a
      by true = length-set a p (turned g m p a)
      by false = refl

  turn_same : (p : ℕ) (a b : List (List Linear)) → length a ≡ length g.points → length b ≡ length g.points → at_heads g.points a ≡ at_heads g.points b →
      at_heads g.points (turn g m p a) ≡ at_heads g.points (turn g m p b)
  turn_same p a b long also same = by (is_head g.points p) refl
    where
      by : (t : Bool) → is_head g.points p ≡ t → at_heads g.points (cond t (set a p (turned g m p a)) a) ≡ at_heads g.points (cond t (set b p (turned g m p b)) b)
      by true head =
          heads_set g.points a p (turned g m p a) long head
          ∙ ap (λ (z : List (List Linear)). set z p (turned g m p a)) same
          ∙ ap (λ (z : List Linear). set (at_heads g.points b) p z) (turned_same p a b same)
          ∙ sym (heads_set g.points b p (turned g m p b) also head)
      by false head = same

  turns_same : (n : ℕ) (a b : List (List Linear)) → length a ≡ length g.points → length b ≡ length g.points → at_heads g.points a ≡ at_heads g.points b →
      (at_heads g.points (turns_below g m n a) ≡ at_heads g.points (turns_below g m n b)) × (turns_operations g m n a ≡ turns_operations g m n b)
  turns_same zero a b long also same = (same, refl)
  turns_same (suc n) a b long also same =
      let more = turns_same n (turn g m n a) (turn g m n b) (turn_long n a ∙ long) (turn_long n b ∙ also) (turn_same n a b long also same) in (
        more.0,
        ap (λ (z : List Operation). cond (is_head g.points n) z [] ++ turns_operations g m n (turn g m n a)) (turned_operations_same n a b same)
            ∙ ap (λ (z : List Operation). turn_operations g m n b ++ z) more.1,
      )

  pub turns_long : (n : ℕ) (a : List (List Linear)) → length (turns_below g m n a) ≡ length a
  turns_long zero a = refl
  turns_long (suc n) a = turns_long n (turn g m n a) ∙ turn_long n a

  -- the loop over the points, from the greatest down

  pub record Turns (old : List (List Linear)) (h high : ℕ) (rows : List (List Linear)) : Type 0 where
    pub below : h ≤ length g.points
    pub within : high ≤ length g.points
    pub long : length rows ≡ length g.points
    pub few : AreFew rows
    pub fresh : IsFresh g high rows
    pub value : at_heads g.points (turns_below g m h rows) ≡ at_heads g.points (turns_below g m (length g.points) old)
    pub left : Left (turns_operations g m h rows) (turns_operations g m (length g.points) old)

  fresh_past : Each (LeadsUp g.points g.variables) g.edges → (a : List (List Linear)) → length a ≡ length g.points → IsFresh g (length g.points) a
  fresh_past leads a long = record {
    rows = λ p le other. get_or_past a p [] (omega arith) ∙ sym (nothing_needed g.points g.variables p g.edges (rows_at a) leads le);
    fit = λ p le. by p (is_head g.points p)
        (none_leave g.points g.variables p (leaving p g.edges) (each_leaving (LeadsUp g.points g.variables) p g.edges leads) le);
  }
    where
      by : (p : ℕ) (t : Bool) → leaving p g.edges ≡ [] → Each Fits (cond t [] (edges_operations (rows_at a) [] (leaving p g.edges)))
      by p true none = tt
      by p false none = subst (λ (z : List Arc). Each Fits (edges_operations (rows_at a) [] z)) (sym none) tt

  pub turns_start : Each (LeadsUp g.points g.variables) g.edges → (old : List (List Linear)) (h high : ℕ) → h ≡ length g.points → high ≡ length g.points → length old ≡ length g.points → AreFew old →
      Turns old h high old
  turns_start leads old h high all also long few =
      let start : Turns old (length g.points) (length g.points) old = record {
        below = omega arith;
        within = omega arith;
        long = long;
        few = few;
        fresh = fresh_past leads old long;
        value = refl;
        left = left_all (turns_operations g m (length g.points) old);
      } in
      subst (λ (n : ℕ). Turns old n high old) (sym all) (subst (λ (n : ℕ). Turns old (length g.points) n old) (sym also) start)

  module _ (old : List (List Linear)) (p high : ℕ) (rows : List (List Linear)) (so_far : Turns old (suc p) high rows) where
    pub turns_other : is_head g.points p ≡ false → Turns old p high rows
    turns_other other =
        let below = so_far.below in
        let same : turn g m p rows ≡ rows = ap (λ (t : Bool). cond t (set rows p (turned g m p rows)) rows) other in
        let none : turn_operations g m p rows ≡ [] = ap (λ (t : Bool). cond t (turned_operations g m p rows) []) other in
        record {
          below = omega arith;
          within = so_far.within;
          long = so_far.long;
          few = so_far.few;
          fresh = so_far.fresh;
          value = ap (λ (z : List (List Linear)). at_heads g.points (turns_below g m p z)) (sym same) ∙ so_far.value;
          left = subst (λ (z : List (List Linear)). Left (turns_operations g m p z) (turns_operations g m (length g.points) old)) same
              (subst (λ (z : List Operation). Left (z ++ turns_operations g m p (turn g m p rows)) (turns_operations g m (length g.points) old)) none so_far.left);
        }

    module _ (head : is_head g.points p ≡ true) where
      after_turn : turn g m p rows ≡ set rows p (turned g m p rows)
      after_turn = ap (λ (t : Bool). cond t (set rows p (turned g m p rows)) rows) head

      these : turn_operations g m p rows ≡ turned_operations g m p rows
      these = ap (λ (t : Bool). cond t (turned_operations g m p rows) []) head

      next_left : Left (turned_operations g m p rows ++ turns_operations g m p (turn g m p rows)) (turns_operations g m (length g.points) old)
      next_left = subst (λ (z : List Operation). Left (z ++ turns_operations g m p (turn g m p rows)) (turns_operations g m (length g.points) old)) these so_far.left

      pub turns_next : (end : ℕ) (new : List (List Linear)) → Each Fits (turned_operations g m p rows) → Stands g (set rows p (turned g m p rows)) end new → Turns old p end new
      turns_next end new fit stands =
          let below = so_far.below in
          let same = turns_same p new (turn g m p rows) stands.long (turn_long p rows ∙ so_far.long) (stands.heads ∙ ap (at_heads g.points) (sym after_turn)) in
          record {
            below = omega arith;
            within = stands.within;
            long = stands.long;
            few = stands.few;
            fresh = stands.fresh;
            value = same.0 ∙ so_far.value;
            left = subst (λ (z : List Operation). Left z (turns_operations g m (length g.points) old)) (sym same.1)
                (left_over (turned_operations g m p rows) (turns_operations g m p (turn g m p rows)) (turns_operations g m (length g.points) old) next_left fit);
          }

      pub turns_refused : (f : CandidateFault) (new after : List (List Linear)) → TurnIs g m p rows (Err f) new → RoundIs g m old (Err f) after
      turns_refused f new after refused = by f refused
        where
          by : (f : CandidateFault) → TurnIs g m p rows (Err f) new → RoundIs g m old (Err f) after
          by Past k = next_left.fault Past (fault_within Past (turned_operations g m p rows) (turns_operations g m p (turn g m p rows)) k)
          by Full k = next_left.fault Full (fault_within Full (turned_operations g m p rows) (turns_operations g m p (turn g m p rows)) k)
          by NoMemory k = tt

  pub turns_all : Each (LeadsUp g.points g.variables) g.edges → (old : List (List Linear)) (h high : ℕ) (rows : List (List Linear)) → h ≤ 0 → Turns old h high rows →
      Each Fits (turns_operations g m (length g.points) old) × Stands g (turns_below g m (length g.points) old) (length g.points) rows
  turns_all leads old zero high rows le h = (h.left.fit tt, record { long = h.long; few = h.few; heads = h.value; within = omega arith; fresh = fresh_past leads rows h.long })
  turns_all leads old (suc h) high rows le k = absurd (omega arith)

-- four rounds

module _ (g : Flow) (m : Mode) where
  rounds_same : (n : ℕ) (a b : List (List Linear)) → length a ≡ length g.points → length b ≡ length g.points → at_heads g.points a ≡ at_heads g.points b →
      (at_heads g.points (rounds n g m a) ≡ at_heads g.points (rounds n g m b)) × (rounds_operations n g m a ≡ rounds_operations n g m b)
  rounds_same zero a b long also same = (same, refl)
  rounds_same (suc n) a b long also same =
      let one = turns_same g m (length g.points) a b long also same in
      let more = rounds_same n (turns_below g m (length g.points) a) (turns_below g m (length g.points) b) (turns_long g m (length g.points) a ∙ long) (turns_long g m (length g.points) b ∙ also) one.0 in (
        more.0,
        ap (λ (z : List Operation). z ++ rounds_operations n g m (turns_below g m (length g.points) a)) one.1
            ∙ ap (λ (z : List Operation). turns_operations g m (length g.points) b ++ z) more.1,
      )

  pub record Rounds (all : ℕ) (start : List (List Linear)) (n : ℕ) (rows : List (List Linear)) : Type 0 where
    pub long : length rows ≡ length g.points
    pub few : AreFew rows
    pub value : at_heads g.points (rounds n g m rows) ≡ at_heads g.points (rounds all g m start)
    pub left : Left (rounds_operations n g m rows) (rounds_operations all g m start)

  pub rounds_start : (n : ℕ) (start rows : List (List Linear)) → rows ≡ start → length start ≡ length g.points → AreFew start → Rounds n start n rows
  rounds_start n start rows is long few =
      subst (Rounds n start n) (sym is) (record { long = long; few = few; value = refl; left = left_all (rounds_operations n g m start) })

  module _ (all : ℕ) (start : List (List Linear)) (n : ℕ) (rows : List (List Linear)) (so_far : Rounds all start (suc n) rows) where
    pub rounds_next : (new : List (List Linear)) → Each Fits (turns_operations g m (length g.points) rows) → Stands g (turns_below g m (length g.points) rows) (length g.points) new → Rounds all start n new
    rounds_next new fit stands =
        let after = turns_below g m (length g.points) rows in
        let same = rounds_same n new after stands.long (turns_long g m (length g.points) rows ∙ so_far.long) stands.heads in
        record {
          long = stands.long;
          few = stands.few;
          value = same.0 ∙ so_far.value;
          left = subst (λ (z : List Operation). Left z (rounds_operations all g m start)) (sym same.1)
              (left_over (turns_operations g m (length g.points) rows) (rounds_operations n g m after) (rounds_operations all g m start) so_far.left fit);
        }

    pub rounds_refused : (f : CandidateFault) (new : List (List Linear)) → RoundIs g m rows (Err f) new → HeadsAre g (rounds_operations all g m start) (rounds all g m start) (Err f)
    rounds_refused f new refused = by f refused
      where
        by : (f : CandidateFault) → RoundIs g m rows (Err f) new → HeadsAre g (rounds_operations all g m start) (rounds all g m start) (Err f)
        by Past k = so_far.left.fault Past (fault_within Past (turns_operations g m (length g.points) rows) (rounds_operations n g m (turns_below g m (length g.points) rows)) k)
        by Full k = so_far.left.fault Full (fault_within Full (turns_operations g m (length g.points) rows) (rounds_operations n g m (turns_below g m (length g.points) rows)) k)
        by NoMemory k = tt

  pub rounds_all : (all : ℕ) (start : List (List Linear)) (n : ℕ) (rows : List (List Linear)) → n ≤ 0 → Rounds all start n rows → HeadsAre g (rounds_operations all g m start) (rounds all g m start) (Ok rows)
  rounds_all all start zero rows le h = (h.left.fit tt, (h.long, h.value))
  rounds_all all start (suc n) rows le h = absurd (omega arith)
