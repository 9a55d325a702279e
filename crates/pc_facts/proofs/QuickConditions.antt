-- The condition of a line is met exactly where the rows are.
use Rattle.std.proofs.Common.{◌≡◌, ◌∙◌, ℕ, ◌≤◌, ℤ, pos, ◌≤ℤ◌, Bool, true, false, cond, List, [], ◌∷◌, length, refl, sym, ap, subst, arith, inl, inr, Result, Ok, Err, IfOk}
use Rattle.std.specs.Prelude.{◌↔◌, int_lt, All}
use Rattle.std.specs.List.{AllByRecursion as Each}
use Rattle.std.proofs.lemmas.Bool.{and_parts}
use Rattle.std.proofs.lemmas.Int.{ints}
use Rattle.std.proofs.lemmas.List.Elements.{All-from_recursion}
use Rattle.pc_text.specs.Bytes.{Bytes}
use Rattle.pc_rows.specs.Linear.{Linear, State, value, Meets, MeetsAll, MeetsSome, IsOver, first_of, is_number}
use Rattle.pc_rows.proofs.First.{value_of_first, zero_from_all}
use Rattle.pc_rows.proofs.Only.{first_is_over}
use Rattle.pc_rows.proofs.Values.{value-number}
use Rattle.pc_condition.specs.Conditions.{condition_text}
use Rattle.pc_flow.specs.Flow.{Flow}
use Rattle.pc_domain.specs.declared.backward.Backward.{Ghosts}
use Rattle.pc_facts.specs.Quick.{over_parameters, is_never, is_false, alternatives, Suffice, IsQuick}

module _ (n : ℕ) (s : State) (long : length s ≡ n) where
  first_value : (r : Linear) → value (first_of n r) s ≡ value r s
  first_value r = value_of_first n r s ∙ ap (value r) (zero_from_all n s (omega arith))

  to_rows : (rows : List Linear) → MeetsAll s (over_parameters n rows) → MeetsAll s rows
  to_rows [] m = tt
  to_rows (r ∷ rows) m = (subst (λ (z : ℤ). pos 0 ≤ℤ z) (first_value r) m.0, to_rows rows m.1)

  from_rows : (rows : List Linear) → MeetsAll s rows → MeetsAll s (over_parameters n rows)
  from_rows [] m = tt
  from_rows (r ∷ rows) m = (subst (λ (z : ℤ). pos 0 ≤ℤ z) (sym (first_value r)) m.0, from_rows rows m.1)

never_met : (r : Linear) (s : State) → is_never r ≡ true → Meets s r → ⊥
never_met r s e m =
    let both = and_parts (is_number r) (int_lt r.constant (pos 0)) e in
    let is = value-number r s both.0 in
    let low = both.1 in
    let met : pos 0 ≤ℤ r.constant = subst (λ (z : ℤ). pos 0 ≤ℤ z) is m in
    grind (arith, ints)

false_met : (rows : List Linear) (s : State) → is_false rows ≡ true → MeetsAll s rows → ⊥
false_met [] s e m = absurd (cc)
false_met (r ∷ []) s e m = never_met r s e m.0
false_met (r ∷ q ∷ rows) s e m = absurd (cc)

-- a condition of rows is met exactly where they are
met_alternatives : (rows : List Linear) (s : State) → MeetsSome s (alternatives rows) ↔ MeetsAll s rows
met_alternatives rows s = by (is_false rows) refl
  where
    by : (b : Bool) → is_false rows ≡ b → MeetsSome s (cond b [] (rows ∷ [])) ↔ MeetsAll s rows
    by true e = (λ m. absurd m, λ m. absurd (false_met rows s e m))
    by false e = (one, λ m. inl m)
      where
        one : MeetsSome s (rows ∷ []) → MeetsAll s rows
        one (inl m) = m
        one (inr m) = absurd m

each_over : (n m : ℕ) (rows : List Linear) → n ≤ m → Each (IsOver m) (over_parameters n rows)
each_over n m [] le = tt
each_over n m (r ∷ rows) le = ((λ v h. first_is_over n r v (omega arith)), each_over n m rows le)

pub over_names : (n m : ℕ) (rows : List Linear) → n ≤ m → All (IsOver m) (over_parameters n rows)
over_names n m rows le = All-from_recursion (IsOver m) (over_parameters n rows) (each_over n m rows le)

few : (rows : List Linear) → length (alternatives rows) ≤ 1
few rows = by (is_false rows)
  where
    by : (b : Bool) → length (cond b [] (rows ∷ [])) ≤ 1
    by true = omega arith
    by false = omega arith

over : (n : ℕ) (rows : List Linear) → Each (IsOver n) rows → Each (All (IsOver n)) (alternatives rows)
over n rows h = by (is_false rows)
  where
    by : (b : Bool) → Each (All (IsOver n)) (cond b [] (rows ∷ []))
    by true = tt
    by false = (All-from_recursion (IsOver n) rows h, tt)

pub quick_is : {V : Type 0} (d : Ghosts V) (g : Flow) (names : List Bytes) (rows : List Linear) (text : Bytes) → Suffice d g rows →
    text ≡ condition_text names (alternatives (over_parameters g.params rows)) → IsQuick d g names text
quick_is d g names rows text suffice printed =
    let mine = over_parameters g.params rows in
    record {
      rows = rows;
      suffice = suffice;
      condition = alternatives mine;
      found = refl;
      one = few mine;
      parameters = All-from_recursion (All (IsOver g.params)) (alternatives mine) (over g.params mine (each_over g.params g.params rows (omega arith)));
      same = λ s entry. let m = met_alternatives mine s in (λ h. to_rows g.params s entry rows (m.0 h), λ h. m.1 (from_rows g.params s entry rows h));
      printed = printed;
    }

pub quick_unless : {V E : Type 0} (d : Ghosts V) (g : Flow) (names : List Bytes) (rows over : List Linear) (r : Result Bytes E) → Suffice d g rows →
    over ≡ over_parameters g.params rows → IfOk r (λ text. text ≡ condition_text names (alternatives over)) → IfOk r (IsQuick d g names)
quick_unless d g names rows over (Ok text) suffice same printed = quick_is d g names rows text suffice (printed ∙ ap (λ (z : List Linear). condition_text names (alternatives z)) same)
quick_unless d g names rows over (Err e) suffice same printed = tt
