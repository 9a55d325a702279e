-- Proofs that are checked by multiplication.
use Rattle.std.proofs.Common.{◌≡◌, ℕ, ◌<◌, pos, ◌≤ℤ◌, negsuc, ◌∙◌, sym, subst, List, [], ◌∷◌, length, Bool, true, false, refl}
use Rattle.std.specs.Prelude.{◌↔◌, nat_lt, int_le}
use Rattle.std.specs.List.{list_all, AllByRecursion}
use Rattle.std.proofs.lemmas.Bool.{and_from, and_parts, lt-ltb, ltb-true}
use Rattle.pc_rows.specs.declared.proof.Part.{Part}
use Rattle.pc_rows.specs.Linear.{Linear, is_number}
use Rattle.pc_rows.specs.Evidence.{Proof}
use Rattle.pc_rows.specs.Shows.{total, TotalFits, Shows}
use Rattle.pc_rows.specs.Checks.{is_usable, are_usable, IsNever, is_never, IsContradiction}
use Rattle.pc_rows.proofs.Joining.{le_is, is_le, number_is_meant}

never_is : (r : Linear) → is_never r ≡ true → IsNever r
never_is r h =
    let b = and_parts (is_number r) (int_le r.constant (negsuc 0)) h in
    ((number_is_meant r).0 b.0, le_is r.constant (negsuc 0) b.1)

is_never_test : (r : Linear) → IsNever r → is_never r ≡ true
is_never_test r h = and_from (is_number r) (int_le r.constant (negsuc 0)) ((number_is_meant r).1 h.0) (is_le r.constant (negsuc 0) h.1)

-- what the test of the parts says
record AreParts (count : ℕ) (ps : List Part) : Type 0 where
  multipliers : AllByRecursion (λ q. pos 0 ≤ℤ q.multiplier) ps
  indices : AllByRecursion (λ q. q.index < count) ps

parts_are : (count : ℕ) (ps : List Part) → list_all (is_usable count) ps ≡ true → AreParts count ps
parts_are count [] h = record { multipliers = tt; indices = tt }
parts_are count (p ∷ ps) h =
    let b = and_parts (is_usable count p) (list_all (is_usable count) ps) h in
    let t = and_parts (nat_lt p.index count) (int_le (pos 0) p.multiplier) b.0 in
    let more = parts_are count ps b.1 in
    record { multipliers = (le_is (pos 0) p.multiplier t.1, more.multipliers); indices = (ltb-true p.index count t.0, more.indices) }

are_parts : (count : ℕ) (ps : List Part) → AllByRecursion (λ q. pos 0 ≤ℤ q.multiplier) ps → AllByRecursion (λ q. q.index < count) ps → list_all (is_usable count) ps ≡ true
are_parts count [] h g = refl
are_parts count (p ∷ ps) h g = and_from (is_usable count p) (list_all (is_usable count) ps)
    (and_from (nat_lt p.index count) (int_le (pos 0) p.multiplier) (lt-ltb p.index count g.0) (is_le (pos 0) p.multiplier h.0))
    (are_parts count ps h.1 g.1)

usable : (count : ℕ) (p : Proof) (t : Bool) → t ≡ are_usable count p → t ≡ true → (pos 0 ≤ℤ p.goal) × AreParts count p.parts
usable count p t is h =
    let b = and_parts (int_le (pos 0) p.goal) (list_all (is_usable count) p.parts) (sym is ∙ h) in
    (le_is (pos 0) p.goal b.0, parts_are count p.parts b.1)

pub usable_indices : (count : ℕ) (p : Proof) (t : Bool) → t ≡ are_usable count p → t ≡ true → AllByRecursion (λ q. q.index < count) p.parts
usable_indices count p t is h = (usable count p t is h).1.indices

module _ (premises : List Linear) (goal : Linear) (p : Proof) where
  -- the total is computed
  pub computed : (row : Linear) (t : Bool) → TotalFits premises goal p × (row ≡ total premises goal p) → t ≡ is_never row → (t ≡ true) ↔ IsContradiction premises goal p
  computed row t h is = (
    (λ e. (h.0, subst IsNever h.1 (never_is row (sym is ∙ e)))),
    (λ c. is ∙ is_never_test row (subst IsNever (sym h.1) c.1)),
  )

  pub not_computed : (TotalFits premises goal p → ⊥) → (false ≡ true) ↔ IsContradiction premises goal p
  not_computed past = ((λ e. cc), (λ c. absurd (past c.0)))

  -- the multipliers may show the goal, or may not
  module _ (t : Bool) (is : t ≡ are_usable (length premises) p) where
    pub may_show : (found : Bool) → t ≡ true → ((found ≡ true) ↔ IsContradiction premises goal p) → (found ≡ true) ↔ (Shows premises goal p × TotalFits premises goal p)
    may_show found e is_found =
        let u = usable (length premises) p t is e in (
          (λ f.
              let c = is_found.0 f in
              (record { goal_multiplier = u.0; multipliers = u.1.multipliers; indices = u.1.indices; left = c.1.0; below = c.1.1 }, c.0)),
          (λ h. is_found.1 (h.1, (h.0.left, h.0.below))),
        )

    pub may_not_show : t ≡ false → (t ≡ true) ↔ (Shows premises goal p × TotalFits premises goal p)
    may_not_show e = (
      (λ f. cc),
      (λ h. is ∙ and_from (int_le (pos 0) p.goal) (list_all (is_usable (length premises)) p.parts) (is_le (pos 0) p.goal h.0.goal_multiplier)
          (are_parts (length premises) p.parts h.0.multipliers h.0.indices)),
    )
