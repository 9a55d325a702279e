-- The state at the entry.
use Rattle.std.proofs.Common.{◌≡◌, ◌∙◌, ◌-◌, ◌≤◌, pos, ◌≤ℤ◌, List, [], ◌∷◌, length, replicate, refl, sym, ap, subst, arith, length-append}
use Rattle.std.specs.Prelude.{◌↔◌}
use Rattle.std.proofs.lemmas.List.{length-replicate}
use Rattle.pc_rows.specs.Linear.{Linear, State, value, MeetsAll}
use Rattle.pc_rows.proofs.First.{value_at_entry, value_of_first, zero_from_all}
use Rattle.pc_flow.specs.Flow.{Flow}
use Rattle.pc_flow.specs.Walk.{entered}

-- it has a value for each variable
pub entered_long : (g : Flow) (s : State) → g.params ≤ g.variables → length s ≡ g.params → length (entered g s) ≡ g.variables
entered_long g s le long =
    let zeros = length-replicate (g.variables - g.params) (pos 0) in
    length-append s (replicate (g.variables - g.params) (pos 0)) ∙ omega arith

-- rows have the same values at an entry state and with the locals at 0
pub met_entered : (g : Flow) (rows : List Linear) (s : State) → MeetsAll s rows ↔ MeetsAll (entered g s) rows
met_entered g [] s = ((λ h. tt), (λ h. tt))
met_entered g (r ∷ rows) s =
    let rest = met_entered g rows s in
    ((λ h. (subst (λ z. pos 0 ≤ℤ z) (sym same) h.0, rest.0 h.1)), (λ h. (subst (λ z. pos 0 ≤ℤ z) same h.0, rest.1 h.1)))
  where
    same : value r (entered g s) ≡ value r s
    same = sym (value_at_entry (length s) (g.variables - g.params) r s refl) ∙ value_of_first (length s) r s ∙ ap (λ (z : State). value r z) (zero_from_all (length s) s (omega arith))
