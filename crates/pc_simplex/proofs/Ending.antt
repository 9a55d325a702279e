-- How the turns end, by the choice at a table.
use Rattle.std.proofs.Common.{◌≡◌, ℕ, zero, suc, ◌<◌, refl, sym, ◌∙◌, ap, Bool, true, false, cond, length, Some, None}
use Rattle.pc_simplex.specs.declared.choice.Choice.TheVariants.{Met, Stuck, Exchange}
use Rattle.pc_simplex.specs.declared.guess.Guess.{Guess}
use Rattle.pc_simplex.specs.declared.guess.Guess.TheVariants.{Shown, Point, GaveUp}
use Rattle.pc_simplex.specs.declared.turns.End.{End}
use Rattle.pc_simplex.specs.declared.turns.End.TheVariants as end
use Rattle.pc_simplex.specs.Values.{Table}
use Rattle.pc_simplex.specs.Choosing.{chosen}
use Rattle.pc_simplex.specs.Pivoting.{exchange_fits, exchanged}
use Rattle.pc_simplex.specs.Found.{point_of, proof_of}
use Rattle.pc_simplex.specs.Turns.{carried, turn_with, turns}
use Rattle.pc_simplex.specs.Ending.{EndIs}

-- the turns before lead to the table
pub ends_later : (n m : ℕ) (first t new : Table) (e : End) → ((premises : ℕ) → turns premises m t ≡ turns premises n first) → EndIs m t e new → EndIs n first e new
ends_later n m first t new e same h = record { found = λ premises. sym (same premises) ∙ h.found premises; line = h.line }

module _ (t : Table) where
  at_met : (premises n : ℕ) → chosen t ≡ Met → turns premises n t ≡ Point (point_of t)
  unfolding turns
  at_met premises zero e = ap (turn_with (λ next. GaveUp) premises t) e
  at_met premises (suc n) e = ap (turn_with (turns premises n) premises t) e

  at_stuck : (premises n r : ℕ) → chosen t ≡ Stuck r → turns premises n t ≡ Shown (proof_of premises t r)
  unfolding turns
  at_stuck premises zero r e = ap (turn_with (λ next. GaveUp) premises t) e
  at_stuck premises (suc n) r e = ap (turn_with (turns premises n) premises t) e

  none_carried : (go : Table → Guess) (r j : ℕ) (b : Bool) → b ≡ false → carried go (cond b (Some (exchanged t r j)) None) ≡ GaveUp
  none_carried go r j true e = cc
  none_carried go r j false e = refl

  some_carried : (go : Table → Guess) (r j : ℕ) (b : Bool) → b ≡ true → carried go (cond b (Some (exchanged t r j)) None) ≡ go (exchanged t r j)
  some_carried go r j true e = refl
  some_carried go r j false e = cc

  nothing_carried : (r j : ℕ) (b : Bool) → carried (λ next. GaveUp) (cond b (Some (exchanged t r j)) None) ≡ GaveUp
  nothing_carried r j true = refl
  nothing_carried r j false = refl

  at_past : (premises n r j : ℕ) → chosen t ≡ Exchange r j → exchange_fits t r j ≡ false → turns premises n t ≡ GaveUp
  unfolding turns
  at_past premises zero r j e f = ap (turn_with (λ next. GaveUp) premises t) e ∙ nothing_carried r j (exchange_fits t r j)
  at_past premises (suc n) r j e f = ap (turn_with (turns premises n) premises t) e ∙ none_carried (turns premises n) r j (exchange_fits t r j) f

  pub goes_on : (premises n r j : ℕ) (new : Table) → chosen t ≡ Exchange r j → exchange_fits t r j ≡ true → new ≡ exchanged t r j → turns premises (suc n) t ≡ turns premises n new
  unfolding turns
  goes_on premises n r j new e f is =
      ap (turn_with (turns premises n) premises t) e
      ∙ some_carried (turns premises n) r j (exchange_fits t r j) f
      ∙ ap (turns premises n) (sym is)

  at_last : (premises r j : ℕ) → chosen t ≡ Exchange r j → turns premises 0 t ≡ GaveUp
  unfolding turns
  at_last premises r j e = ap (turn_with (λ next. GaveUp) premises t) e ∙ nothing_carried r j (exchange_fits t r j)

  pub met_ends : (n : ℕ) → chosen t ≡ Met → EndIs n t end.Met t
  met_ends n e = record { found = λ premises. at_met premises n e; line = tt }

  pub stuck_ends : (n r : ℕ) → chosen t ≡ Stuck r → r < length t.lines → EndIs n t (end.Stuck r) t
  stuck_ends n r e lt = record { found = λ premises. at_stuck premises n r e; line = lt }

  pub last_ends : (r j : ℕ) → chosen t ≡ Exchange r j → EndIs 0 t end.GaveUp t
  last_ends r j e = record { found = λ premises. at_last premises r j e; line = tt }

  pub past_ends : (n r j : ℕ) (new : Table) → chosen t ≡ Exchange r j → exchange_fits t r j ≡ false → EndIs n t end.GaveUp new
  past_ends n r j new e f = record { found = λ premises. at_past premises n r j e f; line = tt }
