-- The definitions at worked values: x is variable 0.
use Rattle.std.proofs.Common.{ℤ, pos, negsuc, [], ◌∷◌, refl, arith, inl, inr}
use Rattle.std.proofs.lemmas.Int.{ints}
use Rattle.pc_rows.specs.Linear.{Linear}
use Rattle.pc_rows.proofs.Farkas.{refuted_is_not_shown}
use Rattle.pc_entail.specs.Showing.{IsShown}
use Rattle.pc_entail.specs.Reduction.{Reduced, IsSplit}

abbrev row : ℤ → ℤ → Linear
row c x = record { constant = c; coefficients = x ∷ [] }

-- x - 2 >= 0 shows x - 1 >= 0 with one of it and one of -x >= 0, since these add up to -2
shown : IsShown (row (negsuc 1) (pos 1) ∷ []) (row (negsuc 0) (pos 1))
shown = (
  record { goal = pos 1; parts = record { index = 0; multiplier = pos 1 } ∷ [] },
  record { goal_multiplier = omega (arith, ints); multipliers = (omega (arith, ints), tt); indices = (omega arith, tt); left = (refl, tt); below = omega (arith, ints) },
)

-- no rows do not show x - 2 >= 0, since x may be 0
not_shown : IsShown [] (row (negsuc 1) (pos 1)) → ⊥
not_shown (p, shows) = refuted_is_not_shown [] (row (negsuc 1) (pos 1)) p (record { numerators = pos 0 ∷ []; denominator = pos 1 }) shows
    (record { positive = omega (arith, ints); meets_premises = tt; meets_negation = omega (arith, ints) })

-- of x - 1 >= 0 and x - 2 >= 0 the second stays
reduced : Reduced (row (negsuc 0) (pos 1) ∷ row (negsuc 1) (pos 1) ∷ []) (row (negsuc 1) (pos 1) ∷ [])
reduced = inl ((shown, tt), inr ((λ h. not_shown h.1.0), refl))

-- the first went, and the second stays
split : IsSplit (row (negsuc 0) (pos 1) ∷ row (negsuc 1) (pos 1) ∷ []) (row (negsuc 1) (pos 1) ∷ []) (row (negsuc 0) (pos 1) ∷ [])
split = inr ([], refl, inl ([], refl, (refl, refl)))
