-- Parts that are made of multipliers: a multiplier of 0 makes none.
use Rattle.std.specs.Prelude.{ℕ, ◌+◌, ℤ, List, [], ◌∷◌, if◌then◌else◌}
use Rattle.pc_rows.specs.declared.proof.Part.{Part}
use Rattle.pc_rows.specs.Linear.{is_zero}

-- of the multiplier of premise i
abbrev pub part_of : ℕ → ℤ → List Part
part_of i m = if is_zero m then [] else ((record { index = i; multiplier = m }) ∷ [])

-- of the multipliers of the premises from i on, in order
abbrev pub parts_from : ℕ → List ℤ → List Part
parts_from i [] = []
parts_from i (m ∷ ms) = if is_zero m then parts_from (i + 1) ms else ((record { index = i; multiplier = m }) ∷ parts_from (i + 1) ms)
