-- How a proof is checked by multiplication.
use Rattle.std.specs.Prelude.{◌&&◌, ℕ, nat_lt, Bool, pos, negsuc, ◌≤ℤ◌, int_le, List}
use Rattle.std.specs.List.{list_all}
use Rattle.pc_rows.specs.declared.proof.Part.{Part}
use Rattle.pc_rows.specs.Linear.{Linear, IsNumber, is_number}
use Rattle.pc_rows.specs.Evidence.{Proof}
use Rattle.pc_rows.specs.Shows.{total, TotalFits}

-- a part that names one of so many premises, with a multiplier that is not negative
abbrev pub is_usable : ℕ → Part → Bool
is_usable count p = nat_lt p.index count && int_le (pos 0) p.multiplier

-- no multiplier is negative, and each part names one of so many premises
abbrev pub are_usable : ℕ → Proof → Bool
are_usable count p = int_le (pos 0) p.goal && list_all (is_usable count) p.parts

-- no state meets it by its form: it has no variable, and a constant below 0
abbrev pub IsNever : Linear → Type 0
IsNever r = IsNumber r × (r.constant ≤ℤ negsuc 0)

-- the same as a test
abbrev pub is_never : Linear → Bool
is_never r = is_number r && int_le r.constant (negsuc 0)

-- the total is computed in range, and no state meets it
abbrev pub IsContradiction : List Linear → Linear → Proof → Type 0
IsContradiction premises goal p = TotalFits premises goal p × IsNever (total premises goal p)
