-- Numbers written in base ten.
use Rattle.std.specs.Prelude.{ℕ, ◌+◌, ◌*◌, ◌-◌, [], ◌∷◌}
use Rattle.pc_text.specs.Bytes.{Bytes}

-- the number that digits stand for, behind digits that stand for `n`
abbrev pub digits_from : ℕ → Bytes → ℕ
digits_from n [] = n
digits_from n (b ∷ w) = digits_from (10 * n + (b - 48)) w

-- the number that digits stand for
abbrev pub natural_of : Bytes → ℕ
natural_of w = digits_from 0 w
