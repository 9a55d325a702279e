-- Tests and what they say.
use Rattle.std.proofs.Common.{◌≡◌, ◌≢◌, ℤ, pos, negsuc, Bool, true, false, refl, sym, arith}
use Rattle.std.proofs.lemmas.Bool.Decides.{nat_tests}
use Rattle.pc_rows.specs.Linear.{is_zero}

-- tests that give each other are the same
pub same_truth : (b c : Bool) → (b ≡ true → c ≡ true) → (c ≡ true → b ≡ true) → b ≡ c
same_truth true c h g = sym (h refl)
same_truth false true h g = g refl
same_truth false false h g = refl

pub not_zero : (c : ℤ) → is_zero c ≡ false → c ≢ pos 0
not_zero (pos n) h = grind (arith, nat_tests)
not_zero (negsuc n) h = λ e. cc
