-- The text of a number at an end of an interval.
use Rattle.std.proofs.Common.{◌≡◌, sym, ap, ◌∙◌, ℤ, pos, negsuc, suc, ◌∷◌, ◌++◌, append-nil}
use Rattle.pc_text.specs.Bytes.{Bytes}
use Rattle.pc_text.specs.Numerals.{numeral, natural_text}
use Rattle.pc_language.specs.declared.choice.Bound.{Bound}
use Rattle.pc_language.specs.declared.choice.Bound.TheVariants as bound
use Rattle.pc_show.specs.Pieces.{bytes_of}
use Rattle.pc_show.specs.Canonical.{bound_pieces}

-- a number below 0 is a sign and a number
number_text : (z : ℤ) → numeral z ≡ bytes_of (bound_pieces (bound.At z))
unfolding numeral
number_text (pos n) = sym (append-nil (natural_text n))
number_text (negsuc n) = ap (λ (w : Bytes). 45 ∷ w) (sym (append-nil (natural_text (suc n))))

pub number_done : (b : Bound) (z : ℤ) (t0 t1 : Bytes) → b ≡ bound.At z → t1 ≡ t0 ++ numeral z → t1 ≡ t0 ++ bytes_of (bound_pieces b)
number_done b z t0 t1 e h = h ∙ ap (λ w. t0 ++ w) (number_text z) ∙ ap (λ b. t0 ++ bytes_of (bound_pieces b)) (sym e)
