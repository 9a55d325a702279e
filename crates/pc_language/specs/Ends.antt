-- The ends of the interval of a choice.
use Rattle.std.specs.Prelude.{ℤ, Option, Some, None}
use Rattle.pc_language.specs.declared.choice.Bound.{Bound}
use Rattle.pc_language.specs.declared.choice.Bound.TheVariants as bound

-- the integer at an end of an interval, or none where the end is open
abbrev pub end_of : Bound → Option ℤ
end_of (bound.At n) = Some n
end_of bound.Open = None
