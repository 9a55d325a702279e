use Rattle.std.proofs.Common.{◌≡◌, ◌≤◌, drop}
use Rattle.pc_text.specs.Digits.{digits_from, natural_of}
use Rattle.pc_text.specs.declared.token.TheConstants.{LARGEST}
use Rattle.pc_text.proofs.number.natural_of.Given as goal

-- the number of the digits so far goes on to that of all
abbrev pub invariant-loop-byte : goal.invariant-loop-byte
invariant-loop-byte l = (natural_of l.digits ≡ digits_from l.number (drop l.byte-index l.digits)) × (l.number ≤ LARGEST)
