use Rattle.std.proofs.Common.{arith}
use Rattle.pc_text.proofs.DigitLemmas.{past}
use Rattle.pc_text.proofs.number.natural_of.Goals as goal

pub returns-then-number-digit : goal.returns-then-number-digit
returns-then-number-digit c = past c.args.digits.now c.loop-byte.byte-index c.loop-byte.number (omega arith) c.loop-byte.invariant.0 (omega arith)
