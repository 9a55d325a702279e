use Rattle.std.proofs.Common.{◌≡◌, ◌≤◌, ◌-◌, length}
use Rattle.pc_text.specs.Lex.{lex}
use Rattle.pc_text.proofs.Steps.{from}
use Rattle.pc_text.proofs.lex.lex.Given as goal

-- what was found, with what is left, is the answer
abbrev pub invariant-pieces : goal.invariant-pieces
invariant-pieces l = (lex l.src ≡ from l.src l.found l.at) × (l.at ≤ length l.src)

abbrev pub decreases-pieces : goal.decreases-pieces
decreases-pieces l = length l.src - l.at
