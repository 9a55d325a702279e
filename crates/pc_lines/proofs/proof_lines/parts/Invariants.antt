use Rattle.std.proofs.Common.{◌≡◌, ◌≤◌, [], length}
use Rattle.pc_rows.specs.Evidence.{IsAbove}
use Rattle.pc_lines.specs.LineReaders.{parts_from}
use Rattle.pc_lines.proofs.proof_lines.parts.Given as goal

abbrev pub invariant-parts : goal.invariant-parts
invariant-parts l = record {
  gives : parts_from l.premises l.number l.least l.parts l.words ≡ parts_from l.premises l.number 0 [] l.fn.words;
  above : IsAbove l.least l.parts;
  small : l.least ≤ l.premises;
}

abbrev pub decreases-parts : goal.decreases-parts
decreases-parts l = length l.words
