use Rattle.std.proofs.Common.{◌≡◌, length}
use Rattle.pc_lines.specs.Forms.{are_pairs}
use Rattle.pc_lines.proofs.proof_lines.are_pairs.Given as goal

abbrev pub invariant-pairs : goal.invariant-pairs
invariant-pairs l = are_pairs l.words ≡ are_pairs l.fn.words

abbrev pub decreases-pairs : goal.decreases-pairs
decreases-pairs l = length l.words
