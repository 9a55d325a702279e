use Rattle.std.proofs.Common.{◌≡◌, ◌-◌}
use Rattle.pc_lines.specs.Readers.{repeated, proof_reader}
use Rattle.pc_lines.proofs.Repeats.{behind}
use Rattle.pc_lines.proofs.reading.proofs.Given as goal

abbrev pub invariant-proofs : goal.invariant-proofs
invariant-proofs l = behind l.proofs (repeated (λ _. proof_reader l.premises) l.counter (l.count - l.counter) l.lines) ≡ repeated (λ _. proof_reader l.premises) 0 l.count l.fn.lines
