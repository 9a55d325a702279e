use Rattle.std.proofs.Common.{◌≡◌, ◌≤◌, ◌+◌, ◌-◌, length}
use Rattle.pc_certificate.specs.declared.certificate.TheConstants.{ALTERNATIVES}
use Rattle.pc_cert.specs.Readers.{alternatives_reader}
use Rattle.pc_lines.proofs.Repeats.{behind}
use Rattle.pc_cert.proofs.reading.alternatives.Given as goal

abbrev pub invariant-alternatives : goal.invariant-alternatives
invariant-alternatives l = record {
  few : length l.all ≤ ALTERNATIVES;
  gives : behind l.all (alternatives_reader l.sizes (length l.all) (ALTERNATIVES - length l.all) l.lines) ≡ alternatives_reader l.sizes 0 ALTERNATIVES l.fn.lines;
}

abbrev pub decreases-alternatives : goal.decreases-alternatives
decreases-alternatives l = ALTERNATIVES + 1 - length l.all
