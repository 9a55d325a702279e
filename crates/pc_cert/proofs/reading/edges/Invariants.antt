use Rattle.std.proofs.Common.{◌≡◌, ◌-◌}
use Rattle.pc_lines.specs.Readers.{repeated}
use Rattle.pc_cert.specs.Readers.{edge_reader}
use Rattle.pc_lines.proofs.Repeats.{behind}
use Rattle.pc_cert.proofs.reading.edges.Given as goal

abbrev pub invariant-edges : goal.invariant-edges
invariant-edges l = behind l.edges (repeated edge_reader l.e (l.count - l.e) l.lines) ≡ repeated edge_reader 0 l.count l.fn.lines
