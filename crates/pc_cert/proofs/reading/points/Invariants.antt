use Rattle.std.proofs.Common.{◌≡◌, ◌-◌}
use Rattle.pc_lines.specs.Readers.{repeated}
use Rattle.pc_cert.specs.Readers.{point_reader}
use Rattle.pc_lines.proofs.Repeats.{behind}
use Rattle.pc_cert.proofs.reading.points.Given as goal

abbrev pub invariant-points : goal.invariant-points
invariant-points l = behind l.points (repeated (point_reader l.sizes.variables) l.p (l.sizes.points - l.p) l.lines) ≡ repeated (point_reader l.sizes.variables) 0 l.sizes.points l.fn.lines
