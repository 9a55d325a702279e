use Rattle.std.proofs.Common.{◌≡◌, ◌-◌}
use Rattle.pc_lines.specs.Readers.{repeated, row_reader}
use Rattle.pc_lines.proofs.Repeats.{behind}
use Rattle.pc_lines.proofs.reading.rows.Given as goal

abbrev pub invariant-rows : goal.invariant-rows
invariant-rows l = behind l.rows (repeated (λ _. row_reader l.variables) l.counter (l.count - l.counter) l.lines) ≡ repeated (λ _. row_reader l.variables) 0 l.count l.fn.lines
