use Rattle.std.proofs.Common.{◌≡◌, Some, drop}
use Rattle.pc_box.specs.Forward.{cut_rows}
use Rattle.pc_box.proofs.cutting.cut_rows.Given as goal

abbrev pub invariant-loop-k : goal.invariant-loop-k
invariant-loop-k l = cut_rows l.left (drop l.k l.rows) ≡ cut_rows (Some l.bounds) l.rows
