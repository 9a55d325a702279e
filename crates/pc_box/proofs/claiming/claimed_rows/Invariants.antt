use Rattle.std.proofs.Common.{◌≡◌, Some, drop}
use Rattle.pc_box.specs.Backward.{claimed_rows}
use Rattle.pc_box.proofs.claiming.claimed_rows.Given as goal

abbrev pub invariant-loop-k : goal.invariant-loop-k
invariant-loop-k l = claimed_rows l.left (drop l.k l.rows) ≡ claimed_rows (Some l.bounds) l.rows
