use Rattle.std.proofs.Common.{◌≡◌, ◌*◌, ◌≤◌, ◌++◌, true, length, drop}
use Rattle.std.specs.List.{list_all}
use Rattle.pc_program.specs.Forms.{rows_all}
use Rattle.pc_program.specs.Sane.{has_sane_rows}
use Rattle.pc_program.proofs.rows.rows_of.Given as goal

-- the rows so far and those of what is left are all rows
abbrev pub invariant-loop-compare : goal.invariant-loop-compare
invariant-loop-compare l = record {
  so_far : l.rows ++ rows_all (drop l.compare-index l.all) ≡ rows_all l.all;
  sane : list_all has_sane_rows (drop l.compare-index l.all) ≡ true;
  few : length l.rows ≤ 2 * l.compare-index;
}
