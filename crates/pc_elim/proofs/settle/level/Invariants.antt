use Rattle.std.proofs.Common.{◌≡◌, ◌≤◌, length}
use Rattle.pc_elim.specs.declared.made.TheConstants.{LIMIT}
use Rattle.pc_elim.specs.Elimination.{level}
use Rattle.pc_elim.specs.Fits.{LevelFits}
use Rattle.pc_elim.proofs.settle.level.Given as goal

abbrev pub invariant-loop-j : goal.invariant-loop-j
invariant-loop-j l = record {
  is : l.rows ≡ level l.j l.start;
  fits : LevelFits l.j l.start;
  most : length l.rows ≤ LIMIT;
}
