use Rattle.std.proofs.Common.{◌≡◌, drop, None}
use Rattle.pc_elim.specs.Placing.{greatest}
use Rattle.pc_elim.specs.Fits.{GreatestFits}
use Rattle.pc_elim.proofs.bound.greatest.Given as goal

abbrev pub invariant-loop-r : goal.invariant-loop-r
invariant-loop-r l = record {
  rest : greatest l.opposite l.k l.p l.best (drop l.r-index l.rows) ≡ greatest l.opposite l.k l.p None l.rows;
  fits : GreatestFits l.opposite l.k l.p None l.rows → GreatestFits l.opposite l.k l.p l.best (drop l.r-index l.rows);
  back : GreatestFits l.opposite l.k l.p l.best (drop l.r-index l.rows) → GreatestFits l.opposite l.k l.p None l.rows;
}
