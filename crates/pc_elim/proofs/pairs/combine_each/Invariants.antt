use Rattle.std.proofs.Common.{◌≡◌, ◌++◌, drop}
use Rattle.std.specs.List.{AllByRecursion}
use Rattle.pc_elim.specs.Elimination.{combined_of, flat}
use Rattle.pc_elim.specs.Fits.{AllPairsFit}
use Rattle.pc_elim.proofs.pairs.combine_each.Given as goal

abbrev pub invariant-loop-r : goal.invariant-loop-r
invariant-loop-r l = record {
  rest : l.out ++ flat (combined_of l.k l.all) (drop l.r-index l.all) ≡ l.initial.out ++ flat (combined_of l.k l.all) l.all;
  fits : AllByRecursion (AllPairsFit l.k l.all) (drop l.r-index l.all) → AllByRecursion (AllPairsFit l.k l.all) l.all;
}
