use Rattle.std.proofs.Common.{◌≡◌, ◌++◌, drop}
use Rattle.pc_elim.specs.Elimination.{kept_of, flat}
use Rattle.pc_elim.proofs.pairs.keep.Given as goal

abbrev pub invariant-loop-r : goal.invariant-loop-r
invariant-loop-r l = l.out ++ flat (kept_of l.k) (drop l.r-index l.rows) ≡ l.initial.out ++ flat (kept_of l.k) l.rows
