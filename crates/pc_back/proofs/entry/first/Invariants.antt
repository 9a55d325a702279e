use Rattle.std.proofs.Common.{◌≡◌, ◌++◌, map, drop}
use Rattle.pc_rows.specs.Linear.{first_of}
use Rattle.pc_back.proofs.entry.first.Given as goal

-- the rows so far, and what the rest of the rows give, are all
abbrev pub invariant-loop-i : goal.invariant-loop-i
invariant-loop-i l = l.new ++ map (first_of l.params) (drop l.i l.rows) ≡ map (first_of l.params) l.rows
