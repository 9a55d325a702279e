use Rattle.std.proofs.Common.{◌≡◌, ◌++◌, drop}
use Rattle.pc_facts.specs.Lines.{shown}
use Rattle.pc_facts.proofs.facts.shown.Given as goal

abbrev pub invariant-loop-r : goal.invariant-loop-r
invariant-loop-r l = l.known ++ shown l.count (drop l.r-index l.rows) ≡ shown l.count l.rows
