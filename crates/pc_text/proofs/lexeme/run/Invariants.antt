use Rattle.std.proofs.Common.{◌≡◌, ◌+◌, drop}
use Rattle.pc_text.specs.ByteSets.{contains}
use Rattle.pc_text.specs.Longest.{run}
use Rattle.pc_text.proofs.lexeme.run.Given as goal

-- what the bytes so far give, and those that are left
abbrev pub invariant-loop-i : goal.invariant-loop-i
invariant-loop-i l = run (contains l.set) l.src ≡ l.i + run (contains l.set) (drop l.i l.src)
