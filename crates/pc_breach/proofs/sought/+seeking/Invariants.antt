use Rattle.std.proofs.Common.{◌≡◌, drop}
use Rattle.pc_program.specs.Loops.{first}
use Rattle.pc_breach.specs.Sought.{places_of}
use Rattle.pc_breach.proofs.sought.+seeking.Given as goal

-- none of the statements so far has a place that is sought
abbrev pub invariant-first_in-loop-s : goal.invariant-first_in-loop-s
invariant-first_in-loop-s l = first (places_of l.sought (drop l.s-index l.list)) ≡ first (places_of l.sought l.list)
