use Rattle.std.proofs.Common.{◌≡◌, drop}
use Rattle.pc_program.specs.Loops.{first, whiles_of}
use Rattle.pc_program.proofs.loops.+loops.Given as goal

-- none of the statements so far has a loop
abbrev pub invariant-first_in-loop-s : goal.invariant-first_in-loop-s
invariant-first_in-loop-s l = first (whiles_of (drop l.s-index l.list)) ≡ first (whiles_of l.list)
