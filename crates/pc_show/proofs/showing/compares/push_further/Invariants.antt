use Rattle.std.proofs.Common.{◌≡◌, ◌++◌, take}
use Rattle.pc_show.specs.Canonical.{further_pieces}
use Rattle.pc_show.specs.Pieces.{bytes_of}
use Rattle.pc_show.proofs.showing.compares.push_further.Given as goal

abbrev pub invariant-loop-c : goal.invariant-loop-c
invariant-loop-c l = l.text ≡ l.initial.text ++ bytes_of (further_pieces l.names.names (take l.c-index l.cs))
