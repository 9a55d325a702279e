use Rattle.std.proofs.Common.{◌≡◌, drop}
use Rattle.pc_graph.specs.Lowering.{tried_at}
use Rattle.pc_graph.proofs.assembly.tried_at.Given as goal

abbrev pub invariant-loop-l : goal.invariant-loop-l
invariant-loop-l l = tried_at (drop l.l-index l.loops) l.p ≡ tried_at l.loops l.p
