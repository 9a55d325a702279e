use Rattle.std.proofs.Common.{◌≡◌, ◌++◌, pos, replicate}
use Rattle.pc_runner.proofs.runs.state_at_start.Given as goal

abbrev pub invariant-locals : goal.invariant-locals
invariant-locals l = l.state ≡ l.script.entry ++ replicate l.counter (pos 0)
