use Rattle.std.proofs.Common.{◌≡◌, vec_len}
use Rattle.pc_runner.specs.Stack.{flat}
use Rattle.pc_runner.proofs.machine.take_step.Given as goal

-- only slices without statements were taken off
abbrev pub invariant-tops : goal.invariant-tops
invariant-tops l = (flat l.stack.items ≡ flat l.fn.stack.items) × (l.state ≡ l.fn.state)

abbrev pub decreases-tops : goal.decreases-tops
decreases-tops l = vec_len l.stack
