use Rattle.std.proofs.Common.{◌≡◌, ◌++◌, drop}
use Rattle.pc_breach.specs.Scripts.{values_text}
use Rattle.pc_breach.proofs.script.push_values.Given as goal

abbrev pub invariant-loop-v : goal.invariant-loop-v
invariant-loop-v l = l.text ++ values_text (drop l.v-index l.values) ≡ l.fn.text ++ values_text l.values
