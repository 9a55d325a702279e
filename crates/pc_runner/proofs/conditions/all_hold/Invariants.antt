use Rattle.std.proofs.Common.{◌≡◌, drop}
use Rattle.pc_runner.specs.Checked.{all_held}
use Rattle.pc_runner.proofs.conditions.all_hold.Given as goal

abbrev pub invariant-loop-compare : goal.invariant-loop-compare
invariant-loop-compare l = all_held l.state (drop l.compare-index l.compares) ≡ all_held l.state l.compares
