use Rattle.std.proofs.Common.{◌≡◌, ◌≤◌, ◌++◌, ◌-◌}
use Rattle.pc_gen.specs.Made.{loops_text}
use Rattle.pc_gen.proofs.made.push_loops.Given as goal

abbrev pub invariant-loop-done : goal.invariant-loop-done
invariant-loop-done l = record {
  within : l.done ≤ l.loops;
  so_far : l.text ≡ l.fn.text ++ loops_text l.done;
}

abbrev pub decreases-loop-done : goal.decreases-loop-done
decreases-loop-done l = l.loops - l.done
