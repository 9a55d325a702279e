use Rattle.std.proofs.Common.{◌≡◌, drop}
use Rattle.pc_runner.specs.Stack.{flat}
use Rattle.pc_runner.specs.Verdicts.{verdict_of, verdict_from, later}
use Rattle.pc_runner.proofs.runs.verdict_of.Given as goal

-- the verdict is that on the rest of the run, so many steps later
abbrev pub invariant-loop-choice : goal.invariant-loop-choice
invariant-loop-choice l = (l.step ≡ l.choice-index)
    × (later l.choice-index (verdict_from (flat l.stack.items) l.state (drop l.choice-index l.script.choices)) ≡ verdict_of l.program l.script.entry l.script.choices)
