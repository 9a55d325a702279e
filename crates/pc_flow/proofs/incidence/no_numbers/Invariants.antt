use Rattle.pc_flow.specs.Incidence.{HasNone}
use Rattle.pc_flow.proofs.incidence.no_numbers.Given as goal

abbrev pub invariant-loop-p : goal.invariant-loop-p
invariant-loop-p l = HasNone l._p l.all.items
