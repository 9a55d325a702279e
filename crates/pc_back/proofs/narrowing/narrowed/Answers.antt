use Rattle.pc_back.proofs.States.{shown_has}
use Rattle.pc_back.proofs.narrowing.narrowed.Goals as goal

pub returns-then-branch-clause-states : goal.returns-then-branch-clause-states
returns-then-branch-clause-states c = shown_has c.args.newer.now c.args.old.now (c.in_ok-are_shown.ensures c.if-branch.true)
