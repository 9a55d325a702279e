use Rattle.pc_back.proofs.States.{below_has}
use Rattle.pc_back.proofs.narrowing.joined.Goals as goal

pub returns-in-Ok : goal.returns-in-Ok
returns-in-Ok c = below_has c.args.old.now c.args.newer.now c.in-Ok.rows c.unless_nothing.result c.in-Ok.ensures.states c.unless_nothing.ensures
