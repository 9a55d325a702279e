use Rattle.pc_back.proofs.States.{entry_is}
use Rattle.pc_back.proofs.entry.reduced.Goals as goal

pub returns-in-Ok : goal.returns-in-Ok
returns-in-Ok c = entry_is c.args.rows.now c.in_ok-first.field-0 c.args.params c.in-Ok.rows c.in_ok-first.ensures c.in-Ok.ensures.states
