use Rattle.std.proofs.Common.{sym}
use Rattle.pc_simplex.proofs.Ending.{met_ends, stuck_ends, last_ends}
use Rattle.pc_simplex.proofs.turns.last.Goals as goal

pub returns-in-Met : goal.returns-in-Met
returns-in-Met c = met_ends c.args.t.now 0 (sym c.in-Met.ensures.value)

pub returns-in-Stuck : goal.returns-in-Stuck
returns-in-Stuck c = stuck_ends c.args.t.now 0 c.in-Stuck.r (sym c.in-Stuck.ensures.value) c.in-Stuck.ensures.choice

pub returns-in-Exchange : goal.returns-in-Exchange
returns-in-Exchange c = last_ends c.args.t.now c.in-Exchange.field-0 c.in-Exchange.field-1 (sym c.in-Exchange.ensures.value)
