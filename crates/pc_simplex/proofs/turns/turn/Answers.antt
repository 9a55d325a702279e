use Rattle.std.proofs.Common.{sym}
use Rattle.pc_simplex.proofs.Ending.{met_ends, stuck_ends, goes_on, past_ends}
use Rattle.pc_simplex.proofs.turns.turn.Goals as goal

pub returns-in-Met : goal.returns-in-Met
returns-in-Met c = λ n. met_ends c.args.t.now n (sym c.in-Met.ensures.value)

pub returns-in-Stuck : goal.returns-in-Stuck
returns-in-Stuck c = λ n. stuck_ends c.args.t.now n c.in-Stuck.r (sym c.in-Stuck.ensures.value) c.in-Stuck.ensures.choice

pub returns-in-Ok : goal.returns-in-Ok
returns-in-Ok c = λ premises n. goes_on c.args.t.now premises n c.in-Exchange.r c.in-Exchange.j c.exchange.new.self (sym c.in-Exchange.ensures.value) c.in-Ok.ensures.0 c.in-Ok.ensures.1

pub returns-in-Err : goal.returns-in-Err
returns-in-Err c = λ n. past_ends c.args.t.now n c.in-Exchange.r c.in-Exchange.j c.exchange.new.self (sym c.in-Exchange.ensures.value) c.in-Err.ensures
