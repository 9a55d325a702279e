use Rattle.std.proofs.Common.{◌-◌}
use Rattle.pc_simplex.specs.declared.turns.TheConstants.{PIVOTS}
use Rattle.pc_simplex.proofs.Ending.{ends_later}
use Rattle.pc_simplex.proofs.turns.run.Goals as goal

pub returns-in-Some : goal.returns-in-Some
returns-in-Some c = ends_later PIVOTS (PIVOTS - c.loop-made.made) c.args.t.now c.loop-made.t c.turn.new.t c.in-Some.end c.loop-made.invariant (c.in-Some.ensures (PIVOTS - c.loop-made.made))
