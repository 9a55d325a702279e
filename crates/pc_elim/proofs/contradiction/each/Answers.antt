use Rattle.std.proofs.Common.{arith, sym, ◌∙◌}
use Rattle.pc_elim.specs.Elimination.{combined_of}
use Rattle.pc_elim.proofs.Contradicting.{flat_none, flat_some}
use Rattle.pc_elim.proofs.contradiction.each.Goals as goal

pub returns-in-Some : goal.returns-in-Some
returns-in-Some c = flat_some (combined_of c.args.k c.args.all.now) c.args.all.now c.loop-r.r-index c.r-item.result c.in-Some.multipliers (omega arith) c.r-item.is c.loop-r.invariant (sym c.in-Some.is ∙ c.in_ok-multipliers.ensures)

pub loop-r-preserved : goal.loop-r-preserved
loop-r-preserved c = flat_none (combined_of c.args.k c.args.all.now) c.args.all.now c.loop-r.r-index c.r-item.result (omega arith) c.r-item.is c.loop-r.invariant (sym c.in-None.is ∙ c.in_ok-multipliers.ensures)
