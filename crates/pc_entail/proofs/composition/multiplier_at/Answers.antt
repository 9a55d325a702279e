use Rattle.pc_entail.proofs.Composing.{multiplier_here, multiplier_next}
use Rattle.pc_entail.proofs.composition.multiplier_at.Goals as goal

pub returns-then-part-place : goal.returns-then-part-place
returns-then-part-place c = multiplier_here c.args.parts.now c.loop-i.i c.args.place c.at-part.result c.at-part.ensures c.if-part-place.true c.loop-i.invariant

pub loop-i-preserved : goal.loop-i-preserved
loop-i-preserved c = multiplier_next c.args.parts.now c.loop-i.i c.args.place c.at-part.result c.at-part.ensures c.if-part-place.false c.loop-i.invariant
