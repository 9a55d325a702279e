use Rattle.std.proofs.Common.{◌∙◌, ap, sym, arith}
use Rattle.std.specs.Prelude.{unsigned_abs}
use Rattle.pc_entail.proofs.Composing.{divisor_next}
use Rattle.pc_entail.proofs.composition.common_divisor.Goals as goal

pub loop-i-preserved : goal.loop-i-preserved
loop-i-preserved c = divisor_next (unsigned_abs c.args.goal) c.args.premises.now c.loop-i.i c.loop-i.divisor c.divisor_of-divisor.result c.magnitude.result c.index-premises-i.result (let long = c.told-premises in omega arith) c.index-premises-i.is (c.magnitude.ensures.value ∙ ap unsigned_abs (sym c.index-premises-i.is)) c.divisor_of-divisor.ensures c.loop-i.invariant
