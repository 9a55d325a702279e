use Rattle.std.proofs.Common.{◌∙◌}
use Rattle.pc_rows.specs.Linear.{negation}
use Rattle.pc_syntax.proofs.FitLemmas.{ok_is}
use Rattle.pc_syntax.proofs.walk.conditions.negation_fits.Goals as goal

pub returns : goal.returns
returns c = c.is_ok.ensures.value ∙ ok_is c.negated.result (negation c.args.r.now) c.negated.ensures
