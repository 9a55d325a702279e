use Rattle.std.proofs.Common.{◌∙◌, sym}
use Rattle.pc_poly.proofs.Keeping.{kept_all, kept_either}
use Rattle.pc_poly.proofs.showing.widened.Goals as goal

pub returns-then-len-clause-states : goal.returns-then-len-clause-states
returns-then-len-clause-states c =
    kept_all c.args.old.now c.args.newer.now c.in_ok-kept.kept c.in_ok-kept.ensures (sym c.len.ensures.value ∙ c.if-len.true ∙ c.len-2.ensures.value)

pub returns-clause-states : goal.returns-clause-states
returns-clause-states c = kept_either c.args.old.now c.args.newer.now c.in_ok-kept.kept c.in_ok-kept.ensures
