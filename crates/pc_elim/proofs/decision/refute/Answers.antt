use Rattle.std.proofs.Common.{◌∙◌}
use Rattle.pc_elim.proofs.Answering.{started_few, shown_answers, point_answers, past_unfit, full_unfit}
use Rattle.pc_elim.proofs.decision.refute.Goals as goal

pub returns-in-Ok-Shown-clause-exact : goal.returns-in-Ok-Shown-clause-exact
returns-in-Ok-Shown-clause-exact c = shown_answers c.args.s.now c.as_slice.result.now (c.as_slice.ensures ∙ c.in_ok-rows.ensures.rows) c.requires.range c.in-Ok-Shown.field-0 c.in-Ok-Shown.multipliers c.shown.result c.in-Ok-Shown.ensures c.in-Ok-Shown.field-0-is c.shown.ensures

pub returns-in-Ok-At-clause-exact : goal.returns-in-Ok-At-clause-exact
returns-in-Ok-At-clause-exact c = point_answers c.args.s.now c.as_slice.result.now (c.as_slice.ensures ∙ c.in_ok-rows.ensures.rows) c.requires.range c.in-Ok-At.field-0 c.in-Ok-At.p c.in-Ok-At.ensures c.in-Ok-At.field-0-is

pub returns-in-Err-Past-clause-exact : goal.returns-in-Err-Past-clause-exact
returns-in-Err-Past-clause-exact c = past_unfit c.args.s.now c.as_slice.result.now (c.as_slice.ensures ∙ c.in_ok-rows.ensures.rows) c.requires.range c.in-Err-Past.field-0 c.in-Err-Past.field-0-is c.in-Err-Past.ensures

pub returns-clause-exact : goal.returns-clause-exact
returns-clause-exact c = full_unfit c.args.s.now c.as_slice.result.now (c.as_slice.ensures ∙ c.in_ok-rows.ensures.rows) c.requires.range c.in-Err-Full.field-0 c.in-Err-Full.field-0-is c.in-Err-Full.ensures

pub settle-requires : goal.settle-requires
settle-requires c = started_few c.args.s.now c.as_slice.result.now (c.as_slice.ensures ∙ c.in_ok-rows.ensures.rows) c.in_ok-rows.ensures.system
