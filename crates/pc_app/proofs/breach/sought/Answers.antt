use Rattle.std.proofs.Common.{sym, subst}
use Rattle.std.proofs.lemmas.Result.{IfOk-weaker}
use Rattle.pc_flow.specs.Flow.{Flow}
use Rattle.pc_breach.specs.Graphs.{IsStraight}
use Rattle.pc_app.proofs.BreachLemmas.{all_in_range, straight_graph, past_answer, safe_answer, broken_answer}
use Rattle.pc_app.proofs.breach.sought.Goals as goal

pub breach-requires-clause-range : goal.breach-requires-clause-range
breach-requires-clause-range c = rw c.as_slice.ensures (all_in_range c.args.script.now.entry c.args.script.now.entry_in_range)

pub breach-requires-clause-straight : goal.breach-requires-clause-straight
breach-requires-clause-straight c = subst (λ (g : Flow). IsStraight g) (sym c.in_ok-g.ensures) (straight_graph c.args.program.now c.requires.fit)

pub returns-in-Ok-Past : goal.returns-in-Ok-Past
returns-in-Ok-Past c =
    IfOk-weaker c.one_line.result _ _
    (λ a is. past_answer c.args.program.now c.in_ok-g.g c.as_slice.result.now c.args.script.now.entry c.in_ok-g.ensures c.as_slice.ensures c.in-Ok-Past.field-0 c.in-Ok-Past.field-0-is c.in-Ok-Past.ensures.answer
    a.status a.text is.0 is.1)
    c.one_line.ensures

pub returns-in-Ok-Safe : goal.returns-in-Ok-Safe
returns-in-Ok-Safe c =
    IfOk-weaker c.one_line-in-Ok-Safe.result _ _
    (λ a is. safe_answer c.args.program.now c.in_ok-g.g c.as_slice.result.now c.args.script.now.entry c.in_ok-g.ensures c.as_slice.ensures c.in-Ok-Safe.field-0 c.in-Ok-Safe.field-0-is c.in-Ok-Safe.ensures.answer
    a.status a.text is.0 is.1)
    c.one_line-in-Ok-Safe.ensures

pub returns-in-Ok-Choices : goal.returns-in-Ok-Choices
returns-in-Ok-Choices c =
    broken_answer c.args.program.now c.in_ok-g.g c.as_slice.result.now c.args.script.now.entry c.in_ok-g.ensures c.as_slice.ensures c.in-Ok-Choices.field-0 c.in-Ok-Choices.choices c.in-Ok-Choices.field-0-is
    c.in-Ok-Choices.ensures.answer c.in_ok-script_text-in-Ok-Choices.field-0
    (rw (c.as_slice-in-Ok-Choices.ensures, c.as_slice-in-Ok-Choices-2.ensures) at c.in_ok-script_text-in-Ok-Choices.ensures)
