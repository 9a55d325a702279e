use Rattle.std.proofs.Common.{◌∙◌, sym, ap, rules, FitsSigned}
use Rattle.std.proofs.lemmas.Int.{to_z-of_z}
use Rattle.std.proofs.lemmas.Result.{IfOk-weaker}
use Rattle.std.specs.Int.{w128}
use Rattle.pc_runner.specs.Checked.{stepped}
use Rattle.pc_runner.specs.Stack.{flat}
use Rattle.pc_runner.proofs.Flat.{pop_empty, pop_some}
use Rattle.pc_runner.proofs.machine.take_step.Goals as goal

pub tops-preserved : goal.tops-preserved
tops-preserved c = (
  sym (pop_empty c.tops.stack.items c.pop.new.self.items c.in-Some.top c.in-Some.ensures.items c.in_default-top.len_below) ∙ c.tops.invariant.0,
  c.tops.invariant.1,
)

pub returns-in-len1-up : goal.returns-in-len1-up
returns-in-len1-up c =
    let chosen : FitsSigned w128 c.args.choice = search rules in
    let stepped_on = simp to_z-of_z at c.step_at.ensures in
    IfOk-weaker c.step_at.result _ _ (λ step e.
    pop_some c.tops.stack.items c.pop.new.self.items c.in-Some.top c.first-item.result c.tops.state c.args.choice _ c.in-Some.ensures.items c.in-len1-up.len_at_least c.first-item.is e
    ∙ ap (λ z. stepped z c.tops.state c.args.choice) c.tops.invariant.0
    ∙ ap (λ z. stepped (flat c.args.stack.now.items) z c.args.choice) c.tops.invariant.1) stepped_on
