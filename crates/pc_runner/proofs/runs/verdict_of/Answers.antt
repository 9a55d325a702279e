use Rattle.std.proofs.Common.{pos, get_or, FitsSigned, rules}
use Rattle.std.specs.Int.{w128}
use Rattle.std.proofs.lemmas.Int.{to_z-of_z}
use Rattle.pc_runner.proofs.Turns.{turn}
use Rattle.pc_runner.proofs.runs.verdict_of.Goals as goal

pub returns-in-Violated : goal.returns-in-Violated
returns-in-Violated c =
    let fits : FitsSigned w128 (get_or c.as_slice-choice-items.result.now c.loop-choice.choice-index (pos 0)) = search rules in
    let step_is = simp to_z-of_z at c.in_ok-take_step.ensures in
    turn _ _ c.in_ok-take_step.field-0 _ _ _ c.loop-choice.state _ c.as_slice-choice-items.result.now c.args.script.now.choices (pos 0) _ c.loop-choice.invariant.0 c.loop-choice-test.true
    c.as_slice-choice-items.ensures step_is c.loop-choice.invariant.1 c.in-Violated.is

pub returns-in-Blocked : goal.returns-in-Blocked
returns-in-Blocked c =
    let fits : FitsSigned w128 (get_or c.as_slice-choice-items.result.now c.loop-choice.choice-index (pos 0)) = search rules in
    let step_is = simp to_z-of_z at c.in_ok-take_step.ensures in
    turn _ _ c.in_ok-take_step.field-0 _ _ _ c.loop-choice.state _ c.as_slice-choice-items.result.now c.args.script.now.choices (pos 0) _ c.loop-choice.invariant.0 c.loop-choice-test.true
    c.as_slice-choice-items.ensures step_is c.loop-choice.invariant.1 c.in-Blocked.is

pub returns-in-Ended : goal.returns-in-Ended
returns-in-Ended c =
    let fits : FitsSigned w128 (get_or c.as_slice-choice-items.result.now c.loop-choice.choice-index (pos 0)) = search rules in
    let step_is = simp to_z-of_z at c.in_ok-take_step.ensures in
    turn _ _ c.in_ok-take_step.field-0 _ _ _ c.loop-choice.state _ c.as_slice-choice-items.result.now c.args.script.now.choices (pos 0) _ c.loop-choice.invariant.0 c.loop-choice-test.true
    c.as_slice-choice-items.ensures step_is c.loop-choice.invariant.1 c.in-Ended.is

pub returns-in-Past : goal.returns-in-Past
returns-in-Past c =
    let fits : FitsSigned w128 (get_or c.as_slice-choice-items.result.now c.loop-choice.choice-index (pos 0)) = search rules in
    let step_is = simp to_z-of_z at c.in_ok-take_step.ensures in
    turn _ _ c.in_ok-take_step.field-0 _ _ _ c.loop-choice.state _ c.as_slice-choice-items.result.now c.args.script.now.choices (pos 0) _ c.loop-choice.invariant.0 c.loop-choice-test.true
    c.as_slice-choice-items.ensures step_is c.loop-choice.invariant.1 c.in-Past.is

pub loop-choice-preserved : goal.loop-choice-preserved
loop-choice-preserved c =
    let fits : FitsSigned w128 (get_or c.as_slice-choice-items.result.now c.loop-choice.choice-index (pos 0)) = search rules in
    let step_is = simp to_z-of_z at c.in_ok-take_step.ensures in
    turn _ _ c.in_ok-take_step.field-0 _ _ _ c.loop-choice.state _ c.as_slice-choice-items.result.now c.args.script.now.choices (pos 0) _ c.loop-choice.invariant.0 c.loop-choice-test.true
    c.as_slice-choice-items.ensures step_is c.loop-choice.invariant.1 c.in-Going.is
