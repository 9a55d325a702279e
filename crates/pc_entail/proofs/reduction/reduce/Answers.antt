use Rattle.std.proofs.Common.{arith}
use Rattle.pc_entail.proofs.Reducing.{going_first, going_next, going_last}
use Rattle.pc_entail.proofs.Leaving.{leaving_first, leaving_next, leaving_last}
use Rattle.pc_entail.proofs.Removing.{removes_shown, same_states}
use Rattle.pc_entail.proofs.Modesty.{modest_reduced}
use Rattle.pc_entail.proofs.reduction.reduce.Goals as goal

pub loop-i-init : goal.loop-i-init
loop-i-init c = record {
  going = going_first c.args.a.now c.new-kept.result c.new-removed.result c.new-kept.ensures c.new-removed.ensures;
  leaving = leaving_first c.args.a.now c.new-kept.result c.new-removed.result c.new-kept.ensures c.new-removed.ensures;
}

pub loop-i-preserved : goal.loop-i-preserved
loop-i-preserved c = record {
  going = going_next c.args.a.now c.loop-i.i c.loop-i.kept c.loop-i.removed c.at.result.now c.in_ok-later.later c.step.new.kept c.step.new.removed c.loop-i.invariant.going c.at.ensures c.in_ok-later.ensures c.in_ok-step.ensures.evidence;
  leaving = leaving_next c.args.a.now c.loop-i.i c.loop-i.kept c.loop-i.removed c.at.result.now c.in_ok-later.later c.step.new.kept c.step.new.removed c.loop-i.invariant.leaving c.at.ensures c.in_ok-later.ensures c.in_ok-step.ensures.exact;
}

pub returns-clause-left : goal.returns-clause-left
returns-clause-left c = leaving_last c.args.a.now c.loop-i.i c.loop-i.kept c.loop-i.removed c.loop-i.invariant.leaving (omega arith)

pub returns-clause-states : goal.returns-clause-states
returns-clause-states c = same_states c.args.a.now c.loop-i.kept (removes_shown c.args.a.now c.loop-i.kept (going_last c.args.a.now c.loop-i.i c.loop-i.kept c.loop-i.removed c.loop-i.invariant.going (omega arith)))

pub returns-clause-removed : goal.returns-clause-removed
returns-clause-removed c = removes_shown c.args.a.now c.loop-i.kept (going_last c.args.a.now c.loop-i.i c.loop-i.kept c.loop-i.removed c.loop-i.invariant.going (omega arith))

pub returns-clause-kept : goal.returns-clause-kept
returns-clause-kept c = going_last c.args.a.now c.loop-i.i c.loop-i.kept c.loop-i.removed c.loop-i.invariant.going (omega arith)

pub returns-clause-exact : goal.returns-clause-exact
returns-clause-exact c = modest_reduced c.args.a.now c.loop-i.kept (going_last c.args.a.now c.loop-i.i c.loop-i.kept c.loop-i.removed c.loop-i.invariant.going (omega arith))
