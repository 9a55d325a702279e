use Rattle.std.proofs.Common.{◌++◌}
use Rattle.pc_entail.specs.Found.{IsFound}
use Rattle.pc_entail.proofs.Finding.{all_more, some_more, some_here}
use Rattle.pc_entail.proofs.Settling.{each_more, each_rest, each_here}
use Rattle.pc_entail.proofs.entailment.show_all.Goals as goal

pub returns-then-not-branch-clause-exact : goal.returns-then-not-branch-clause-exact
returns-then-not-branch-clause-exact c = each_here (IsFound (c.args.a.now ++ c.args.b.now)) c.args.goals.now c.loop-i.i c.at.result.now c.at.ensures c.loop-i.invariant.rest (rw c.if-not-branch.true at c.in_ok-show.ensures.exact)

pub returns-then-not-branch-clause-evidence : goal.returns-then-not-branch-clause-evidence
returns-then-not-branch-clause-evidence c = some_here (c.args.a.now ++ c.args.b.now) c.args.goals.now c.loop-i.i c.at.result.now c.at.ensures (rw c.if-not-branch.true at c.in_ok-show.ensures.evidence) c.loop-i.invariant.some

pub loop-i-preserved : goal.loop-i-preserved
loop-i-preserved c = record {
  all = all_more (c.args.a.now ++ c.args.b.now) c.args.goals.now c.loop-i.i c.at.result.now c.at.ensures (rw c.if-not-branch.false at c.in_ok-show.ensures.evidence) c.loop-i.invariant.all;
  some = some_more (c.args.a.now ++ c.args.b.now) c.args.goals.now c.loop-i.i c.at.result.now c.at.ensures c.loop-i.invariant.some;
  found = each_more (IsFound (c.args.a.now ++ c.args.b.now)) c.args.goals.now c.loop-i.i c.at.result.now c.at.ensures (rw c.if-not-branch.false at c.in_ok-show.ensures.exact) c.loop-i.invariant.found;
  rest = each_rest (IsFound (c.args.a.now ++ c.args.b.now)) c.args.goals.now c.loop-i.i c.at.result.now c.at.ensures c.loop-i.invariant.rest;
}
