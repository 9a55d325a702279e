use Rattle.std.proofs.Common.{◌++◌}
use Rattle.pc_entail.proofs.Settling.{tells_shown, tells_point, tells_unsettled}
use Rattle.pc_entail.proofs.entailment.show.Goals.{in-Shown, in-Point, in-Unsettled}
use Rattle.pc_entail.proofs.entailment.show.Goals as goal

pub returns-clause-exact : goal.returns-clause-exact
returns-clause-exact c =
    let rows = c.args.a.now ++ c.args.b.now in
    let settled = c.in_ok-entails.ensures.exact in
    elim c.match-branch-2.branch [
      | in-Shown w ↦ tells_shown rows c.args.goal.now c.in_ok-entails.field-0 _ c.match-branch-2.result settled w.in-Shown.is w.result-is
      | in-Point w ↦ tells_point rows c.args.goal.now c.in_ok-entails.field-0 _ c.match-branch-2.result settled w.in-Point.is w.result-is
      | in-Unsettled w ↦ tells_unsettled rows c.args.goal.now c.in_ok-entails.field-0 c.match-branch-2.result settled w.in-Unsettled.is w.result-is
    ]
