use Rattle.std.proofs.Common.{arith}
use Rattle.pc_show.proofs.NameTexts.{names_start, names_step}
use Rattle.pc_show.proofs.showing.names.push_further.Goals as goal

pub loop-v-init : goal.loop-v-init
loop-v-init c = names_start c.args.names.now.names c.args.from c.args.text.now

pub loop-v-preserved : goal.loop-v-preserved
loop-v-preserved c =
    names_step c.args.names.now.names c.args.from c.loop-v.v c.at.result.now (omega arith) (omega arith) c.at.ensures
    c.args.text.now c.loop-v.text _ _ c.loop-v.invariant c.in_ok-push_all.ensures.added c.in_ok-push_all-2.ensures.added
