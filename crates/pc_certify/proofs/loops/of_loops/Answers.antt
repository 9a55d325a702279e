use Rattle.std.proofs.Common.{arith}
use Rattle.pc_certify.proofs.Filling.{listed_more, listed_long}
use Rattle.pc_certify.proofs.Keeping.{all_taken}
use Rattle.pc_certify.proofs.loops.of_loops.Goals as goal

pub with_all-requires-clause-heads : goal.with_all-requires-clause-heads
with_all-requires-clause-heads c = listed_more c.args.g.now c.of_modes.new.later c.add.new.later c.in_ok-needed.field-0 c.in_ok-add.ensures c.in_ok-needed.ensures c.in_ok-kept.ensures.later

pub returns : goal.returns
returns c =
    let long = listed_long c.of_modes.new.later c.add.new.later c.in_ok-needed.field-0 c.in_ok-add.ensures in
    let most = c.in_ok-kept.ensures.long in
    all_taken c.args.g.now c.requires c.add.new.later c.in_ok-kept.kept c.with_all.result (omega arith) c.in_ok-kept.ensures.takes c.with_all.ensures
