use Rattle.std.proofs.Common.{length}
use Rattle.pc_rows.proofs.Checking.{usable_indices, may_show, may_not_show}
use Rattle.pc_rows.proofs.system.shows.Goals as goal

pub is_contradiction-requires : goal.is_contradiction-requires
is_contradiction-requires c = usable_indices (length c.args.s.now.premises) c.args.p.now c.is_usable.result (rw c.len.ensures.value at c.is_usable.ensures) c.if-is_usable.true

pub returns-then-is_usable : goal.returns-then-is_usable
returns-then-is_usable c = may_show c.args.s.now.premises c.args.s.now.goal c.args.p.now c.is_usable.result (rw c.len.ensures.value at c.is_usable.ensures) c.is_contradiction.result c.if-is_usable.true c.is_contradiction.ensures

pub returns-else-is_usable : goal.returns-else-is_usable
returns-else-is_usable c = may_not_show c.args.s.now.premises c.args.s.now.goal c.args.p.now c.is_usable.result (rw c.len.ensures.value at c.is_usable.ensures) c.if-is_usable.false
