use Rattle.pc_elim.proofs.Bounds.{found_weight}
use Rattle.std.proofs.Common.{true, false}
use Rattle.pc_elim.proofs.bound.placed.Goals as goal

pub placed_at-requires-clause-positive : goal.placed_at-requires-clause-positive
placed_at-requires-clause-positive c = found_weight false c.args.k c.args.p c.args.rows.now _ c.in-Some.lower c.in_ok-lower.ensures.1 c.in-Some.is

pub placed_at-requires-in-Some-2-clause-positive : goal.placed_at-requires-in-Some-2-clause-positive
placed_at-requires-in-Some-2-clause-positive c = found_weight true c.args.k c.args.p c.args.rows.now _ c.in-Some-2.upper c.in_ok-upper-in-None.ensures.1 c.in-Some-2.is
