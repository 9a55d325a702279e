use Rattle.std.proofs.Common.{arith, refl}
use Rattle.pc_rows.proofs.Counting.{count_most}
use Rattle.pc_rows.proofs.rows.has_room.Goals as goal

pub returns-then-len-le-ROWS : goal.returns-then-len-le-ROWS
returns-then-len-le-ROWS c = ((λ t. omega (arith, count_most c.args.a.now c.args.b.now, c.len.ensures.value, c.len-2.ensures.value)), (λ h. refl))
