use Rattle.pc_rows.specs.Linear.{above_of}
use Rattle.pc_rows.proofs.Ranges.{from_test}
use Rattle.pc_program.proofs.rows.above.Goals as goal

pub unreachable-requires : goal.unreachable-requires
unreachable-requires c = c.in-Err.ensures (from_test (above_of c.args.a.now c.args.b.now) c.requires)
