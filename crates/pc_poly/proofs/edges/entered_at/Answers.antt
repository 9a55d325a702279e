use Rattle.pc_rows.specs.declared.row.TheConstants.{VARIABLES}
use Rattle.pc_rows.proofs.Algebra.{get_or-zeros}
use Rattle.pc_poly.proofs.Assigning.{zeroed_all}
use Rattle.pc_poly.proofs.edges.entered_at.Goals as goal

pub bounded-requires-clause-without : goal.bounded-requires-clause-without
bounded-requires-clause-without c = rw c.to_zero.ensures (get_or-zeros VARIABLES c.args.v)

pub returns-then-v-hint-clause-states : goal.returns-then-v-hint-clause-states
returns-then-v-hint-clause-states c = zeroed_all c.args.v c.args.rows.now c.to_zero.result c.bounded.result c.to_zero.ensures c.bounded.ensures
