use Rattle.pc_json.proofs.RowNumbers.{HasCoefficients}
use Rattle.pc_json.proofs.rows.with_coefficients.Given as goal

abbrev pub invariant-variables : goal.invariant-variables
invariant-variables l = HasCoefficients l.list l.v l.row
