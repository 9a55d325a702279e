use Rattle.pc_program.proofs.RowLemmas.{comparisons_are_rows, conjunctions_are_rows, unequals_are_rows}
use Rattle.pc_program.proofs.laws.rows_are_right.Goals as goal

pub returns-clause-comparison : goal.returns-clause-comparison
returns-clause-comparison c = comparisons_are_rows

pub returns-clause-conjunction : goal.returns-clause-conjunction
returns-clause-conjunction c = conjunctions_are_rows

pub returns-clause-unequal : goal.returns-clause-unequal
returns-clause-unequal c = unequals_are_rows
