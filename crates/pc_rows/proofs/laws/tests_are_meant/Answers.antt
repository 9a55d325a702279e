use Rattle.pc_rows.proofs.Joining as joining
use Rattle.pc_rows.proofs.Ranges as ranges
use Rattle.pc_rows.proofs.laws.tests_are_meant.Goals as goal

pub returns : goal.returns
returns c = record { covered = joining.covering_is_meant; range = ranges.range_is_meant; number = joining.number_is_meant }
