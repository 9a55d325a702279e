use Rattle.pc_rows.proofs.First as first
use Rattle.pc_rows.proofs.laws.first_variables.Goals as goal

pub returns : goal.returns
returns c = record { value = first.value_of_first; entry = first.zero_from_entry; at_entry = first.value_at_entry }
