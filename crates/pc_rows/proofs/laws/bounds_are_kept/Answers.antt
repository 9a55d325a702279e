use Rattle.pc_rows.proofs.Bounding as bounding
use Rattle.pc_rows.proofs.Joining as joining
use Rattle.pc_rows.proofs.laws.bounds_are_kept.Goals as goal

pub returns : goal.returns
returns c = record { join = joining.join_is_within; substitution = bounding.small_substitution_fits }
