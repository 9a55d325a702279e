use Rattle.pc_rows.proofs.Only as only
use Rattle.pc_rows.proofs.laws.variables_are_kept.Goals as goal

pub returns : goal.returns
returns c =
    record {
      first = only.first_is_over;
      substitution = only.substituted_is_over;
      difference = only.difference_is_over;
      negation = only.negation_is_over;
      join = only.join_is_over;
    }
