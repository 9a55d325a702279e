use Rattle.pc_rows.proofs.Values as values
use Rattle.pc_rows.proofs.laws.row_values.Goals as goal

pub returns : goal.returns
returns c = record {
  constant = values.value-constant;
  coefficient = values.value-coefficient;
  at_zero = values.value-idle;
  sum = values.value-sum;
  difference = values.value-difference;
  multiple = values.value-scaled;
  negation = values.value-negation;
  above = values.value-above;
  number = values.value-number;
}
