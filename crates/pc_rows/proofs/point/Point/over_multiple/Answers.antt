use Rattle.std.proofs.Common.{rules}
use Rattle.pc_rows.proofs.Adding.{at_least_one}
use Rattle.pc_rows.proofs.point.Point.over_multiple.Goals as goal

pub invariant_of-result : goal.invariant_of-result
invariant_of-result c = record {
  wide = search rules;
  in_range = search rules;
  denominator = search rules;
  positive = rw c.in_ok-denominator.ensures.1 (at_least_one c.args.k c.self.inside.denominator c.requires c.self.invariant.positive);
}
