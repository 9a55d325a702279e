use Rattle.std.proofs.Common.{sym, subst, drop}
use Rattle.pc_rows.specs.declared.row.TheConstants.{VARIABLES}
use Rattle.pc_simplex.specs.Values.{Line, AreZero}
use Rattle.pc_simplex.proofs.Zeros.{later}
use Rattle.pc_simplex.proofs.line.pivot.Pivot.change_other.Goals as goal

pub change_numbers-requires-clause-pivot : goal.change_numbers-requires-clause-pivot
change_numbers-requires-clause-pivot c = later c.width-2.result c.greater-width.result c.args.self.now.line.numbers c.greater-width.ensures.right c.width-2.ensures.zero

pub change_numbers-requires-clause-zero : goal.change_numbers-requires-clause-zero
change_numbers-requires-clause-zero c = subst (λ (l : Line). AreZero (drop c.greater-width.result l.numbers)) (sym c.line.view_is) (later c.width.result c.greater-width.result c.args.line.now.numbers c.greater-width.ensures.left c.width.ensures.zero)

pub invariant_of-line : goal.invariant_of-line
invariant_of-line c = (c.change_numbers.ensures.long, c.greater-width.ensures.least VARIABLES c.width.ensures.most c.width-2.ensures.most, c.change_numbers.ensures.rest)
