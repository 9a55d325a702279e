use Rattle.std.proofs.Common.{◌∙◌, sym, ap, arith}
use Rattle.pc_rows.specs.Points.{with_numerator}
use Rattle.pc_simplex.proofs.PointLines.{variable_changes, far_stays, row_stays}
use Rattle.pc_simplex.proofs.found.with_line.Goals as goal

pub returns-in-Variable : goal.returns-in-Variable
returns-in-Variable c = λ d ls h.
    c.with.ensures
    ∙ ap (with_numerator c.args.point c.in-Variable.v) c.constant.ensures
    ∙ variable_changes c.args.line.now ls c.in-Variable.v (sym c.in-Variable.ensures) d c.args.point h

pub returns-in_default : goal.returns-in_default
returns-in_default c = λ d ls h. h ∙ sym (far_stays c.args.line.now ls c.in-Variable.v (sym c.in-Variable.ensures) d (omega (arith, c.if-v.false)))

pub returns-in_default-2 : goal.returns-in_default-2
returns-in_default-2 c = λ d ls h. h ∙ sym (row_stays c.args.line.now ls _ d (sym c.in_default.ensures))
