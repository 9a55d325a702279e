use Rattle.std.proofs.Common.{◌∙◌, ◌-◌, sym, ap, arith, length}
use Rattle.std.proofs.lemmas.List.{drop_all}
use Rattle.pc_simplex.specs.Found.{point_at}
use Rattle.pc_simplex.proofs.PointLines.{nowhere, one_before}
use Rattle.pc_simplex.proofs.found.point.Goals as goal

pub loop-behind-init : goal.loop-behind-init
loop-behind-init c =
    let d = c.args.t.now.denominator in
    let ls = c.args.t.now.lines in
    nowhere c.denominator.result d c.in_ok-point.point c.origin.result c.denominator.ensures.value c.origin.ensures c.in_ok-point.ensures.1
    ∙ ap (point_at d) (sym (drop_all (length ls - 0) ls (omega arith)))

pub loop-behind-preserved : goal.loop-behind-preserved
loop-behind-preserved c =
    one_before c.args.t.now.denominator c.lines-lines.result.now c.args.t.now.lines c.loop-behind.behind _ c.index-lines-lines.result c.loop-behind.point c.with_line-point.result c.lines-lines.ensures (omega (arith, c.loop-behind-test.true)) (omega (arith, c.loop-behind-test.true)) c.index-lines-lines.is c.loop-behind.invariant c.with_line-point.ensures
