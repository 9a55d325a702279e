use Rattle.std.proofs.Common.{sym, ◌∙◌}
use Rattle.pc_simplex.proofs.Nothing.{nothing_after}
use Rattle.pc_simplex.proofs.line.pivot.Pivot.number_after.Goals as goal

pub returns-then-is_zero-2 : goal.returns-then-is_zero-2
returns-then-is_zero-2 c = nothing_after c.args.self.now c.args.factor c.args.here c.args.x c.args.y (sym c.is_zero.ensures ∙ c.if-is_zero.true) (sym c.is_zero-then-is_zero.ensures ∙ c.if-is_zero-2.true)
