use Rattle.std.proofs.Common.{drop, subst}
use Rattle.pc_simplex.specs.Values.{Pivot, AreZero}
use Rattle.pc_simplex.proofs.Zeros.{later}
use Rattle.pc_simplex.proofs.line.pivot.Pivot.width.Goals as goal

pub returns-clause-zero : goal.returns-clause-zero
returns-clause-zero c = subst (λ (p : Pivot). AreZero (drop c.greater.result p.line.numbers)) c.self.view_is (later c.width.result c.greater.result c.self.inside.line.numbers c.greater.ensures.left c.width.ensures.zero)
