use Rattle.std.proofs.Common.{◌≤ℤ◌, ℤ, pos, sym, subst}
use Rattle.pc_rows.specs.Linear.{InRange}
use Rattle.pc_simplex.proofs.Multiples.{multiple_divides}
use Rattle.pc_simplex.proofs.divisor.Divisor.divide.Goals as goal

pub returns-in-Some : goal.returns-in-Some
returns-in-Some c =
    let least : pos 1 ≤ℤ c.args.self.now = subst (λ (z : ℤ). pos 1 ≤ℤ z) c.self.view_is c.self.invariant in
    let whole = multiple_divides c.args.n c.in-Some.quotient c.args.self.now least c.in-Some.ensures.0 in
    ((whole.0, subst (λ (z : ℤ). InRange z) (sym whole.1) c.in-Some.ensures.1), sym whole.1)
