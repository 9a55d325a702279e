use Rattle.std.proofs.Common.{◌≡◌, Some, rules}
use Rattle.pc_poly.proofs.member.Poly.hull.Goals as goal

pub returns-in_ok-hull-in-Some-Some-clause-states : goal.returns-in_ok-hull-in-Some-Some-clause-states
returns-in_ok-hull-in-Some-Some-clause-states c =
    let first : c.args.self.now ≡ Some c.in-Some-Some.a = search rules in
    let second : c.args.other.now ≡ Some c.in-Some-Some.b = search rules in
    rw (first, second, c.with.ensures) c.in_ok-hull-in-Some-Some.ensures
