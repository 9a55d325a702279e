use Rattle.std.proofs.Common.{◌≡◌, Some, rules}
use Rattle.pc_poly.proofs.member.Poly.widened.Goals as goal

pub returns-in-Some-Some-clause-states : goal.returns-in-Some-Some-clause-states
returns-in-Some-Some-clause-states c =
    let old : c.args.self.now ≡ Some c.in-Some-Some.a = search rules in
    let newer : c.args.newer.now ≡ Some c.in-Some-Some.b = search rules in
    rw (old, newer) c.wider.ensures.states
