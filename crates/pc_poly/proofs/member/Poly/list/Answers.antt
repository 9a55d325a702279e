use Rattle.std.proofs.Common.{◌≡◌, None, rules}
use Rattle.pc_poly.proofs.Viewing.{list_of}
use Rattle.pc_poly.proofs.member.Poly.list.Goals as goal

pub returns-in-None-clause-states : goal.returns-in-None-clause-states
returns-in-None-clause-states c =
    let none : c.args.self.now ≡ None = search rules in
    rw none (list_of None c.never.result c.never.ensures)
