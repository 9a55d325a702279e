use Rattle.pc_poly.proofs.member.wider.Goals as goal

pub returns-in-Some-clause-states : goal.returns-in-Some-clause-states
returns-in-Some-clause-states c = rw c.with.ensures (rw c.in-Some.is at c.in_ok-rows.ensures.states)
