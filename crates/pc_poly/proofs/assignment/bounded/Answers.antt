use Rattle.pc_poly.proofs.Assigning.{bounded_after}
use Rattle.pc_poly.proofs.assignment.bounded.Goals as goal

pub returns : goal.returns
returns c =
    bounded_after c.args.a.now c.args.rows.now c.in_ok-out.out c.add_low.new.out c.add_high.new.out c.in_ok-out.ensures c.in_ok-add_low.ensures c.in_ok-add_high.ensures
