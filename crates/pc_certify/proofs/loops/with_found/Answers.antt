use Rattle.pc_certify.proofs.Choosing.{chosen_entry}
use Rattle.pc_certify.proofs.loops.with_found.Goals as goal

pub select-requires-clause-entry : goal.select-requires-clause-entry
select-requires-clause-entry c = chosen_entry c.args.g.now c.args.found c.in_ok-a.field-0 c.in-Some.a c.in-Some.is c.entry_edge-start.ensures.start c.in_ok-a.ensures
