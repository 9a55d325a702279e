use Rattle.pc_entail.proofs.Settling.{tells_all_alone, shows_all_alone}
use Rattle.pc_entail.proofs.entailment.shows_all.Goals as goal

pub returns-clause-exact : goal.returns-clause-exact
returns-clause-exact c = tells_all_alone c.args.a.now c.args.b.now c.show_all-2.result (rw c.new.ensures at c.show_all-2.ensures.exact)

pub returns-clause-evidence : goal.returns-clause-evidence
returns-clause-evidence c = shows_all_alone c.args.a.now c.args.b.now c.show_all-2.result (rw c.new.ensures at c.show_all-2.ensures.evidence)
