use Rattle.pc_entail.proofs.Leaving.{renews_checked, renews_found}
use Rattle.pc_entail.proofs.renewal.renew.Goals as goal

pub returns-in-Some-clause-exact : goal.returns-in-Some-clause-exact
returns-in-Some-clause-exact c = renews_checked c.args.system.now c.args.place c.args.gone.now c.args.old.now c.requires c.in-Some.guess c.checked.result (rw c.in-Some.is at c.in_ok-guess.ensures) c.checked.ensures.exact

pub returns-in-None-clause-exact : goal.returns-in-None-clause-exact
returns-in-None-clause-exact c = renews_found c.args.system.now c.args.place c.args.gone.now c.args.old.now c.requires c.found.result (rw c.in-None.is at c.in_ok-guess.ensures) c.found.ensures.exact
