use Rattle.pc_app.specs.Kinds.{script_kind}
use Rattle.pc_app.specs.Breach.{BreachSays}
use Rattle.pc_app.specs.Reading.{chosen}
use Rattle.pc_app.proofs.BreachLemmas.{says_answer}
use Rattle.pc_app.proofs.ReadingLemmas.{rest_goes_on}
use Rattle.pc_app.proofs.ScriptLemmas.{as_many_values}
use Rattle.pc_app.proofs.breach.breach_program.Goals as goal

pub sought-requires-clause-values : goal.sought-requires-clause-values
sought-requires-clause-values g c = as_many_values _ _ _ (rw c.params.ensures at c.in_ok-script.ensures.answered.means)

pub returns-clause-answered : goal.returns-clause-answered
returns-clause-answered g c =
    rest_goes_on (script_kind c.args.program.now.names.params) (BreachSays c.args.program.now) _ _ _ (chosen c.in_ok-script.script) (rw c.params.ensures at c.in_ok-script.ensures.answered) _
    (says_answer c.args.program.now (chosen c.in_ok-script.script) _ _ c.in_ok-sought.ensures)
