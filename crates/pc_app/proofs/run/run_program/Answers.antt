use Rattle.std.proofs.lemmas.Result.{err_from_is_err_and}
use Rattle.pc_app.specs.Kinds.{script_kind}
use Rattle.pc_app.specs.Run.{RunSays}
use Rattle.pc_app.specs.Reading.{chosen}
use Rattle.pc_app.proofs.ScriptLemmas.{as_many_values}
use Rattle.pc_app.proofs.ReadingLemmas.{rest_stops, rest_goes_on}
use Rattle.pc_app.proofs.run.run_program.Goals as goal

pub run-requires : goal.run-requires
run-requires g c = as_many_values _ _ _ (rw c.params.ensures at c.in_ok-script.ensures.answered.means)

pub returns-in_err-script-clause-answered : goal.returns-in_err-script-clause-answered
returns-in_err-script-clause-answered g c =
    let p = err_from_is_err_and c.from_residual.result c.from_residual.ensures.1 in
    rw (p.1, p.2)
    (rest_stops (script_kind c.args.program.now.names.params) (RunSays c.args.program.now) (g.S.Store.holding c.args.store.now c.args.script.now) (g.S.Store.faults c.args.store.now)
    (g.S.Store.faults c.script_in.new.store) c.in_err-script.field-0.0 (rw c.params.ensures at c.in_err-script.ensures.answered))

pub returns-clause-answered : goal.returns-clause-answered
returns-clause-answered g c =
    let a = c.in_ok-answer_of_verdict.ensures in
    rest_goes_on (script_kind c.args.program.now.names.params) (RunSays c.args.program.now) _ _ _ (chosen c.in_ok-script.script) (rw c.params.ensures at c.in_ok-script.ensures.answered) _
    (record { verdict = c.in_ok-verdict.verdict; says = c.in_ok-verdict.ensures.says; status_is = a.0; text_is = rw c.len.ensures at a.1 })
