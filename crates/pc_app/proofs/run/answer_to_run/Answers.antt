use Rattle.std.proofs.lemmas.Result.{err_from_is_err_and}
use Rattle.pc_program.specs.declared.program.Program.{Program}
use Rattle.pc_app.specs.Kinds.{source_kind, script_kind}
use Rattle.pc_app.specs.Run.{run}
use Rattle.pc_app.proofs.ReadingLemmas.{two_stop, two_go_on}
use Rattle.pc_app.proofs.run.answer_to_run.Goals as goal

pub returns-in_err-program-clause-answered : goal.returns-in_err-program-clause-answered
returns-in_err-program-clause-answered g c =
    let p = err_from_is_err_and c.from_residual.result c.from_residual.ensures.1 in
    let says = (run c.args.source.now c.args.script.now).Says in
    rw (p.1, p.2)
    (record {
      answered = two_stop source_kind c.args.source.now (λ (p : Program). script_kind p.names.params) c.args.script.now says (g.S.Store.holding c.args.store.now) (g.S.Store.faults c.args.store.now)
          (g.S.Store.faults c.source_in.new.store) c.in_err-program.field-0.0 c.in_err-program.ensures.answered;
    })

pub returns-clause-answered : goal.returns-clause-answered
returns-clause-answered g c =
    let says = (run c.args.source.now c.args.script.now).Says in
    record {
      answered = two_go_on source_kind c.args.source.now (λ (p : Program). script_kind p.names.params) c.args.script.now says (g.S.Store.holding c.args.store.now) (g.S.Store.faults c.args.store.now)
          _ _ c.in_ok-program.program c.source_in.ensures.counted c.in_ok-program.ensures.answered c.run_program.result
          (rw (c.source_in.ensures.kept c.args.script.now) at c.run_program.ensures.answered);
    }
