use Rattle.std.proofs.lemmas.Result.{err_from_is_err_and}
use Rattle.pc_app.specs.Kinds.{source_kind, certificate_kind}
use Rattle.pc_app.specs.Replay.{replay}
use Rattle.pc_app.proofs.ReadingLemmas.{two_stop, two_go_on}
use Rattle.pc_app.proofs.replay.answer_to_replay.Goals as goal

pub returns-in_err-program-clause-answered : goal.returns-in_err-program-clause-answered
returns-in_err-program-clause-answered g c =
    let p = err_from_is_err_and c.from_residual.result c.from_residual.ensures.1 in
    let says = (replay c.args.source.now c.args.certificate.now).Says in
    rw (p.1, p.2)
    (record {
      answered = two_stop source_kind c.args.source.now (λ p. certificate_kind) c.args.certificate.now says (g.S.Store.holding c.args.store.now) (g.S.Store.faults c.args.store.now)
          (g.S.Store.faults c.source_in.new.store) c.in_err-program.field-0.0 c.in_err-program.ensures.answered;
    })

pub returns-clause-answered : goal.returns-clause-answered
returns-clause-answered g c =
    let says = (replay c.args.source.now c.args.certificate.now).Says in
    record {
      answered = two_go_on source_kind c.args.source.now (λ p. certificate_kind) c.args.certificate.now says (g.S.Store.holding c.args.store.now) (g.S.Store.faults c.args.store.now)
          _ _ c.in_ok-program.program c.source_in.ensures.counted c.in_ok-program.ensures.answered c.replay_program.result
          (rw (c.source_in.ensures.kept c.args.certificate.now) at c.replay_program.ensures.answered);
    }
