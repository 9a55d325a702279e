use Rattle.std.proofs.lemmas.Result.{err_from_is_err_and}
use Rattle.pc_app.specs.Kinds.{certificate_kind}
use Rattle.pc_app.specs.Subjects.{of_program}
use Rattle.pc_app.specs.Replay.{ReplaySays}
use Rattle.pc_app.proofs.ReadingLemmas.{rest_stops, rest_goes_on}
use Rattle.pc_app.proofs.replay.replay_program.Goals as goal

pub returns-in_err-certificate-clause-answered : goal.returns-in_err-certificate-clause-answered
returns-in_err-certificate-clause-answered g c =
    let p = err_from_is_err_and c.from_residual.result c.from_residual.ensures.1 in
    rw (p.1, p.2)
    (rest_stops certificate_kind (ReplaySays (of_program c.args.program.now)) (g.S.Store.holding c.args.store.now c.args.certificate.now) (g.S.Store.faults c.args.store.now)
    (g.S.Store.faults c.certificate_in.new.store) c.in_err-certificate.field-0.0 c.in_err-certificate.ensures.answered)

pub returns-clause-answered : goal.returns-clause-answered
returns-clause-answered g c =
    rest_goes_on certificate_kind (ReplaySays (of_program c.args.program.now)) _ _ _ c.in_ok-certificate.certificate c.in_ok-certificate.ensures.answered _ c.in_ok-ruled.ensures
