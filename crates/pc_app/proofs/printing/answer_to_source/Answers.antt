use Rattle.std.proofs.Common.{refl}
use Rattle.std.proofs.lemmas.Result.{err_from_is_err_and}
use Rattle.pc_app.specs.Files.OnFile.{IsRead}
use Rattle.pc_app.specs.Kinds.{source_kind}
use Rattle.pc_app.proofs.ReadingLemmas.{one_stops}
use Rattle.pc_app.proofs.printing.answer_to_source.Goals as goal

pub returns-in_err-program-clause-answered : goal.returns-in_err-program-clause-answered
returns-in_err-program-clause-answered g c =
    let p = err_from_is_err_and c.from_residual.result c.from_residual.ensures.1 in
    rw (p.1, p.2)
    (record {
      answered = one_stops source_kind _ (g.S.Store.holding c.args.store.now) (g.S.Store.faults c.args.store.now) (g.S.Store.faults c.source_in.new.store) c.args.source.now c.in_err-program.field-0.0
          c.in_err-program.ensures.answered;
    })

pub returns-clause-answered : goal.returns-clause-answered
returns-clause-answered g c = record { answered = IsRead c.in_ok-program.program c.in_ok-program.ensures.answered (refl, c.in_ok-text.ensures) }
