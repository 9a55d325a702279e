use Rattle.std.proofs.Common.{rules, refl, inr}
use Rattle.std.proofs.lemmas.Result.{err_from_is_err_and}
use Rattle.pc_app.specs.Kinds.{certificate_kind}
use Rattle.pc_app.specs.Causes.{IsLost}
use Rattle.pc_app.proofs.ReadingLemmas.{bytes_stop}
use Rattle.pc_app.proofs.ScriptLemmas.{no_certificate}
use Rattle.pc_app.proofs.files.certificate_in.Goals as goal

pub returns-in_err-bytes-clause-answered : goal.returns-in_err-bytes-clause-answered
returns-in_err-bytes-clause-answered g c =
    let p = err_from_is_err_and c.from_residual.result c.from_residual.ensures.1 in
    let held = g.S.Store.holding c.args.store.now c.args.name.now in
    rw (p.1, p.2) (bytes_stop certificate_kind held (IsLost held (g.S.Store.faults c.args.store.now) (g.S.Store.faults c.bytes_in.new.store)) c.in_err-bytes.field-0.0 c.in_err-bytes.ensures.stops)

pub returns : goal.returns
returns g c =
    record {
      answered = inr (record {
        bytes = c.in_ok-bytes.bytes.items;
        has = c.in_ok-bytes.ensures.bytes;
        fault = c.in-Err.fault;
        faulty = rw c.as_slice.ensures.value at (no_certificate _ c.in-Err.fault (search rules) c.in-Err.ensures.means);
        status_is = refl;
        text_is = c.in_ok-malformed_certificate-in-Err.ensures;
      });
      counted = c.bytes_in.ensures.counted;
      kept = c.bytes_in.ensures.kept;
    }
