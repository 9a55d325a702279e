use Rattle.std.proofs.Common.{◌∙◌, ap, arith}
use Rattle.pc_rows.specs.Evidence.{System}
use Rattle.pc_entail.proofs.Renewing.{asked_anew, renewing_more, renewing_fails}
use Rattle.pc_entail.proofs.Leaving.{renews_anew, renews_next, renews_stuck, renews_last}
use Rattle.pc_entail.proofs.renewal.renewed.Goals as goal

pub returns-in-None-clause-exact : goal.returns-in-None-clause-exact
returns-in-None-clause-exact c =
    let rows = c.args.system.now.premises in
    let anew = renews_anew rows c.loop-old.system.premises c.copy.result c.args.place c.args.gone.now c.old-item.result c.ask.new.self c.in_ok-proof.field-0 c.ask.ensures c.loop-old.invariant.premises c.in_ok-proof.ensures.exact in
    renews_stuck rows c.args.place c.args.gone.now c.args.removed.now c.loop-old.old-index c.loop-old.all c.old-item.result c.loop-old-test.true c.old-item.is (rw c.in-None.is at anew) c.loop-old.invariant.renews

pub returns-in-None-clause-evidence : goal.returns-in-None-clause-evidence
returns-in-None-clause-evidence c =
    let rows = c.args.system.now.premises in
    let found = asked_anew rows c.loop-old.system.premises c.copy.result c.old-item.result.row c.ask.new.self c.in_ok-proof.field-0 c.ask.ensures c.loop-old.invariant.premises c.in_ok-proof.ensures.evidence in
    renewing_fails rows c.args.removed.now c.loop-old.old-index c.loop-old.all c.old-item.result c.loop-old-test.true c.old-item.is (rw c.in-None.is at found) c.loop-old.invariant.so_far

pub loop-old-preserved : goal.loop-old-preserved
loop-old-preserved c =
    let rows = c.args.system.now.premises in
    let found = asked_anew rows c.loop-old.system.premises c.copy.result c.old-item.result.row c.ask.new.self c.in_ok-proof.field-0 c.ask.ensures c.loop-old.invariant.premises c.in_ok-proof.ensures.evidence in
    let anew = renews_anew rows c.loop-old.system.premises c.copy.result c.args.place c.args.gone.now c.old-item.result c.ask.new.self c.in_ok-proof.field-0 c.ask.ensures c.loop-old.invariant.premises c.in_ok-proof.ensures.exact in
    record {
      premises = ap (λ (s : System). s.premises) c.ask.ensures ∙ c.loop-old.invariant.premises;
      so_far = renewing_more rows c.args.removed.now c.loop-old.old-index c.loop-old.all c.put.new.all c.old-item.result c.in-Some.proof c.loop-old-test.true c.old-item.is (rw c.in-Some.is at found) c.in_ok-put-in-Some.ensures c.loop-old.invariant.so_far;
      renews = renews_next rows c.args.place c.args.gone.now c.args.removed.now c.loop-old.old-index c.loop-old.all c.put.new.all c.old-item.result c.in-Some.proof c.loop-old-test.true c.old-item.is (rw c.in-Some.is at anew) c.in_ok-put-in-Some.ensures c.loop-old.invariant.renews;
    }

pub returns-clause-exact : goal.returns-clause-exact
returns-clause-exact c = renews_last c.args.system.now.premises c.args.place c.args.gone.now c.args.removed.now c.loop-old.old-index c.loop-old.all (let past = c.loop-old-test.false in omega arith) c.loop-old.invariant.renews
