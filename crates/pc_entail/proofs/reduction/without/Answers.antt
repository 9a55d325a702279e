use Rattle.std.proofs.Common.{◌++◌}
use Rattle.pc_entail.specs.Steps.{rows_of}
use Rattle.pc_entail.proofs.Finding.{unknown_stays}
use Rattle.pc_entail.proofs.Renewing.{asked_found, asked_renewed, with_row}
use Rattle.pc_entail.proofs.Leaving.{goes_with, stays_without}
use Rattle.pc_entail.proofs.reduction.without.Goals as goal

pub returns-in-Some-clause-exact : goal.returns-in-Some-clause-exact
returns-in-Some-clause-exact c = goes_with c.args.kept.now c.args.removed.now c.args.r.now c.args.later.now c.in_ok-system.system c.in_ok-system.ensures c.len.result c.len.ensures.value c.in-Some.gone c.in_ok-renewed-in-Some.field-0 c.with.result (rw c.in-Some.is at c.in_ok-gone.ensures.exact) c.in_ok-renewed-in-Some.ensures.exact c.with.ensures

pub returns-in-Some-clause-evidence : goal.returns-in-Some-clause-evidence
returns-in-Some-clause-evidence c =
    let rows = c.args.kept.now ++ c.args.later.now in
    let removed = c.args.removed.now in
    let gone = asked_found rows c.args.r.now c.in_ok-system.system c.in_ok-gone.field-0 c.in_ok-system.ensures c.in_ok-gone.ensures.evidence in
    let all = asked_renewed rows c.args.r.now c.in_ok-system.system removed c.in_ok-renewed-in-Some.field-0 c.in_ok-system.ensures c.in_ok-renewed-in-Some.ensures.evidence in
    with_row rows removed c.args.r.now c.in-Some.gone c.in_ok-renewed-in-Some.field-0 c.with.result all (rw c.in-Some.is at gone) c.with.ensures

pub returns-clause-exact : goal.returns-clause-exact
returns-clause-exact c = stays_without c.args.kept.now c.args.removed.now c.args.r.now c.args.later.now c.in_ok-system.system c.in_ok-system.ensures (rw c.in-None.is at c.in_ok-gone.ensures.exact)

pub returns-clause-evidence : goal.returns-clause-evidence
returns-clause-evidence c =
    let rows = c.args.kept.now ++ c.args.later.now in
    let found = asked_found rows c.args.r.now c.in_ok-system.system c.in_ok-gone.field-0 c.in_ok-system.ensures c.in_ok-gone.ensures.evidence in
    unknown_stays rows (rows_of c.args.removed.now) c.args.r.now (rw c.in-None.is at found)
