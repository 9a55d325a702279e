use Rattle.std.proofs.Common.{◌+◌, List, take, sym, subst}
use Rattle.pc_rows.specs.Evidence.{Proof}
use Rattle.pc_flow.specs.Carry.{asked, premises}
use Rattle.pc_replay.specs.Accepts.{RowProved}
use Rattle.pc_certify.specs.Causes.{RowFails}
use Rattle.pc_certify.specs.Lists.{Pairwise}
use Rattle.pc_certify.proofs.Pairs.{any_got, pairs_more}
use Rattle.pc_certify.proofs.Proofs.{row_none, row_some}
use Rattle.pc_certify.proofs.edge.asked_proofs.Goals as goal

pub returns-in-None-clause-proofs : goal.returns-in-None-clause-proofs
returns-in-None-clause-proofs c =
    let origin = c.args.origin.now in
    let w = origin.edge.now.what in
    let all = premises w origin.rows.now in
    any_got (RowFails origin.head w all) (asked w c.args.target.now) c.loop-k.k c.asked.result.now
    (row_none origin.head w all c.asked.result.now c.in_ok-proof.field-0 c.in-None.is c.in_ok-proof.ensures) c.asked.ensures

pub loop-k-preserved : goal.loop-k-preserved
loop-k-preserved c =
    let origin = c.args.origin.now in
    let w = origin.edge.now.what in
    let all = premises w origin.rows.now in
    let rows = asked w c.args.target.now in
    let proved = row_some origin.head w all c.asked.result.now c.in_ok-proof.field-0 c.in-Some.proof c.in-Some.is c.in_ok-proof.ensures in
    subst (λ (ps : List Proof). Pairwise (RowProved w all) (take (c.loop-k.k + 1) rows) ps) (sym c.in_ok-push-in-Some.ensures)
    (pairs_more (RowProved w all) rows c.loop-k.k c.asked.result.now c.loop-k.proofs c.in-Some.proof c.asked.ensures c.loop-k.invariant proved)
