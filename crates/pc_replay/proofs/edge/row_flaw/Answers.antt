use Rattle.pc_flow.specs.Carry.{premises}
use Rattle.pc_replay.proofs.Flawless.{row_past, row_found}
use Rattle.pc_replay.proofs.edge.row_flaw.Goals as goal

pub returns-in-Ok : goal.returns-in-Ok
returns-in-Ok c =
    row_found c.args.e.now.what (premises c.args.e.now.what c.args.source.now) c.args.r.now c.args.p.now c.in-Ok.goal c.flaw.result c.in-Ok.ensures
    c.flaw.ensures

pub returns-in-Err : goal.returns-in-Err
returns-in-Err c = row_past c.args.e.now.what (premises c.args.e.now.what c.args.source.now) c.args.r.now c.args.p.now c.in-Err.ensures
