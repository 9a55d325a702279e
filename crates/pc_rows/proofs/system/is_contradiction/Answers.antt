use Rattle.pc_rows.proofs.Checking.{computed, not_computed}
use Rattle.pc_rows.proofs.system.is_contradiction.Goals as goal

pub returns-in-Ok : goal.returns-in-Ok
returns-in-Ok c = computed c.args.s.now.premises c.args.s.now.goal c.args.p.now c.in-Ok.total c.is_never.result c.in-Ok.ensures c.is_never.ensures

pub returns-in-Err : goal.returns-in-Err
returns-in-Err c = not_computed c.args.s.now.premises c.args.s.now.goal c.args.p.now c.in-Err.ensures
