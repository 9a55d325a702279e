use Rattle.std.proofs.Common.{arith}
use Rattle.pc_app.proofs.FileLemmas.{is_too_long}
use Rattle.pc_app.proofs.files.bytes_in.Goals as goal

pub returns-in_ok-one_line-in-Ok-clause-stops : goal.returns-in_ok-one_line-in-Ok-clause-stops
returns-in_ok-one_line-in-Ok-clause-stops g c =
    is_too_long c.args.limit c.args.long.now _ c.in-Ok.bytes.items _ _ c.in-Ok.ensures.taken (omega arith) c.in_ok-one_line-in-Ok.ensures.0 c.in_ok-one_line-in-Ok.ensures.1
