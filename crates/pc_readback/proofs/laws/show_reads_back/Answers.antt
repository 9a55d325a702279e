use Rattle.pc_readback.proofs.ReadBack.{show_reads_back, nothing_else_reads_back}
use Rattle.pc_readback.proofs.laws.show_reads_back.Goals as goal

pub returns-clause-spelled : goal.returns-clause-spelled
returns-clause-spelled c = show_reads_back

pub returns-clause-only : goal.returns-clause-only
returns-clause-only c = nothing_else_reads_back
