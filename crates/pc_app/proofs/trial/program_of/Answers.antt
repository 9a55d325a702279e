use Rattle.pc_app.proofs.TrialLemmas.{only_memory}
use Rattle.pc_app.proofs.trial.program_of.Goals as goal

pub wanting-requires : goal.wanting-requires
wanting-requires c = only_memory c.args.loops c.args.source.now c.in-Err.fault c.requires.loops c.requires.made (rw c.in-Err.is at c.read.ensures.only)
