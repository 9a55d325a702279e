use Rattle.pc_replay.proofs.Sound as sound
use Rattle.pc_replay.proofs.laws.accepted_is_safe.Goals as goal

pub returns : goal.returns
returns c = sound.accepted_is_safe
