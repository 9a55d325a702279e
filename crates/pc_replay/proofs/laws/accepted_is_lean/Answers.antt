use Rattle.pc_replay.proofs.Lean as lean
use Rattle.pc_replay.proofs.laws.accepted_is_lean.Goals as goal

pub returns : goal.returns
returns c = lean.accepted_is_lean
