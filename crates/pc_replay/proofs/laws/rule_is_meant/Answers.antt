use Rattle.pc_replay.proofs.Flawless.{flaws_are_meant}
use Rattle.pc_flow.proofs.Asked.{owed_is_asked}
use Rattle.pc_replay.proofs.Ruled as ruled
use Rattle.pc_replay.proofs.laws.rule_is_meant.Goals as goal

pub returns-clause-accepted : goal.returns-clause-accepted
returns-clause-accepted c = ruled.rule_is_meant

pub returns-clause-flaws : goal.returns-clause-flaws
returns-clause-flaws c = flaws_are_meant

pub returns-clause-owed : goal.returns-clause-owed
returns-clause-owed c = owed_is_asked
