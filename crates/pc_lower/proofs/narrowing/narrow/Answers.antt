use Rattle.pc_lower.proofs.Narrowings.{early_states, late_states}
use Rattle.pc_lower.proofs.narrowing.narrow.Goals as goal

pub returns-then-round-lt-JOINING_ROUNDS-clause-states : goal.returns-then-round-lt-JOINING_ROUNDS-clause-states
returns-then-round-lt-JOINING_ROUNDS-clause-states c = early_states c.args.old.now c.args.newer.now c.reduced_join.result c.reduced_join.ensures

pub returns-else-round-lt-JOINING_ROUNDS-clause-states : goal.returns-else-round-lt-JOINING_ROUNDS-clause-states
returns-else-round-lt-JOINING_ROUNDS-clause-states c = late_states c.args.old.now c.args.newer.now c.kept.result c.kept.ensures
