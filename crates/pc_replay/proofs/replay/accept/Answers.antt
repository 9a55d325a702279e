use Rattle.std.proofs.Common.{sym, ◌∙◌}
use Rattle.pc_replay.proofs.Ruled.{rule_is_meant}
use Rattle.pc_replay.proofs.Sound.{accepted_is_safe}
use Rattle.pc_replay.proofs.replay.accept.Goals as goal

pub returns-clause-accepted : goal.returns-clause-accepted
returns-clause-accepted c =
    let meant = rule_is_meant c.args.g.now c.args.c.now in
    ((λ h. meant.0 (sym c.ruling.ensures.rule ∙ h)), (λ h. c.ruling.ensures.rule ∙ meant.1 h))

pub returns-clause-safe : goal.returns-clause-safe
returns-clause-safe c = λ h.
    accepted_is_safe c.args.g.now c.args.c.now c.ruling.ensures.graph ((rule_is_meant c.args.g.now c.args.c.now).0 (sym c.ruling.ensures.rule ∙ h))
