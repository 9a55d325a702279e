use Rattle.std.proofs.Common.{◌≤◌, subst, sym, true≢false}
use Rattle.pc_rows.specs.Evidence.{IsPart}
use Rattle.pc_json.proofs.Numerals.{other_part}
use Rattle.pc_json.proofs.proofs.part_of.Goals as goal

pub returns-else-may_follow : goal.returns-else-may_follow
returns-else-may_follow c p risen is e =
    let same = other_part p (record { index = c.in_ok-index.index; multiplier = c.in_ok-multiplier.multiplier }) _ _ c.in_ok-index.ensures.1 c.in_ok-multiplier.ensures.1 e in
    true≢false (sym (c.if-may_follow.ensures.1 (subst (λ q. (c.args.least ≤ q.index) × IsPart q) same (risen, is))))
