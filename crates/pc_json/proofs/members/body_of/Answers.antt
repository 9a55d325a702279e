use Rattle.std.proofs.Common.{refl, sym, true≢false}
use Rattle.pc_json.proofs.Keys.{two_over, none_in}
use Rattle.pc_json.proofs.members.body_of.Goals as goal

pub returns : goal.returns
returns c = (refl, two_over c.in_ok-proofs.ensures c.in_ok-rows.ensures (λ e. true≢false (sym (c.if-is_empty.ensures.1 (none_in _ e)))))
