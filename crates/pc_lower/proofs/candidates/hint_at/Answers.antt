use Rattle.pc_lower.proofs.Hinting.{hint_joined, hint_none}
use Rattle.pc_lower.proofs.candidates.hint_at.Goals as goal

pub returns-then-is_head : goal.returns-then-is_head
returns-then-is_head c =
    hint_joined c.args.g.now.points c.args.p c.is_head.result c.new-none.result c.tried.result.now c.joined.result c.is_head.ensures c.tried.ensures c.if-is_head.true c.new-none.ensures c.joined.ensures

pub returns-else-is_head : goal.returns-else-is_head
returns-else-is_head c = hint_none c.args.g.now.points c.args.p c.is_head.result c.new-none.result c.is_head.ensures c.if-is_head.false c.new-none.ensures
