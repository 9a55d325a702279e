use Rattle.std.proofs.Common.{sym, ◌∙◌}
use Rattle.pc_elim.proofs.Contradicting.{kept_some, kept_none}
use Rattle.pc_elim.proofs.contradiction.last_contradiction.Goals as goal

pub returns-in-Some : goal.returns-in-Some
returns-in-Some c = kept_some c.args.k c.args.rows.now c.in_ok-_count._count (sym c.are_small.ensures ∙ c.if-not-are_small.false) c.in_ok-_count.ensures c.in-Some.multipliers (sym c.in-Some.is ∙ c.kept.ensures)

pub returns : goal.returns
returns c = kept_none c.args.k c.args.rows.now c.in_ok-_count._count (sym c.are_small.ensures ∙ c.if-not-are_small.false) c.in_ok-_count.ensures c.each.result (sym c.in-None.is ∙ c.kept.ensures) c.each.ensures
