use Rattle.std.proofs.Common.{◌≡◌, ◌∙◌, sym, rules}
use Rattle.pc_breach.proofs.Stepping.{carried_at, row_found, row_next}
use Rattle.pc_breach.proofs.step.carried_step.Goals as goal

pub comes_from-requires : goal.comes_from-requires
comes_from-requires c = carried_at c.args.e.now.what c.args.rows.now c.loop-i.i c.at-z.result.now c.requires c.at-z.ensures

pub returns-then-comes_from : goal.returns-then-comes_from
returns-then-comes_from c =
    let to : c.e.inside.to ≡ c.args.e.now.to = search rules in
    let found = row_found (record { first = c.args.first; only = c.args.only }) c.args.e.now c.args.r.now c.args.rows.now c.loop-i.i c.at-z.result.now c.at-z.ensures c.loop-i.invariant
    (sym c.comes_from.ensures ∙ c.if-comes_from.true) in
    rw (c.choice.ensures, to, c.copy.ensures.value) found

pub loop-i-preserved : goal.loop-i-preserved
loop-i-preserved c =
    row_next (record { first = c.args.first; only = c.args.only }) c.args.e.now c.args.r.now c.args.rows.now c.loop-i.i c.at-z.result.now c.at-z.ensures c.loop-i.invariant
    (sym c.comes_from.ensures ∙ c.if-comes_from.false)
