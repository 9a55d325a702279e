use Rattle.std.proofs.Common.{◌∙◌, ap, arith}
use Rattle.pc_poly.proofs.Entering.{between_first, between_step, between_last}
use Rattle.pc_poly.proofs.edges.entered.Goals as goal

pub loop-v-init : goal.loop-v-init
loop-v-init c = record {
  states = between_first c.args.params c.args.p.now.rows c.in_ok-rows.rows c.in_ok-rows.ensures;
  none = λ le none. c.in_ok-rows.ensures ∙ none;
}

pub loop-v-preserved : goal.loop-v-preserved
loop-v-preserved c = record {
  states = between_step c.args.params c.loop-v.v c.loop-v.rows c.in_ok-rows-2.rows c.args.p.now.rows c.loop-v.auto.v c.in_ok-rows-2.ensures.states c.loop-v.invariant.states;
  none = λ le none. c.in_ok-rows-2.ensures.none (omega (arith, le, c.loop-v.auto.v)) (c.loop-v.invariant.none le none);
}

pub returns-clause-states : goal.returns-clause-states
returns-clause-states c = between_last c.args.params c.loop-v.v c.loop-v.rows c.with.result.rows c.args.p.now.rows c.loop-v-test.false c.len-few.ensures.rows (ap (λ p. p.rows) c.with.ensures) c.loop-v.invariant.states
