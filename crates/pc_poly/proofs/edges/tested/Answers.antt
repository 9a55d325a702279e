use Rattle.std.proofs.Common.{◌∙◌, sym, ap, subst, List, Some, None, false, Ok}
use Rattle.pc_rows.specs.Linear.{Linear}
use Rattle.pc_entail.specs.Showing.{ContradictoryIs}
use Rattle.pc_poly.proofs.Testing.{joined_is, none_tested, tested_states, tested_says}
use Rattle.pc_poly.proofs.edges.tested.Goals as goal

pub returns-then-branch-clause-states : goal.returns-then-branch-clause-states
returns-then-branch-clause-states c s =
    let p = c.args.p.now in
    let own = c.args.own.now in
    let is = joined_is p.rows own c.in_ok-rows.rows c.gather.new.rows c.in_ok-rows.ensures c.in_ok-gather.ensures in
    tested_states p own None s (none_tested p own c.gather.new.rows is (c.in_ok-is_contradictory.ensures.states c.if-branch.true))

pub returns-then-branch-clause-view : goal.returns-then-branch-clause-view
returns-then-branch-clause-view c =
    let p = c.args.p.now in
    let own = c.args.own.now in
    let is = joined_is p.rows own c.in_ok-rows.rows c.gather.new.rows c.in_ok-rows.ensures c.in_ok-gather.ensures in
    tested_says p own None (none_tested p own c.gather.new.rows is (c.in_ok-is_contradictory.ensures.states c.if-branch.true))

pub returns-clause-states : goal.returns-clause-states
returns-clause-states c s =
    let p = c.args.p.now in
    let own = c.args.own.now in
    let is = joined_is p.rows own c.in_ok-rows.rows c.gather.new.rows c.in_ok-rows.ensures c.in_ok-gather.ensures in
    tested_states p own (Some c.with.result) s (ap (λ q. q.rows) c.with.ensures ∙ is)

pub returns-clause-view : goal.returns-clause-view
returns-clause-view c =
    let p = c.args.p.now in
    let own = c.args.own.now in
    let is = joined_is p.rows own c.in_ok-rows.rows c.gather.new.rows c.in_ok-rows.ensures c.in_ok-gather.ensures in
    tested_says p own (Some c.with.result) (ap (λ q. q.rows) c.with.ensures ∙ is)

pub returns-clause-coherent : goal.returns-clause-coherent
returns-clause-coherent c =
    subst (λ (rows : List Linear). ContradictoryIs rows (Ok false)) (sym (ap (λ q. q.rows) c.with.ensures)) (c.in_ok-is_contradictory.ensures.evidence c.if-branch.false)
