use Rattle.std.proofs.Common.{sym, ap, ◌∙◌}
use Rattle.std.specs.Prelude.{nat_lt}
use Rattle.std.specs.List.{list_all}
use Rattle.std.proofs.lemmas.Bool.{lt-ltb, le-ltb}
use Rattle.pc_rows.specs.declared.proof.Part.{Part}
use Rattle.pc_replay.proofs.Turns.{all_fail, all_go_on}
use Rattle.pc_replay.proofs.proof.names_premises.Goals as goal

pub returns-then-count-at : goal.returns-then-count-at
returns-then-count-at c =
    let test = λ (q : Part). nat_lt q.index c.args.count in
    let fails = all_fail c.parts-parts.result.now c.loop-i.i c.at.result c.at.ensures test _ (le-ltb c.at.result.index c.args.count c.if-count-at.true) c.loop-i.invariant in
    sym (ap (list_all test) (sym c.parts-parts.ensures) ∙ fails)

pub loop-i-preserved : goal.loop-i-preserved
loop-i-preserved c =
    all_go_on c.parts-parts.result.now c.loop-i.i c.at.result c.at.ensures (λ (q : Part). nat_lt q.index c.args.count) _ (lt-ltb c.at.result.index c.args.count c.if-count-at.false)
    c.loop-i.invariant
