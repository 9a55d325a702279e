use Rattle.std.proofs.Common.{◌∙◌, ◌++◌, [], ◌∷◌, ap, arith, List}
use Rattle.pc_rows.specs.Linear.{Linear}
use Rattle.pc_elim.specs.declared.made.TheConstants.{PARTS}
use Rattle.pc_elim.specs.Elimination.{Made, unit, started}
use Rattle.pc_elim.proofs.Starting.{started_next, started_end}
use Rattle.pc_elim.proofs.decision.started.Goals as goal

pub loop-i-preserved : goal.loop-i-preserved
loop-i-preserved c =
    c.in_ok-add.ensures
    ∙ ap (λ (z : List Made). z ++ (record { row = c.premise.result.now; multipliers = unit PARTS c.loop-i.i }) ∷ []) c.loop-i.invariant
    ∙ started_next PARTS c.loop-i.i c.args.s.now.premises c.premise.result.now c.premise.ensures

pub returns-clause-rows : goal.returns-clause-rows
returns-clause-rows c =
    c.in_ok-add-2.ensures
    ∙ started_end PARTS c.loop-i.i c.len-premises.result c.args.s.now.premises c.args.negated.now c.loop-i.rows (omega arith) c.len-premises.ensures.value c.loop-i.invariant
    ∙ ap (λ (r : Linear). started PARTS (c.args.s.now.premises ++ r ∷ [])) c.requires
