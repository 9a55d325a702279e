use Rattle.std.proofs.Common.{◌∙◌, ◌++◌, ◌-◌, sym, ap, arith, List, take}
use Rattle.std.proofs.lemmas.List.{length-set, take_all, append-nil}
use Rattle.pc_rows.specs.declared.row.TheConstants.{VARIABLES}
use Rattle.pc_simplex.specs.declared.label.Label.{Label}
use Rattle.pc_simplex.specs.declared.label.Label.TheVariants.{Variable}
use Rattle.pc_simplex.specs.Turns.{variables_from}
use Rattle.pc_simplex.proofs.Counting.{variables_next, variables_end}
use Rattle.pc_simplex.proofs.Places.{written}
use Rattle.pc_simplex.proofs.table.variables.Goals as goal

pub loop-v-preserved : goal.loop-v-preserved
loop-v-preserved c = record {
  long = length-set c.loop-v.all c.loop-v.v (Variable c.loop-v.v) ∙ c.loop-v.invariant.long;
  rest = written c.loop-v.all c.loop-v.v (Variable c.loop-v.v) _ (variables_from (VARIABLES - c.loop-v.v) c.loop-v.v) _ (omega (arith, c.loop-v.invariant.long)) (variables_next VARIABLES c.loop-v.v (omega arith)) c.loop-v.invariant.rest;
}

pub returns : goal.returns
returns c =
    sym (take_all c.loop-v.v c.loop-v.all (omega (arith, c.loop-v.invariant.long)))
    ∙ sym (append-nil (take c.loop-v.v c.loop-v.all))
    ∙ ap (λ (z : List Label). take c.loop-v.v c.loop-v.all ++ z) (sym (variables_end VARIABLES c.loop-v.v (omega arith)))
    ∙ c.loop-v.invariant.rest
