use Rattle.std.proofs.Common.{◌≡◌, take}
use Rattle.pc_condition.specs.Conditions.{rows_text}
use Rattle.pc_condition.proofs.rows.text_of_some.Given as goal

abbrev pub invariant-loop-i : goal.invariant-loop-i
invariant-loop-i g l = l.text ≡ rows_text l.names.names (take l.i (g.L.RowList.listed l.rows))
