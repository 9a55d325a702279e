use Rattle.std.proofs.Common.{◌≡◌, length, sym, subst, rules}
use Rattle.std.specs.Prelude.{All}
use Rattle.pc_rows.specs.Linear.{IsOver}
use Rattle.pc_facts.specs.Quick.{over_parameters}
use Rattle.pc_facts.proofs.QuickConditions.{over_names, quick_unless}
use Rattle.pc_facts.proofs.quick.show_quick.Goals as goal

pub condition_of-requires : goal.condition_of-requires
condition_of-requires g c =
    let n = length c.args.names.now.names in
    let is : c.in_ok-over.over ≡ over_parameters c.args.g.now.params c.in_ok-rows.rows = search rules in
    subst (All (IsOver n)) (sym is) (over_names c.args.g.now.params n c.in_ok-rows.rows c.requires)

pub returns : goal.returns
returns g c =
    let is : c.in_ok-over.over ≡ over_parameters c.args.g.now.params c.in_ok-rows.rows = search rules in
    quick_unless g.B.Backward c.args.g.now c.args.names.now.names c.in_ok-rows.rows c.in_ok-over.over c.condition_of.result c.in_ok-rows.ensures is c.condition_of.ensures
