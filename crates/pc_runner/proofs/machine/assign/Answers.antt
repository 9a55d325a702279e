use Rattle.std.proofs.Common.{◌∙◌, Ok, FitsSigned, ap, sym, rules}
use Rattle.std.specs.Int.{w128}
use Rattle.std.proofs.lemmas.Int.{to_z-of_z}
use Rattle.pc_runner.proofs.machine.assign.Goals as goal

pub returns : goal.returns
returns c =
    let fits : FitsSigned w128 c.in_ok-value.value = search rules in
    let chosen : FitsSigned w128 c.args.choice = search rules in
    let gives = simp (to_z-of_z, c.as_slice.ensures) at c.value_to_assign.ensures in
    let puts = simp to_z-of_z at c.put.ensures in
    let value = sym gives ∙ c.in_ok-value.was in
    rw value (ap Ok (sym puts))
