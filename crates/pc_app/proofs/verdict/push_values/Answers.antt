use Rattle.std.proofs.Common.{arith, rules, FitsSigned, to_z-of_z}
use Rattle.std.specs.Int.{w128}
use Rattle.std.proofs.lemmas.Bool.Decides.{nat_tests}
use Rattle.pc_app.proofs.VerdictLemmas.{next_value, no_values_left}
use Rattle.pc_app.proofs.verdict.push_values.Goals as goal

pub returns-in_default : goal.returns-in_default
returns-in_default c =
    let none = c.in_default.ensures.lookup in
    no_values_left c.loop-i.text _ c.args.names.now.names c.args.state.now c.loop-i.i (grind (arith, nat_tests)) c.loop-i.invariant

pub loop-i-preserved : goal.loop-i-preserved
loop-i-preserved c =
    let fits : FitsSigned w128 c.in-Some.value.now = search rules in
    let added = c.in_ok-push_value.ensures in
    let some = c.in-Some.ensures.lookup in
    rw (simp to_z-of_z at added) (next_value c.loop-i.text _ c.args.names.now.names c.args.state.now c.loop-i.i c.at.result.now c.in-Some.value.now c.at.ensures (grind (arith, nat_tests)) (some.1) c.loop-i.invariant)
