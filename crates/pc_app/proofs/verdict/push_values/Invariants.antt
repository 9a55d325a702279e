use Rattle.std.proofs.Common.{◌≡◌}
use Rattle.pc_app.proofs.VerdictLemmas.{with_rest}
use Rattle.pc_app.proofs.verdict.push_values.Given as goal

abbrev pub invariant-loop-i : goal.invariant-loop-i
invariant-loop-i l = with_rest l.text l.i l.names.names l.state ≡ with_rest l.fn.text 0 l.names.names l.state
