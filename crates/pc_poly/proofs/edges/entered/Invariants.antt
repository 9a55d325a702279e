use Rattle.std.proofs.Common.{◌≡◌, ◌≤◌, []}
use Rattle.pc_rows.specs.Linear.{State, MeetsAll}
use Rattle.pc_poly.proofs.Entering.{zero_between}
use Rattle.pc_poly.proofs.edges.entered.Given as goal

abbrev pub invariant-loop-v : goal.invariant-loop-v
invariant-loop-v l = record {
  states : (s : State) → MeetsAll s l.p.rows → MeetsAll (zero_between l.params l.v s) l.rows;
  none : l.p.hint ≤ l.params → l.p.rows ≡ [] → l.rows ≡ [];
}
