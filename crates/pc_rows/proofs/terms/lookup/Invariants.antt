use Rattle.std.proofs.Common.{◌≡◌, drop}
use Rattle.pc_rows.specs.Terms.{lookup}
use Rattle.pc_rows.proofs.terms.lookup.Given as goal

abbrev pub invariant-loop-t : goal.invariant-loop-t
invariant-loop-t l = lookup l.terms l.v ≡ lookup (drop l.t-index l.terms) l.v
