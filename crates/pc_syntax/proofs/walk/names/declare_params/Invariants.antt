use Rattle.std.proofs.Common.{◌≡◌, ◌+◌, ◌≤◌, drop, length}
use Rattle.pc_rows.specs.declared.row.TheConstants.{VARIABLES}
use Rattle.pc_syntax.specs.Context.{declared_after}
use Rattle.pc_syntax.proofs.walk.names.declare_params.Given as goal

abbrev pub invariant-loop-symbol : goal.invariant-loop-symbol
invariant-loop-symbol l =
    (l.names.params ≡ length l.names.names) ×
    (l.names.params ≡ l.initial.names.params + l.symbol-index) ×
    (length l.names.names ≤ VARIABLES) ×
    (declared_after l.src l.names.names (drop l.symbol-index l.symbols) ≡ declared_after l.src l.initial.names.names l.symbols)
