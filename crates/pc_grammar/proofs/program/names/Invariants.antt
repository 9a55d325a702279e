use Rattle.std.proofs.Common.{◌≡◌, ◌≤◌, length}
use Rattle.pc_grammar.specs.Programs as spec
use Rattle.pc_grammar.proofs.Turns.{names_from}
use Rattle.pc_grammar.proofs.program.names.Given as goal

abbrev pub invariant-more : goal.invariant-more
invariant-more l = (spec.names l.fn.cursor.rest.now ≡ names_from l.found l.cursor.rest.now) × (length l.cursor.rest.now ≤ length l.fn.cursor.rest.now)

abbrev pub decreases-more : goal.decreases-more
decreases-more l = length l.cursor.rest.now
