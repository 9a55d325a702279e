use Rattle.std.proofs.Common.{◌≡◌, ◌≤◌, length}
use Rattle.pc_grammar.specs.Programs as spec
use Rattle.pc_grammar.proofs.Turns.{locals_from}
use Rattle.pc_grammar.proofs.program.locals.Given as goal

abbrev pub invariant-lines : goal.invariant-lines
invariant-lines l = (spec.locals l.fn.cursor.rest.now ≡ locals_from l.found l.cursor.rest.now) × (length l.cursor.rest.now ≤ length l.fn.cursor.rest.now)

abbrev pub decreases-lines : goal.decreases-lines
decreases-lines l = length l.cursor.rest.now
