use Rattle.std.proofs.Common.{◌≡◌, ◌+◌, length}
use Rattle.pc_grammar.specs.Limits.{start, first_past}
use Rattle.pc_grammar.proofs.Counting.{later}
use Rattle.pc_grammar.proofs.limits.first_past.Given as goal

abbrev pub invariant-symbols : goal.invariant-symbols
invariant-symbols l = (first_past l.most start l.symbols ≡ later l.at (first_past l.most l.counts l.ahead)) × (l.at + length l.ahead ≡ length l.symbols)

abbrev pub decreases-symbols : goal.decreases-symbols
decreases-symbols l = length l.ahead
