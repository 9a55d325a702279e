use Rattle.std.proofs.Common.{◌≡◌, length}
use Rattle.std.specs.List.{AllByRecursion as Each}
use Rattle.pc_fixpoint.proofs.marks.all_alike.Given as goal

abbrev pub invariant-loop-p : goal.invariant-loop-p
invariant-loop-p l = record { long : length l.marks ≡ l._p; each : Each (λ m. m ≡ l.mark) l.marks }
