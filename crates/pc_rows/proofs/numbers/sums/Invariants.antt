use Rattle.std.proofs.Common.{◌≡◌, ◌++◌, take, drop, length}
use Rattle.pc_rows.specs.Linear.{AllInRange, add_lists}
use Rattle.pc_rows.proofs.numbers.sums.Given as goal

abbrev pub invariant-loop-v : goal.invariant-loop-v
invariant-loop-v g l = record {
  long : length l.all ≡ g.row.N;
  rest : take l.v l.all ++ add_lists (drop l.v l.a) (drop l.v l.b) ≡ add_lists l.a l.b;
  fits : AllInRange (add_lists l.a l.b) → AllInRange (add_lists (drop l.v l.a) (drop l.v l.b));
  back : AllInRange (add_lists (drop l.v l.a) (drop l.v l.b)) → AllInRange (add_lists l.a l.b);
}
