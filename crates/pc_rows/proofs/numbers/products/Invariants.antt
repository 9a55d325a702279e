use Rattle.std.proofs.Common.{◌≡◌, ◌++◌, take, drop, length}
use Rattle.pc_rows.specs.Linear.{AllInRange, scale_list}
use Rattle.pc_rows.proofs.numbers.products.Given as goal

abbrev pub invariant-loop-v : goal.invariant-loop-v
invariant-loop-v g l = record {
  long : length l.all ≡ g.row.N;
  rest : take l.v l.all ++ scale_list l.k (drop l.v l.a) ≡ scale_list l.k l.a;
  fits : AllInRange (scale_list l.k l.a) → AllInRange (scale_list l.k (drop l.v l.a));
  back : AllInRange (scale_list l.k (drop l.v l.a)) → AllInRange (scale_list l.k l.a);
}
