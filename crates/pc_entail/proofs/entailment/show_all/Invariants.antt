use Rattle.std.proofs.Common.{◌++◌, drop}
use Rattle.pc_entail.specs.Showing.{AllShown, SomeNotFound}
use Rattle.pc_entail.specs.Found.{AllFound}
use Rattle.pc_entail.proofs.entailment.show_all.Given as goal

abbrev pub invariant-loop-i : goal.invariant-loop-i
invariant-loop-i l = record {
  all : AllShown (l.a ++ l.b) (drop l.i l.goals) → AllShown (l.a ++ l.b) l.goals;
  some : SomeNotFound (l.a ++ l.b) (drop l.i l.goals) → SomeNotFound (l.a ++ l.b) l.goals;
  found : AllFound (l.a ++ l.b) (drop l.i l.goals) → AllFound (l.a ++ l.b) l.goals;
  rest : AllFound (l.a ++ l.b) l.goals → AllFound (l.a ++ l.b) (drop l.i l.goals);
}
