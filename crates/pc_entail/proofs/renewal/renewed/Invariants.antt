use Rattle.std.proofs.Common.{◌≡◌}
use Rattle.pc_entail.proofs.Renewing.{Renewing}
use Rattle.pc_entail.proofs.Leaving.{Renews}
use Rattle.pc_entail.proofs.renewal.renewed.Given as goal

abbrev pub invariant-loop-old : goal.invariant-loop-old
invariant-loop-old l = record {
  premises : l.system.premises ≡ l.initial.system.premises;
  so_far : Renewing l.initial.system.premises l.removed l.old-index l.all;
  renews : Renews l.initial.system.premises l.place l.gone l.removed l.old-index l.all;
}
