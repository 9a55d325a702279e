use Rattle.std.proofs.Common.{◌≡◌, length, take, drop}
use Rattle.std.specs.List.{flat_map, AllByRecursion}
use Rattle.pc_certificate.specs.Certificate.{entry_rows, SaysOf}
use Rattle.pc_condition.specs.Conditions.{line_text, rows_text, suffices}
use Rattle.pc_cert.proofs.condition.lines.Given as goal

abbrev pub invariant-loop-a : goal.invariant-loop-a
invariant-loop-a l = record {
  text : l.text ≡ flat_map (λ a. line_text suffices (rows_text l.names.names (entry_rows a.rows))) (take l.a-index l.alternatives);
  left : AllByRecursion (SaysOf (length l.names.names)) (drop l.a-index l.alternatives);
}
