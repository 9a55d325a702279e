use Rattle.std.proofs.Common.{◌∙◌}
use Rattle.pc_lines.specs.Readers.{proof_reader}
use Rattle.pc_lines.proofs.Repeats.{turn}
use Rattle.pc_lines.proofs.reading.proofs.Goals as goal

pub proofs-preserved : goal.proofs-preserved
proofs-preserved c =
    turn (λ _. proof_reader c.args.premises) c.args.count c.proofs.counter c.proofs.proofs c.proofs.lines c.proofs-test.true c.push.new.self c.in_ok-proof.field-0 c.proof.new.self c.in_ok-proof.ensures c.in_ok-push.ensures.ok
    ∙ c.proofs.invariant
