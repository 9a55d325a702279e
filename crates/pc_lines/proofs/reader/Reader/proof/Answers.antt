use Rattle.std.proofs.Common.{subst}
use Rattle.pc_text.specs.Words.{words}
use Rattle.pc_lines.specs.Kinds.{proof}
use Rattle.pc_lines.specs.Readers.{proof_value}
use Rattle.pc_lines.specs.Answers.{Gives}
use Rattle.pc_lines.proofs.LineLaws.{proof_is}
use Rattle.pc_lines.proofs.Told.{line_read}
use Rattle.pc_lines.proofs.reader.Reader.proof.Goals as goal

pub returns : goal.returns
returns c =
    let n = c.in_ok-number.number in
    let line = c.in_ok-number.line.now in
    line_read (proof c.args.premises) proof_value c.args.self.now c.line.new.self n line c.proof.result c.in_ok-number.ensures
    (subst (λ answer. Gives answer c.proof.result) (proof_is c.args.premises n (words line)) c.proof.ensures)
