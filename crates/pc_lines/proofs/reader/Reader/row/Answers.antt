use Rattle.std.proofs.Common.{subst}
use Rattle.pc_text.specs.Words.{words}
use Rattle.pc_lines.specs.Kinds.{row}
use Rattle.pc_lines.specs.Readers.{row_value}
use Rattle.pc_lines.specs.Answers.{Gives}
use Rattle.pc_lines.proofs.LineLaws.{row_is}
use Rattle.pc_lines.proofs.Told.{line_read}
use Rattle.pc_lines.proofs.reader.Reader.row.Goals as goal

pub returns : goal.returns
returns c =
    let v = c.args.variables in
    let n = c.in_ok-number.number in
    let line = c.in_ok-number.line.now in
    line_read (row v) (row_value v) c.args.self.now c.line.new.self n line c.row.result c.in_ok-number.ensures
    (subst (λ answer. Gives answer c.row.result) (row_is v n (words line) c.requires) c.row.ensures)
