use Rattle.std.proofs.Common.{◌∙◌, ap, sym, Err}
use Rattle.pc_text.specs.Lines.{IsLine}
use Rattle.pc_lines.specs.declared.fault.CertFault.TheVariants as fault
use Rattle.pc_lines.specs.Readers.{Unread, take_line}
use Rattle.pc_lines.proofs.EndedLines.{line_taken, line_open}
use Rattle.pc_lines.proofs.reader.Reader.line.Goals as goal
use Rattle.pc_lines.proofs.reader.Reader.line.Goals.{then-ended, else-ended}

pub returns : goal.returns
returns c =
    let old = c.self.inside.lines in
    let left = c.next.new.self in
    let text = c.in-Some.line.now in
    let line : IsLine old.rest text c.in-Some.ended left.rest = c.in-Some.ensures.line in
    let number = c.in-Some.ensures.number in
    elim c.if-ended.branch [
      | then-ended w ↦
          rw w.result-is
          (ap take_line (sym c.self.view_is) ∙ line_taken old left text (rw w.if-ended.true at line) number.1, number.0 ∙ ap (λ (u : Unread). u.number) c.self.view_is)
      | else-ended w ↦
          rw w.result-is
          (ap take_line (sym c.self.view_is) ∙ line_open old left text (rw w.if-ended.false at line) ∙ ap (λ n. Err (fault.Form n)) (sym number.0))
    ]
