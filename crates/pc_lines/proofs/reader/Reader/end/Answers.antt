use Rattle.std.proofs.Common.{◌∙◌, ap, sym}
use Rattle.pc_lines.specs.declared.fault.CertFault.TheVariants as fault
use Rattle.pc_lines.specs.Readers.{Unread, is_over}
use Rattle.pc_lines.proofs.EndedLines.{not_over}
use Rattle.pc_lines.proofs.reader.Reader.end.Goals as goal

pub returns-in-Some : goal.returns-in-Some
returns-in-Some c =
    let left = c.next.new.self in (
      ap is_over (sym c.self.view_is) ∙ not_over c.self.inside.lines c.in-Some.field-0-1.now left.rest c.in-Some.field-0-2 c.in-Some.ensures.none c.in-Some.ensures.line,
      ap fault.Trailing (c.in-Some.ensures.number.0 ∙ ap (λ (u : Unread). u.number) c.self.view_is),
    )
