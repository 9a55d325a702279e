use Rattle.std.proofs.Common.{◌∙◌, refl, sym}
use Rattle.pc_text.specs.Words.{words}
use Rattle.pc_lines.specs.Kinds.{just}
use Rattle.pc_lines.proofs.Counted.{value_is, form_is}
use Rattle.pc_lines.proofs.NamedLines.{just_test}
use Rattle.pc_lines.proofs.heads.just.Goals as goal

pub returns-then-eq : goal.returns-then-eq
returns-then-eq c =
    let line = c.args.line.now in
    let text = c.args.text.now in
    sym (value_is {A = Unit {0}} (just text) (λ _. tt) c.args.number (words line) (sym (just_test text line) ∙ sym c.eq.ensures ∙ c.if-eq.true) refl)

pub returns-else-eq : goal.returns-else-eq
returns-else-eq c =
    let line = c.args.line.now in
    let text = c.args.text.now in
    sym (form_is {A = Unit {0}} (just text) (λ _. tt) c.args.number (words line) (sym (just_test text line) ∙ sym c.eq.ensures ∙ c.if-eq.false))
