use Rattle.std.proofs.Common.{◌≡◌, ◌∙◌, ap, sym, refl, false}
use Rattle.std.specs.Prelude.{bytes_eq, codes}
use Rattle.pc_text.specs.Words.{words}
use Rattle.pc_lines.specs.Forms.{is_just}
use Rattle.pc_lines.proofs.Counted.{form_is}
use Rattle.pc_lines.proofs.NamedLines.{just_test}
use Rattle.pc_cert.specs.Faults.{is_end, next}
use Rattle.pc_cert.specs.Readers.{goes_on}
use Rattle.pc_cert.proofs.reading.begins_at.Goals as goal

pub returns-then-not-eq-clause-value : goal.returns-then-not-eq-clause-value
returns-then-not-eq-clause-value c =
    let line = c.args.line.now in
    let no_end : is_end (words line) ≡ false = sym (just_test (codes "end") line) ∙ sym (ap (bytes_eq line) c.as_slice.ensures) ∙ sym c.eq.ensures ∙ c.if-eq.false in
    let no_other : is_just (words (codes "alternative")) (words line) ≡ false =
    sym (just_test (codes "alternative") line) ∙ sym (ap (bytes_eq line) c.as_slice-2.ensures) ∙ sym c.eq-2.ensures ∙ c.if-not-eq.true in
    sym (form_is (next c.args.others) goes_on c.args.number (words line) (rw (no_other, no_end) refl))
