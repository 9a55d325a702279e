use Rattle.std.proofs.Common.{◌≡◌, ◌∙◌, ◌+◌, ap, sym, Err, []}
use Rattle.std.proofs.lemmas.Result.{err_from_is_err_and}
use Rattle.pc_text.specs.Lines.{lines, Left, IsLine}
use Rattle.pc_runner.specs.Scripts.{entry_of, choices_of}
use Rattle.pc_runner.proofs.ScriptLines.{script_none, script_open, script_entry_fault, script_choices_fault, script_is, reads_fault}
use Rattle.pc_runner.proofs.reading.read_script.Goals as goal

pub returns-in_default : goal.returns-in_default
returns-in_default c = script_none c.args.params c.args.src.now (sym (ap (λ (l : Left). l.rest) c.new-lines.ensures) ∙ c.in_default.ensures.none.0)

pub returns-then-not-ended : goal.returns-then-not-ended
returns-then-not-ended c =
    let line : IsLine c.new-lines.result.rest c.in-Some.first.now c.in-Some.ended c.next.new.self.rest = c.in-Some.ensures.line in
    let whole = ap (λ (l : Left). l.rest) c.new-lines.ensures in
    script_open c.args.params c.args.src.now c.in-Some.first.now c.next.new.self.rest (rw (whole, c.if-not-ended.true) at line)

pub returns-in_err-entry : goal.returns-in_err-entry
returns-in_err-entry c =
    let line : IsLine c.new-lines.result.rest c.in-Some.first.now c.in-Some.ended c.next.new.self.rest = c.in-Some.ensures.line in
    let whole = ap (λ (l : Left). l.rest) c.new-lines.ensures in
    let p = err_from_is_err_and c.from_residual.result c.from_residual.ensures.1 in
    reads_fault c.from_residual.result _ (entry_of c.args.params c.in-Some.first.now ≡ Err c.in_err-entry.field-0.0) p.0 c.in_err-entry.field-0.0 p.1 p.2
    (script_entry_fault c.args.params c.args.src.now c.in-Some.first.now c.next.new.self.rest c.in_err-entry.field-0.0 (rw (whole, c.if-not-ended.false) at line)) c.in_err-entry.ensures.gives

pub returns-in_err-choices : goal.returns-in_err-choices
returns-in_err-choices c =
    let line : IsLine c.new-lines.result.rest c.in-Some.first.now c.in-Some.ended c.next.new.self.rest = c.in-Some.ensures.line in
    let whole = ap (λ (l : Left). l.rest) c.new-lines.ensures in
    let second : c.next.new.self.number ≡ 2 = c.in-Some.ensures.number.1 ∙ ap (λ (l : Left). l.number + 1) c.new-lines.ensures in
    let p = err_from_is_err_and c.from_residual-in_err-choices.result c.from_residual-in_err-choices.ensures.1 in
    reads_fault c.from_residual-in_err-choices.result _ (choices_of 2 [] (lines c.next.new.self.rest) ≡ Err c.in_err-choices.field-0.0) p.0 c.in_err-choices.field-0.0 p.1 p.2
    (script_choices_fault c.args.params c.args.src.now c.in-Some.first.now c.next.new.self.rest c.in_ok-entry.entry c.in_err-choices.field-0.0 (rw (whole, c.if-not-ended.false) at line) c.in_ok-entry.ensures.gives)
    (rw second at c.in_err-choices.ensures.gives)

pub returns : goal.returns
returns c =
    let line : IsLine c.new-lines.result.rest c.in-Some.first.now c.in-Some.ended c.next.new.self.rest = c.in-Some.ensures.line in
    let whole = ap (λ (l : Left). l.rest) c.new-lines.ensures in
    let second : c.next.new.self.number ≡ 2 = c.in-Some.ensures.number.1 ∙ ap (λ (l : Left). l.number + 1) c.new-lines.ensures in
    script_is c.args.params c.args.src.now c.in-Some.first.now c.next.new.self.rest c.in_ok-entry.entry c.in_ok-choices.choices (rw (whole, c.if-not-ended.false) at line) c.in_ok-entry.ensures.gives
    (rw second at c.in_ok-choices.ensures.gives)
