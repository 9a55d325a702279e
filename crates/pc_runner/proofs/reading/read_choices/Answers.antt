use Rattle.std.proofs.Common.{◌≤◌, ◌+◌, ◌∙◌, ap, sym, arith, rules, Err, length, replicate, FitsSigned}
use Rattle.std.specs.Int.{w128}
use Rattle.std.specs.List.{list_all}
use Rattle.std.proofs.lemmas.Int.{to_z-of_z}
use Rattle.std.proofs.lemmas.Result.{err_from_is_err_and}
use Rattle.pc_text.specs.Lines.{lines, IsLine}
use Rattle.pc_runner.specs.declared.fault.ScriptFault.TheVariants as fault
use Rattle.pc_runner.specs.declared.script.TheConstants.{CHOICES}
use Rattle.pc_text.specs.Numerals.{is_in_range}
use Rattle.pc_runner.specs.Scripts.{choices_of, choice_of}
use Rattle.pc_runner.proofs.ScriptLines.{choices_last, choices_fault, choices_many, choices_more, gives_fault, all_appended, all_replicated, few_more}
use Rattle.pc_runner.proofs.reading.read_choices.Goals as goal

pub returns-then-not-ended-clause-gives : goal.returns-then-not-ended-clause-gives
returns-then-not-ended-clause-gives c =
    let line : IsLine c.lines.lines.rest c.in-Some.line.now c.in-Some.ended c.next.new.self.rest = c.in-Some.ensures.line in
    sym c.lines.invariant.gives
    ∙ choices_last c.lines.lines.number c.lines.choices c.lines.lines.rest c.in-Some.line.now c.next.new.self.rest c.in-Some.ensures.none (rw c.if-not-ended.true at line)
    ∙ ap (λ n. Err (fault.Form n)) (sym c.in-Some.ensures.number.0)

pub returns-in_err-choice-clause-gives : goal.returns-in_err-choice-clause-gives
returns-in_err-choice-clause-gives c =
    let line : IsLine c.lines.lines.rest c.in-Some.line.now c.in-Some.ended c.next.new.self.rest = c.in-Some.ensures.line in
    let p = err_from_is_err_and c.from_residual.result c.from_residual.ensures.1 in
    gives_fault _ c.from_residual.result _ p.0 c.in_err-choice.field-0.0 p.1 p.2
    (sym c.lines.invariant.gives
    ∙ choices_fault c.lines.lines.number c.lines.choices c.lines.lines.rest c.in-Some.line.now c.next.new.self.rest c.in_err-choice.field-0.0 (rw c.if-not-ended.false at line)
    (ap (λ n. choice_of n c.in-Some.line.now) (sym c.in-Some.ensures.number.0) ∙ sym c.in_err-choice.ensures.gives))

pub returns-then-times-len-clause-gives : goal.returns-then-times-len-clause-gives
returns-then-times-len-clause-gives c =
    let line : IsLine c.lines.lines.rest c.in-Some.line.now c.in-Some.ended c.next.new.self.rest = c.in-Some.ensures.line in
    sym c.lines.invariant.gives
    ∙ choices_many c.lines.lines.number c.lines.choices c.lines.lines.rest c.in-Some.line.now c.next.new.self.rest (c.in_ok-choice.choice, c.in_ok-choice.times) (rw c.if-not-ended.false at line)
    (ap (λ n. choice_of n c.in-Some.line.now) (sym c.in-Some.ensures.number.0) ∙ sym c.in_ok-choice.ensures.gives) (omega arith)
    ∙ ap (λ n. Err (fault.Many n)) (sym c.in-Some.ensures.number.0)

pub lines-preserved : goal.lines-preserved
lines-preserved c =
    let line : IsLine c.lines.lines.rest c.in-Some.line.now c.in-Some.ended c.next.new.self.rest = c.in-Some.ensures.line in
    let fits : FitsSigned w128 c.in_ok-choice.choice = search rules in
    let added = simp to_z-of_z at c.in_ok-add.ensures in
    let room : length c.lines.choices + c.in_ok-choice.times ≤ CHOICES = omega arith in
    record {
      gives =
          ap (λ n. choices_of n c.add.new.choices (lines c.next.new.self.rest)) c.in-Some.ensures.number.1
          ∙ choices_more c.lines.lines.number c.lines.choices c.add.new.choices c.lines.lines.rest c.in-Some.line.now c.next.new.self.rest (c.in_ok-choice.choice, c.in_ok-choice.times)
          (rw c.if-not-ended.false at line) (ap (λ n. choice_of n c.in-Some.line.now) (sym c.in-Some.ensures.number.0) ∙ sym c.in_ok-choice.ensures.gives) room added
          ∙ c.lines.invariant.gives;
      in_range =
          ap (list_all is_in_range) added
          ∙ all_appended c.lines.choices (replicate c.in_ok-choice.times c.in_ok-choice.choice) c.lines.invariant.in_range (all_replicated c.in_ok-choice.times c.in_ok-choice.choice c.in_ok-choice.ensures.in_range);
      few = few_more c.lines.choices c.add.new.choices c.in_ok-choice.times c.in_ok-choice.choice room added;
    }
