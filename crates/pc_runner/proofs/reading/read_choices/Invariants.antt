use Rattle.std.proofs.Common.{◌≡◌, ◌≤◌, [], length, true}
use Rattle.std.specs.List.{list_all}
use Rattle.pc_runner.specs.declared.script.TheConstants.{CHOICES}
use Rattle.pc_text.specs.Numerals.{is_in_range}
use Rattle.pc_text.specs.Lines.{lines}
use Rattle.pc_runner.specs.Scripts.{choices_of}
use Rattle.pc_runner.proofs.reading.read_choices.Given as goal

-- the choices so far, with the lines that are left, give the answer
abbrev pub invariant-lines : goal.invariant-lines
invariant-lines l = record {
  gives : choices_of l.lines.number l.choices (lines l.lines.rest) ≡ choices_of l.fn.lines.number [] (lines l.fn.lines.rest);
  in_range : list_all is_in_range l.choices ≡ true;
  few : length l.choices ≤ CHOICES;
}

abbrev pub decreases-lines : goal.decreases-lines
decreases-lines l = length l.lines.rest
