use Rattle.std.proofs.Common.{◌≡◌, ◌++◌, drop}
use Rattle.pc_breach.specs.Scripts.{choices_text}
use Rattle.pc_breach.proofs.script.push_choices.Given as goal

abbrev pub invariant-loop-c : goal.invariant-loop-c
invariant-loop-c l = l.text ++ choices_text (drop l.c-index l.choices) ≡ l.fn.text ++ choices_text l.choices
