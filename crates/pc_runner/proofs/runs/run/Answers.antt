use Rattle.std.proofs.Common.{◌∙◌, sym, subst}
use Rattle.pc_program.specs.Machine.{started}
use Rattle.pc_runner.specs.Runs.{SaysOf}
use Rattle.pc_runner.proofs.Sayings.{verdict_says, says_only}
use Rattle.pc_runner.proofs.runs.run.Goals as goal

pub returns-in-Ok-clause-says : goal.returns-in-Ok-clause-says
returns-in-Ok-clause-says c =
    subst (SaysOf c.args.program.now c.args.script.now.entry c.args.script.now.choices) (sym c.in-Ok.ensures) (verdict_says c.args.script.now.choices c.args.program.now.body (started c.args.program.now c.args.script.now.entry))

pub returns-in-Ok-clause-only : goal.returns-in-Ok-clause-only
returns-in-Ok-clause-only c = λ v h. c.in-Ok.ensures ∙ says_only c.args.script.now.choices c.args.program.now.body (started c.args.program.now c.args.script.now.entry) v h
