use Rattle.std.proofs.Common.{length}
use Rattle.std.proofs.lemmas.Result.{IfOk-weaker}
use Rattle.pc_facts.specs.Facts.{AreLines, IsFacts}
use Rattle.pc_facts.proofs.Telling.{lines_are_facts}
use Rattle.pc_facts.proofs.facts.show_facts.Goals as goal

pub returns-in-Ok : goal.returns-in-Ok
returns-in-Ok g c =
    let d = g.D.Forward in
    let flow = c.args.g.now in
    let names = c.args.names.now.names in
    let values = c.in-Ok.values in
    IfOk-weaker c.all_lines.result (AreLines d flow names values (length flow.points)) (IsFacts d flow names)
    (λ text h. lines_are_facts d values flow names text c.in-Ok.ensures.long c.in-Ok.ensures.reached c.in-Ok.ensures.folded h) c.all_lines.ensures
