use Rattle.pc_program.specs.declared.program.Program.{Program}
use Rattle.pc_app.specs.Breach.{breach, straight_kind}
use Rattle.pc_app.specs.Kinds.{script_kind}
use Rattle.pc_app.proofs.ReadingLemmas.{two_go_on}
use Rattle.pc_app.proofs.breach.answer_to_breach.Goals as goal

pub returns-clause-answered : goal.returns-clause-answered
returns-clause-answered g c =
    let says = (breach c.args.source.now c.args.script.now).Says in
    record {
      answered = two_go_on straight_kind c.args.source.now (λ (p : Program). script_kind p.names.params) c.args.script.now says (g.S.Store.holding c.args.store.now) (g.S.Store.faults c.args.store.now)
          _ _ c.in_ok-program.program c.straight_in.ensures.counted c.in_ok-program.ensures.answered c.breach_program.result
          (rw (c.straight_in.ensures.kept c.args.script.now) at c.breach_program.ensures.answered);
    }
