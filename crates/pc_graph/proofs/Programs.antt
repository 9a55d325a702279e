-- What graphs say of their programs.
use Rattle.std.proofs.Common.{◌≡◌, ◌-◌, pos, length, ◌∙◌, arith, length-append}
use Rattle.std.specs.Prelude.{replicate}
use Rattle.std.proofs.lemmas.List.{length-replicate}
use Rattle.pc_program.specs.declared.program.Program.{Program}
use Rattle.pc_rows.specs.Linear.{State}
use Rattle.pc_graph.specs.Lowering.{graph}
use Rattle.pc_graph.specs.Straight.{PaidProgramsAreSafe, OwedIsViolated}
use Rattle.pc_flow.specs.Walk.{IsEntry, entered}
use Rattle.pc_graph.proofs.Bridge.{steps_correspond}
use Rattle.pc_flow.proofs.Closed.{paid_is_safe}
use Rattle.pc_graph.proofs.Whole.{keeps}
use Rattle.pc_graph.proofs.Straights.{straight_graphs}
use Rattle.pc_flow.proofs.Witness.{broken_has_walk}

-- the state at the entry has a value for each variable
entered_long : (p : Program) (s : State) → IsEntry (graph p) s → length (entered (graph p) s) ≡ (graph p).variables
entered_long p s long =
    let k = (keeps p).params in
    let rest = length p.names.names - p.names.params in
    let zeros = length-replicate rest (pos 0) in
    length-append s (replicate rest (pos 0)) ∙ omega arith

pub paid_programs_are_safe : PaidProgramsAreSafe
paid_programs_are_safe p a s long paid meets = (steps_correspond p s long).safe.1 (paid_is_safe (graph p) a s paid (entered_long p s long) meets)

pub owed_is_violated : OwedIsViolated
owed_is_violated p a s straight long owed broken =
    (steps_correspond p s long).broken (broken_has_walk (graph p) a s (record { edges = straight_graphs p straight; owed = owed }) (entered_long p s long) broken)
