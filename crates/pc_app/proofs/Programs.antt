-- Certificates for the graph of a program speak of the program.
use Rattle.pc_graph.specs.Lowering.{graph}
use Rattle.pc_graph.proofs.Bridge.{steps_correspond}
use Rattle.pc_graph.proofs.Graphs.{graph_kept}
use Rattle.pc_graph.proofs.LoopFree.{loop_free_graphs}
use Rattle.pc_graph.proofs.StraightLoops.{straight_is_loop_free}
use Rattle.pc_graph.proofs.Straights.{straight_graphs}
use Rattle.pc_replay.proofs.Sound.{accepted_is_safe}
use Rattle.pc_certify.specs.Laws.{IsStraight}
use Rattle.pc_certify.proofs.Exactness.{infer_is_exact_on_graphs}
use Rattle.pc_app.specs.Programs.{AcceptedProgramsAreSafe, InferIsExact}

pub accepted_programs_are_safe : AcceptedProgramsAreSafe
accepted_programs_are_safe p c accepts s entry m = (steps_correspond p s entry).safe.1 (accepted_is_safe _ c (graph_kept p) accepts s entry m)

pub infer_is_exact : InferIsExact
infer_is_exact p c straight tame accepts exact s entry =
    let graph_is : IsStraight (graph p) = record { heads = loop_free_graphs p (straight_is_loop_free p straight); edges = straight_graphs p straight; tame = tame } in
    record {
      safe = λ m. accepted_programs_are_safe p c accepts s entry m;
      violated = λ not. (steps_correspond p s entry).broken (infer_is_exact_on_graphs (graph p) c (graph_kept p) graph_is exact s entry not);
    }
