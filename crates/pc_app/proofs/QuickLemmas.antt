-- What a domain finds to be enough for a graph is enough for the program.
use Rattle.std.proofs.Common.{◌≡◌, List, [], ◌∷◌, length, slice_get, arith, subst, Result, Ok, Err, IfOk}
use Rattle.std.specs.List.{AllByRecursion as Each}
use Rattle.pc_text.specs.Bytes.{Bytes}
use Rattle.pc_rows.proofs.First.{zero_from_all}
use Rattle.pc_program.specs.declared.program.Program.{Program}
use Rattle.pc_flow.specs.Arc.{Arc}
use Rattle.pc_flow.specs.declared.what.What.{What}
use Rattle.pc_flow.specs.declared.what.What.TheVariants.{Enter, Test, Set, Check}
use Rattle.pc_flow.specs.Exact.{StraightEdge}
use Rattle.pc_flow.specs.Flow.{Flow}
use Rattle.pc_graph.specs.Lowering.{graph}
use Rattle.pc_graph.proofs.Bridge.{steps_correspond}
use Rattle.pc_graph.proofs.Graphs.{graph_kept}
use Rattle.pc_graph.proofs.LoopFree.{loop_free_graphs}
use Rattle.pc_graph.proofs.Loops.{checks_stand_alone}
use Rattle.pc_graph.proofs.StraightLoops.{straight_is_loop_free}
use Rattle.pc_graph.proofs.Straights.{straight_graphs}
use Rattle.pc_lower.specs.Tame.{HasTameNumbers}
use Rattle.pc_domain.specs.declared.backward.Backward.{Ghosts}
use Rattle.pc_domain.proofs.Options.{some_is}
use Rattle.pc_back.specs.contracts.member.NeedBackward.TheImpl.{ghosts as needs}
use Rattle.pc_box.specs.contracts.backward.Box16Backward.TheImpl.{ghosts as boxes}
use Rattle.pc_back.specs.Views.{need_says}
use Rattle.pc_back.proofs.Keeping.{need_is_kept}
use Rattle.pc_box.specs.Exact.{HasOneVariable, HasSmallNumbers, IsExactEdge}
use Rattle.pc_box.proofs.Exactly.{boxes_back_are_exact}
use Rattle.pc_facts.specs.Quick.{IsQuick}
use Rattle.pc_words.specs.declared.domains.QuickDomain.{QuickDomain}
use Rattle.pc_words.specs.declared.domains.QuickDomain.TheVariants as domains
use Rattle.pc_app.specs.Subjects.{of_program}
use Rattle.pc_app.specs.Quick.{IsNoStronger, QuickPrints}

-- what is printed, once it is known how weak it is
enough_of : {V : Type 0} (d : Ghosts V) (domain : QuickDomain) (p : Program) (text : Bytes) (is : IsQuick d (graph p) p.names.names text) →
    IsNoStronger domain (of_program p) is.condition → QuickPrints domain (of_program p) text
enough_of d domain p text is weak = record {
  condition = is.condition;
  one = is.one;
  parameters = is.parameters;
  sound = λ s entry m. (steps_correspond p s entry).safe.1 (is.suffice.safe s entry ((is.same s entry).0 m));
  weak = weak;
  text_is = is.printed;
}

rows_are_enough : (p : Program) (text : Bytes) → IsQuick needs (graph p) p.names.names text → QuickPrints domains.Rows (of_program p) text
rows_are_enough p text is = enough_of needs domains.Rows p text is
    (λ free tame s entry m.
    let none = loop_free_graphs p free in
    let fold = is.suffice.folded none in
    let kept = need_is_kept (graph p) fold.0 (graph_kept p) none (checks_stand_alone p) tame fold.1 in
    let v = some_is (slice_get fold.0 0) (λ v. need_says.rows v p.names.params is.rows) fold.2 in
    (is.same s entry).1 (kept.rows 0 v.0 p.names.params is.rows s v.1 v.2 (zero_from_all p.names.params s (omega arith)) m))

-- tame numbers are small
small_numbers : (w : What) → HasTameNumbers w → HasSmallNumbers w
small_numbers (Enter params) h = tt
small_numbers (Test rows) h = tt
small_numbers (Set x form lo hi) h = h
small_numbers (Check rows) h = h

exact_edges : (g : Flow) (es : List Arc) → Each (StraightEdge (length g.points) g.variables) es → Each (λ e. HasOneVariable e.what) es → Each (λ e. HasTameNumbers e.what) es →
    Each (IsExactEdge g) es
exact_edges g [] straight one tame = tt
exact_edges g (e ∷ es) straight one tame =
    (record { straight = straight.0; one = one.0; small = small_numbers e.what tame.0 }, exact_edges g es straight.1 one.1 tame.1)

boxes_are_enough : (p : Program) (text : Bytes) → IsQuick boxes (graph p) p.names.names text → QuickPrints domains.Boxes (of_program p) text
boxes_are_enough p text is = enough_of boxes domains.Boxes p text is
    (λ one tame s entry safe.
    let none = loop_free_graphs p (straight_is_loop_free p tame.straight) in
    let fold = is.suffice.folded none in
    let edges = exact_edges (graph p) (graph p).edges (straight_graphs p tame.straight) one tame.tame.edges in
    (is.same s entry).1 ((boxes_back_are_exact (graph p) fold.0 is.rows s (graph_kept p) none edges fold.1 fold.2 entry).1 ((steps_correspond p s entry).safe.0 safe)))

-- what is told of the graph of a program
module _ {E : Type 0} (p : Program) (g : Flow) (same : g ≡ graph p) where
  pub enough_by_rows : (r : Result Bytes E) → IfOk r (IsQuick needs g p.names.names) → IfOk r (QuickPrints domains.Rows (of_program p))
  enough_by_rows (Ok text) is = rows_are_enough p text (subst (λ (z : Flow). IsQuick needs z p.names.names text) same is)
  enough_by_rows (Err e) is = tt

  pub enough_by_boxes : (r : Result Bytes E) → IfOk r (IsQuick boxes g p.names.names) → IfOk r (QuickPrints domains.Boxes (of_program p))
  enough_by_boxes (Ok text) is = boxes_are_enough p text (subst (λ (z : Flow). IsQuick boxes z p.names.names text) same is)
  enough_by_boxes (Err e) is = tt
