-- What domains know at the points of a graph is what they know of the program.
use Rattle.std.proofs.Common.{◌≡◌, ◌∙◌, ℕ, ◌<◌, List, length, map, sym, ap, subst, Some, None, slice_get, arith, Result, Ok, Err, IfOk}
use Rattle.std.specs.Option.{option_map}
use Rattle.std.proofs.lemmas.List.{length-map}
use Rattle.std.proofs.lemmas.Option.{slice_get-map, slice_get-get_or, slice_get_within}
use Rattle.pc_rows.specs.Linear.{Linear}
use Rattle.pc_text.specs.Bytes.{Bytes}
use Rattle.pc_program.specs.declared.program.Program.{Program}
use Rattle.pc_flow.specs.Flow.{Flow}
use Rattle.pc_flow.specs.Shape.{NoHeads, IsGraph}
use Rattle.pc_graph.specs.Lowering.{graph}
use Rattle.pc_graph.proofs.Graphs.{graph_kept}
use Rattle.pc_graph.proofs.LoopFree.{loop_free_graphs}
use Rattle.pc_domain.specs.View.{View}
use Rattle.pc_domain.proofs.Places.{same_items}
use Rattle.pc_box.specs.contracts.member.Box16Forward.TheImpl.{ghosts as boxes}
use Rattle.pc_box.specs.Boxes.{rows_of}
use Rattle.pc_box.specs.BoxAt.{boxes_of, box_at}
use Rattle.pc_box.specs.Laws.{IsTheBoxAt}
use Rattle.pc_box.specs.Views.{view_of, box_says}
use Rattle.pc_box.proofs.Answering.{fold_is_box_at, rows_are_box_rows}
use Rattle.pc_poly.specs.contracts.member.PolyForward.TheImpl.{ghosts as polyhedra}
use Rattle.pc_poly.specs.Laws.{TellsReach}
use Rattle.pc_poly.specs.Views.{poly_says}
use Rattle.pc_poly.proofs.Chaining.{chains_are_exact}
use Rattle.pc_facts.specs.Facts.{OfFold, IsFacts}
use Rattle.pc_facts.specs.Lines.{shown}
use Rattle.pc_words.specs.declared.domains.FactsDomain.TheVariants as domains
use Rattle.pc_app.specs.Checks.{AreChecks}
use Rattle.pc_app.specs.Subjects.{of_program}
use Rattle.pc_app.specs.Facts.{FactsPrints}
use Rattle.pc_app.proofs.ChainLemmas.{checks_are_chains, checks_are_free}
use Rattle.pc_app.proofs.ShownLemmas.{rows_are_shown}

module _ (g : Flow) (rows : List (List Linear)) (is : IsGraph g) (none : NoHeads g.points) (fold : OfFold box_says g rows) where
  boxes_are : IsTheBoxAt g fold.views
  boxes_are = fold_is_box_at g fold.views is none fold.fold

  boxes_long : length fold.views ≡ length (boxes_of g)
  boxes_long = ap length boxes_are.whole ∙ length-map (boxes_of g) view_of

  rows_at : (p : ℕ) → p < length fold.views → slice_get rows p ≡ slice_get (map rows_of (boxes_of g)) p
  rows_at p lt =
      let e = fold.said.each p lt in
      let there = boxes_are.each p (let l = fold.fold.long in omega arith) in
      let view : e.0 ≡ view_of (box_at g p) = (let here = e.1 in cc) in
      let told = rows_are_box_rows g p e.2.0 (subst (λ (v : View). box_says.rows v e.2.0) view e.2.2) in
      e.2.1 ∙ ap Some told ∙ sym (slice_get-map rows_of (boxes_of g) p ∙ ap (option_map rows_of) (slice_get-get_or (boxes_of g) p None (let l = boxes_long in omega arith)))

  -- without loops the rows that boxes give are those of the definition
  rows_of_boxes : rows ≡ map rows_of (boxes_of g)
  rows_of_boxes =
      let long = fold.said.long in
      let made = boxes_long in
      let told = length-map (boxes_of g) rows_of in
      same_items rows (map rows_of (boxes_of g)) (omega arith) (λ p lt. rows_at p (omega arith))

boxes_are_facts : (p : Program) (text : Bytes) → IsFacts boxes (graph p) p.names.names text → FactsPrints domains.Boxes (of_program p) text
boxes_are_facts p text is = record {
  rows = is.rows;
  known = record {
    long = is.long;
    met = is.met;
    exact = λ free. let none = loop_free_graphs p free in rows_of_boxes (graph p) is.rows (graph_kept p) none (is.folded none);
  };
  text_is = is.printed;
}

module _ (p : Program) (rows : List (List Linear)) (fold : OfFold poly_says (graph p) rows) where
  -- on a chain of assertions and assumptions the rows tell which entry states come to a point
  rows_of_checks : AreChecks p → (q : ℕ) (told : List Linear) → slice_get rows q ≡ Some told → TellsReach (graph p) q (shown (length p.names.names) told)
  rows_of_checks checks q told at =
      let long = fold.said.long in
      let e = fold.said.each q (let lt = slice_get_within rows q told at in omega arith) in
      let same : e.2.0 ≡ told = (let here = e.2.1 in cc) in
      let said = subst (poly_says.rows e.0) same e.2.2 in
      let chain = checks_are_chains p checks in
      let tells = chains_are_exact (graph p) fold.views q e.0 told (graph_kept p) chain fold.fold e.1 said in
      subst (TellsReach (graph p) q) (sym (rows_are_shown (graph p) fold.views (graph_kept p) chain fold.fold q e.0 told e.1 said)) tells

polyhedra_are_facts : (p : Program) (text : Bytes) → IsFacts polyhedra (graph p) p.names.names text → FactsPrints domains.Polyhedra (of_program p) text
polyhedra_are_facts p text is = record {
  rows = is.rows;
  known = record {
    long = is.long;
    met = is.met;
    exact = λ checks. rows_of_checks p is.rows (is.folded (loop_free_graphs p (checks_are_free p checks))) checks;
  };
  text_is = is.printed;
}

-- what is told of the graph of a program
module _ {E : Type 0} (p : Program) (g : Flow) (same : g ≡ graph p) where
  pub facts_of_boxes : (r : Result Bytes E) → IfOk r (IsFacts boxes g p.names.names) → IfOk r (FactsPrints domains.Boxes (of_program p))
  facts_of_boxes (Ok text) is = boxes_are_facts p text (subst (λ (z : Flow). IsFacts boxes z p.names.names text) same is)
  facts_of_boxes (Err e) is = tt

  pub facts_of_polyhedra : (r : Result Bytes E) → IfOk r (IsFacts polyhedra g p.names.names) → IfOk r (FactsPrints domains.Polyhedra (of_program p))
  facts_of_polyhedra (Ok text) is = polyhedra_are_facts p text (subst (λ (z : Flow). IsFacts polyhedra z p.names.names text) same is)
  facts_of_polyhedra (Err e) is = tt
