-- The graph of a program without loops, assumptions and tests but `*`: its edges lead up, and all but assertions pass every state.
use Rattle.std.proofs.Common.{◌≡◌, ◌<◌, List, [], ◌∷◌, length, Bool, true, refl, sym, subst, arith, inl, inr}
use Rattle.std.specs.Prelude.{◌⊎◌}
use Rattle.pc_rows.specs.Linear.{Linear}
use Rattle.pc_program.specs.declared.program.Program.{Program}
use Rattle.pc_program.specs.declared.tree.Test.{Test as Condition}
use Rattle.pc_program.specs.declared.tree.Test.TheVariants as test
use Rattle.pc_flow.specs.Arc.{Arc}
use Rattle.pc_flow.specs.declared.what.What.{What}
use Rattle.pc_flow.specs.Exact.{NoRows, StraightEdge}
use Rattle.pc_flow.specs.Lists.{In}
use Rattle.pc_flow.proofs.Assigning.{has_variable}
use Rattle.pc_flow.proofs.Lists.{each_of_members}
use Rattle.pc_graph.specs.declared.draft.Loop.{Loop}
use Rattle.pc_graph.specs.Lowering.{made, graph}
use Rattle.pc_graph.specs.Straight.{is_any, are_straight, StraightGraphs}
use Rattle.pc_graph.specs.Ways.{ways}
use Rattle.pc_graph.proofs.Blocks.{Single, assigns, asserts, assumes, what_of, StraightSingle}
use Rattle.pc_graph.proofs.Graphs.{made_shape, points-length}
use Rattle.pc_graph.proofs.LoopFree.{no_loops}
use Rattle.pc_graph.proofs.Shapes.{edge_over, edge_rises}
use Rattle.pc_graph.proofs.StraightLoops.{straight_is_loop_free}
use Rattle.pc_graph.proofs.Whole.{HeadIn, IsKnownOf, keeps, known, between}

single_free : (x : Single) → StraightSingle x → NoRows (what_of x)
single_free (assigns v r) plain = tt
single_free (asserts cs) plain = tt
single_free (assumes cs) plain = absurd plain

any_free : (t : Condition) (b : Bool) (way : List Linear) → is_any t ≡ true → In way (ways t b) → way ≡ []
any_free test.Any b way any (inl same) = same
any_free test.Any b way any (inr m) = absurd m
any_free (test.All cs) b way any m = absurd (cc)

edge_free : (p : Program) (e : Arc) → are_straight p.body ≡ true → IsKnownOf p e → NoRows e.what
edge_free p e s (inl h) = subst (λ (w : What). NoRows w) (sym h.what) refl
edge_free p e s (inr (inl h)) = subst (λ (w : What). NoRows w) (sym h.what) (single_free h.statement (h.plain s))
edge_free p e s (inr (inr h)) = subst (λ (w : What). NoRows w) (sym h.what) (any_free h.test h.side h.way (h.fork.plain s) h.is)

pub straight_graphs : StraightGraphs
straight_graphs p s =
    let k1 = (keeps p).params in
    let k2 = (keeps p).variables in
    let f1 = (made_shape p).points in
    let f2 = (made_shape p).next in
    let same = points-length (made p).loops 0 (p.place ∷ p.place ∷ (made p).places) in (
      record { rises = omega arith; within = omega arith; free = tt; fits = omega arith; assigns = λ s long. tt },
      each_of_members (StraightEdge (length (graph p).points) (graph p).variables) (made p).edges
          (λ e m.
          let over = edge_over p e (known p e m) in
          let reach = (between p e m).3 in
          record { rises = rises e (edge_rises p e (known p e m)); within = omega arith; free = edge_free p e s (known p e m); fits = over.1; assigns = λ s long. has_variable (length p.names.names) e.what s over.0 long }),
    )
  where
    rises : (e : Arc) → (e.from < e.to) ⊎ HeadIn (made p).loops e.to → e.from < e.to
    rises e (inl h) = h
    rises e (inr h) = let none = subst (λ (ls : List Loop). HeadIn ls e.to) (no_loops p (straight_is_loop_free p s)) h in absurd (cc)
