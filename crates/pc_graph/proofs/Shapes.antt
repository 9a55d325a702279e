-- Where the edges of a program's graph lead, and what they and its loops are over.
use Rattle.std.proofs.Common.{ℕ, ◌+◌, ◌<◌, ◌≤◌, ◌++◌, length, refl, sym, subst, arith, inl, inr}
use Rattle.std.specs.Prelude.{◌⊎◌}
use Rattle.std.specs.List.{AllByRecursion as Each}
use Rattle.pc_rows.specs.Linear.{IsOver}
use Rattle.pc_rows.specs.declared.row.TheConstants.{VARIABLES}
use Rattle.pc_rows.proofs.Joining.{each_join}
use Rattle.pc_program.specs.Forms.{rows_all}
use Rattle.pc_program.specs.declared.program.Program.{Program}
use Rattle.pc_flow.specs.Arc.{Arc, IsFit}
use Rattle.pc_flow.specs.declared.what.What.{What}
use Rattle.pc_flow.specs.declared.what.TheConstants.{TEST_ROWS}
use Rattle.pc_flow.specs.Shape.{WhatIsOver}
use Rattle.pc_flow.proofs.Lists.{each_at}
use Rattle.pc_graph.specs.declared.draft.Loop.{Loop}
use Rattle.pc_graph.specs.Lowering.{made}
use Rattle.pc_graph.specs.Ways.{ways}
use Rattle.pc_graph.proofs.Blocks.{Single, assigns, asserts, assumes, Block, done, single, branch, cycle, what_of, built, SaneSingle, Sane, spans}
use Rattle.pc_graph.proofs.Limits.{ways_few, assigned_fits, right_over}
use Rattle.pc_graph.proofs.Ready.{ready_few, all_ready}
use Rattle.pc_graph.proofs.Variables.{each_over, all_over, ways_over}
use Rattle.pc_graph.proofs.Whole.{HeadIn, IsKnownOf, keeps}

-- ---- what edges are over, and their limits

abbrev OverAndFit : ℕ → What → Type 0
OverAndFit v w = WhatIsOver v w × IsFit w

single_over : (v : ℕ) (x : Single) → v ≤ VARIABLES → SaneSingle v x → OverAndFit v (what_of x)
single_over v (assigns u r) few ok = ((ok.0, right_over v r ok.1), assigned_fits v u r few ok.0 ok.1)
single_over v (asserts cs) few ok = (all_over v cs ok, ready_few cs (rows_all cs) refl (all_ready v cs ok))
single_over v (assumes cs) few ok = (all_over v cs ok, ready_few cs (rows_all cs) refl (all_ready v cs ok))

pub edge_over : (p : Program) (e : Arc) → IsKnownOf p e → OverAndFit (length p.names.names) e.what
edge_over p e (inl h) = subst (OverAndFit (length p.names.names)) (sym h.what) (tt, omega arith)
edge_over p e (inr (inl h)) = let v = length p.names.names in subst (OverAndFit v) (sym h.what) (single_over v h.statement (keeps p).variables h.sane)
edge_over p e (inr (inr h)) =
    let v = length p.names.names in
    subst (OverAndFit v) (sym h.what) (
      each_at (Each (IsOver v)) (ways h.test h.side) h.way (ways_over v h.test h.side h.fork.sane) h.is,
      each_at (λ w. length w ≤ TEST_ROWS) (ways h.test h.side) h.way (ways_few v h.test h.side h.fork.sane) h.is,
    )

-- an edge leads up, or back to a head
pub edge_rises : (p : Program) (e : Arc) → IsKnownOf p e → (e.from < e.to) ⊎ HeadIn (made p).loops e.to
edge_rises p e (inl h) = h.up
edge_rises p e (inr (inl h)) = inl h.up
edge_rises p e (inr (inr h)) = inl h.up

-- ---- loops

-- a loop begins after the entry, and what it tries is over v variables
pub record IsLoop (v : ℕ) (l : Loop) : Type 0 where
  pub away : 0 < l.head
  pub over : Each (IsOver v) l.tried

pub loops_over : (v : ℕ) (b : Block) (p : ℕ) → Sane v b → 0 < p → Each (IsLoop v) (built b p (p + 1)).loops
loops_over v done p s h = tt
loops_over v (single place x more) p s h = loops_over v more (p + 1) s.1 (omega arith)
loops_over v (branch place t xs ys more) p s h =
    let a = built xs (p + 1) (p + 1 + 1) in
    let b = built ys a.next (a.next + 1) in
    let f1 = (spans xs (p + 1)).next in
    let g1 = (spans ys a.next).next in
    each_join (IsLoop v) (a.loops ++ b.loops) _ (each_join (IsLoop v) a.loops b.loops (loops_over v xs (p + 1) s.1 (omega arith)) (loops_over v ys a.next s.2 (omega arith)))
    (loops_over v more b.next s.3 (omega arith))
loops_over v (cycle place t tried xs more) p s h =
    let a = built xs (p + 1) (p + 1 + 1) in
    let f1 = (spans xs (p + 1)).next in
    (record { away = h; over = each_over v tried s.1 }, each_join (IsLoop v) a.loops _ (loops_over v xs (p + 1) s.2 (omega arith)) (loops_over v more a.next s.3 (omega arith)))
