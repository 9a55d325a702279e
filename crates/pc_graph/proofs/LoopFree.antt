-- The graph of a program without loops has no heads.
use Rattle.std.proofs.Common.{◌≡◌, ℕ, ◌+◌, List, [], ◌∷◌, ◌++◌, refl, sym, ap, subst, ◌∙◌, false}
use Rattle.std.specs.List.{AllByRecursion as Each}
use Rattle.pc_text.specs.declared.place.Place.{Place}
use Rattle.pc_program.specs.Loops.{whiles, whiles_step, whiles_of}
use Rattle.pc_program.specs.declared.program.Program.{Program}
use Rattle.pc_program.specs.declared.tree.Stmt.{roll-Stmt, fold-roll-Stmt}
use Rattle.pc_program.specs.declared.tree.Stmt.TheOpen as stmt
use Rattle.pc_flow.proofs.Lists.{none_joined}
use Rattle.pc_graph.specs.declared.draft.Loop.{Loop}
use Rattle.pc_graph.specs.Lowering.{Piece, made, points_from}
use Rattle.pc_graph.specs.Straight.{LoopFreeGraphs}
use Rattle.pc_graph.proofs.Blocks.{Block, done, single, branch, cycle, single_stmt, stmts, built}
use Rattle.pc_graph.proofs.Listed.{body_of, body_is, made_is}

left_none : (ps qs : List Place) → (ps ++ qs) ≡ [] → ps ≡ []
left_none [] qs e = refl
left_none (p ∷ ps) qs e = cc

right_none : (ps qs : List Place) → (ps ++ qs) ≡ [] → qs ≡ []
right_none [] qs e = e
right_none (p ∷ ps) qs e = cc

free : (b : Block) (p n : ℕ) → whiles_of (stmts b) ≡ [] → (built b p n).loops ≡ []
free done p n h = refl
free (single place x more) p n h = free more n (n + 1) (right_none (whiles (single_stmt place x)) (whiles_of (stmts more)) h)
free (branch place t xs ys more) p n h =
    let a = built xs n (n + 1) in
    let b = built ys a.next (a.next + 1) in
    let x = roll-Stmt (stmt.If place t (stmts xs) (stmts ys)) in
    let own = sym (fold-roll-Stmt (List Place) whiles_step (stmt.If place t (stmts xs) (stmts ys))) ∙ left_none (whiles x) (whiles_of (stmts more)) h in
    none_joined (a.loops ++ b.loops) _ (none_joined a.loops b.loops (free xs n (n + 1) (left_none (whiles_of (stmts xs)) (whiles_of (stmts ys)) own))
    (free ys a.next (a.next + 1) (right_none (whiles_of (stmts xs)) (whiles_of (stmts ys)) own)))
    (free more b.next (b.next + 1) (right_none (whiles x) (whiles_of (stmts more)) h))
free (cycle place t tried xs more) p n h =
    let x = roll-Stmt (stmt.While place t tried (stmts xs)) in
    let e = fold-roll-Stmt (List Place) whiles_step (stmt.While place t tried (stmts xs)) in
    let own = left_none (whiles x) (whiles_of (stmts more)) h in
    absurd (cc)

no_heads : (p : ℕ) (places : List Place) → Each (λ point. point.head ≡ false) (points_from [] p places)
no_heads p [] = tt
no_heads p (place ∷ places) = (refl, no_heads (p + 1) places)

pub no_loops : (p : Program) → whiles_of p.body ≡ [] → (made p).loops ≡ []
no_loops p h = ap (λ (z : Piece). z.loops) (made_is p) ∙ free (body_of p) 1 2 (ap whiles_of (body_is p) ∙ h)

pub loop_free_graphs : LoopFreeGraphs
loop_free_graphs p h =
    let places = p.place ∷ p.place ∷ (made p).places in
    subst (λ (z : List Loop). Each (λ point. point.head ≡ false) (points_from z 0 places)) (sym (no_loops p h)) (no_heads 0 places)
