-- The edges of the graph of a whole program.
use Rattle.std.proofs.Common.{◌≡◌, ℕ, ◌+◌, ◌≤◌, List, [], ◌∷◌, length, true, sym, ap, subst, ◌∙◌, arith}
use Rattle.std.specs.Prelude.{◌==◌, ◌&&◌, nat_le, sum, map}
use Rattle.std.specs.List.{AllByRecursion as Each, list_any}
use Rattle.std.proofs.lemmas.Bool.{or_left, or_right, leb-true, and_parts}
use Rattle.std.proofs.lemmas.Bool.Decides.{nat_tests}
use Rattle.pc_rows.specs.declared.row.TheConstants.{VARIABLES}
use Rattle.pc_language.specs.declared.limits.TheConstants.{EDGES}
use Rattle.pc_program.specs.Sane.{sane_stmts, edges, edges_of}
use Rattle.pc_program.specs.declared.program.Program.{Program}
use Rattle.pc_flow.specs.Arc.{Arc, arc}
use Rattle.pc_flow.specs.declared.what.What.TheVariants.{Enter}
use Rattle.pc_flow.specs.Incidence.{leaving}
use Rattle.pc_flow.specs.Lists.{In}
use Rattle.pc_flow.proofs.Lists.{each_at, each_in, each_more}
use Rattle.pc_graph.specs.declared.draft.Loop.{Loop}
use Rattle.pc_graph.specs.Lowering.{Piece, graph, made, no_steps}
use Rattle.pc_graph.specs.Rest.{rest}
use Rattle.pc_graph.specs.Straight.{are_straight}
use Rattle.pc_graph.proofs.Blocks.{built, Sane, is_sane, Straight, are_so}
use Rattle.pc_graph.proofs.Known.{IsJoin, IsKnown, Known, kinds}
use Rattle.pc_graph.proofs.Listed.{body_of, body_is, made_is, program_listed}
use Rattle.pc_graph.proofs.Outs.{From, Outs, outs, ranged, skip, other}

-- what a program keeps
pub record Keeps (p : Program) : Type 0 where
  pub params : p.names.params ≤ length p.names.names
  pub variables : length p.names.names ≤ VARIABLES
  pub sane : sane_stmts (length p.names.names) p.body ≡ true
  pub edges : 1 + sum (map edges p.body) ≤ EDGES

pub keeps : (p : Program) → Keeps p
keeps p =
    let n = length p.names.names in
    let a = and_parts (nat_le p.names.params n) (nat_le n VARIABLES && (sane_stmts n p.body && nat_le (edges_of p.body) EDGES)) p.sane in
    let b = and_parts (nat_le n VARIABLES) (sane_stmts n p.body && nat_le (edges_of p.body) EDGES) a.1 in
    let c = and_parts (sane_stmts n p.body) (nat_le (edges_of p.body) EDGES) b.1 in
    record { params = leb-true _ _ a.0; variables = leb-true _ _ b.0; sane = c.0; edges = leb-true _ _ c.1 }

-- the number is the head of one of the loops
abbrev pub HeadIn : List Loop → ℕ → Type 0
HeadIn loops p = list_any (λ l. l.head == p) loops ≡ true

same_number : (n : ℕ) → (n == n) ≡ true
same_number n = grind (arith, nat_tests)

heads_in : (loops : List Loop) → Each (λ l. HeadIn loops l.head) loops
heads_in [] = tt
heads_in (l ∷ loops) = (
  or_left (l.head == l.head) (list_any (λ k. k.head == l.head) loops) (same_number l.head),
  each_more (λ k. HeadIn loops k.head) (λ k. HeadIn (l ∷ loops) k.head) (λ k h. or_right (l.head == k.head) (list_any (λ m. m.head == k.head) loops) h) loops (heads_in loops),
)

module _ (p : Program) where
  -- an edge of the program's graph, by what it is
  abbrev pub IsJoinOf : Arc → Type 0
  IsJoinOf e = IsJoin (length p.names.names) (rest p) (graph p).edges (are_straight p.body) (HeadIn (made p).loops) (λ e. In e (no_steps p)) e

  abbrev pub IsKnownOf : Arc → Type 0
  IsKnownOf e = IsKnown (length p.names.names) (rest p) (graph p).edges (are_straight p.body) (HeadIn (made p).loops) (λ e. In e (no_steps p)) e

  pub body_sane : Sane (length p.names.names) (body_of p)
  body_sane = is_sane (length p.names.names) (body_of p) (ap (sane_stmts (length p.names.names)) (body_is p) ∙ (keeps p).sane)

  pub body_straight : are_straight p.body ≡ true → Straight (body_of p)
  body_straight e = are_so (body_of p) (ap are_straight (body_is p) ∙ e)

  pub body_outs : Outs (graph p).edges (body_of p) 1
  body_outs = outs (graph p).edges (body_of p) 1
      (λ q l h. skip q (arc 0 1 (Enter p.names.params) ∷ []) (made p).edges (other q 0 1 (Enter p.names.params) (λ same. omega arith)) ∙
      ap (λ (z : Piece). leaving q z.edges) (made_is p))

  all_known : Known (length p.names.names) (rest p) (graph p).edges (are_straight p.body) (HeadIn (made p).loops) (λ e. In e (no_steps p)) (built (body_of p) 1 2)
  all_known = kinds (length p.names.names) (rest p) (graph p).edges (are_straight p.body) (HeadIn (made p).loops) (λ e. In e (no_steps p)) (body_of p) 1 []
      body_sane body_straight (program_listed p) body_outs
      (subst (λ (z : Piece). Each (λ l. HeadIn (made p).loops l.head) z.loops) (made_is p) (heads_in (made p).loops))
      (subst (λ (z : Piece). Each (λ e. In e (no_steps p)) z.joins) (made_is p) (each_in (made p).joins))

  pub joins_known : Each IsJoinOf (no_steps p)
  joins_known = subst (λ (z : Piece). Each IsJoinOf z.joins) (sym (made_is p)) all_known.joins

  pub edges_known : Each IsKnownOf (made p).edges
  edges_known = subst (λ (z : Piece). Each IsKnownOf z.edges) (sym (made_is p)) all_known.edges

  pub edges_ranged : Each (From 1 (made p).last) (made p).edges
  edges_ranged = subst (λ (z : Piece). Each (From 1 z.last) z.edges) (sym (made_is p)) (ranged (body_of p) 1)

  pub known : (e : Arc) → In e (made p).edges → IsKnownOf e
  known e m = each_at IsKnownOf (made p).edges e edges_known m

  pub between : (e : Arc) → In e (made p).edges → From 1 (made p).last e
  between e m = each_at (From 1 (made p).last) (made p).edges e edges_ranged m
