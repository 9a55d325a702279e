-- No two loops of a program share a head: no two edges lead back to one point.
use Rattle.std.proofs.Common.{◌≡◌, ℕ, ◌+◌, ◌<◌, ◌≤◌, List, [], ◌∷◌, ◌++◌, true, false, refl, sym, subst, arith, inl, inr, Bool}
use Rattle.std.specs.Prelude.{◌⊎◌}
use Rattle.std.specs.List.{AllByRecursion as Each}
use Rattle.pc_rows.specs.Linear.{Linear}
use Rattle.pc_rows.proofs.Joining.{each_join}
use Rattle.pc_program.proofs.Stmts.{all_by}
use Rattle.pc_flow.specs.Arc.{Arc, arc}
use Rattle.pc_flow.specs.declared.what.What.TheVariants.{Enter, Test}
use Rattle.pc_flow.specs.Shape.{TurnsApart, NoSharedHead}
use Rattle.pc_flow.proofs.Lists.{each_more}
use Rattle.pc_graph.specs.Lowering.{Piece, tests, join_edges, split, loop, made}
use Rattle.pc_graph.specs.Straight.{LoopsHaveTheirHeads}
use Rattle.pc_graph.specs.Ways.{ways}
use Rattle.pc_graph.proofs.Blocks.{Block, done, single, branch, cycle, what_of, built, spans}
use Rattle.pc_graph.proofs.Listed.{body_of, made_is}

-- an edge that leads up, or back to a point from lo on, below hi
abbrev BackTo : ℕ → ℕ → Arc → Type 0
BackTo lo hi e = (e.from < e.to) ⊎ ((lo ≤ e.to) × (e.to < hi))

-- those of the edges that lead back lead to points from lo on, below hi, and no two of them to one point
record Turns (lo hi : ℕ) (es : List Arc) : Type 0 where
  back : Each (BackTo lo hi) es
  own : NoSharedHead es

wider : (lo mid hi top : ℕ) → lo ≤ mid → hi ≤ top → (e : Arc) → BackTo mid hi e → BackTo lo top e
wider lo mid hi top a b e (inl up) = inl up
wider lo mid hi top a b e (inr h) = let h0 = h.0 in let h1 = h.1 in inr (omega arith, omega arith)

own_join : (es fs : List Arc) → NoSharedHead es → NoSharedHead fs → Each (λ e. Each (TurnsApart e) fs) es → NoSharedHead (es ++ fs)
own_join [] fs h k c = k
own_join (e ∷ es) fs h k c = (each_join (TurnsApart e) es fs h.0 c.0, own_join es fs h.1 k c.1)

less_apart : (lo mid hi : ℕ) (e f : Arc) → BackTo lo mid e → BackTo mid hi f → TurnsApart e f
less_apart lo mid hi e f (inl up) h b c = absurd (omega arith)
less_apart lo mid hi e f (inr g) (inl up) b c = absurd (omega arith)
less_apart lo mid hi e f (inr g) (inr h) b c = let g1 = g.1 in let h0 = h.0 in λ same. omega arith

-- edges, and then edges that lead back to greater points
turns_join : (lo mid hi : ℕ) (es fs : List Arc) → lo ≤ mid → mid ≤ hi → Turns lo mid es → Turns mid hi fs → Turns lo hi (es ++ fs)
turns_join lo mid hi es fs a b h k =
    record {
      back = each_join (BackTo lo hi) es fs (each_more (BackTo lo mid) (BackTo lo hi) (wider lo lo mid hi (omega arith) b) es h.back)
          (each_more (BackTo mid hi) (BackTo lo hi) (wider lo mid hi hi a (omega arith)) fs k.back);
      own = own_join es fs h.own k.own (each_more (BackTo lo mid) (λ e. Each (TurnsApart e) fs)
          (λ e g. each_more (BackTo mid hi) (TurnsApart e) (λ f m. less_apart lo mid hi e f g m) fs k.back) es h.back);
    }

-- edges that lead up
ups : (lo hi : ℕ) (es : List Arc) → Each (λ e. e.from < e.to) es → Turns lo hi es
ups lo hi [] h = record { back = tt; own = tt }
ups lo hi (e ∷ es) h =
    let r = ups lo hi es h.1 in
    let up = h.0 in
    record { back = (inl up, r.back); own = (all_by (TurnsApart e) (λ f b c. absurd (omega arith)) es, r.own) }

-- edges, and then one that leads back to a lesser point, and edges that lead up
turns_back : (lo mid hi : ℕ) (es fs : List Arc) (e : Arc) → e.to ≡ lo → lo < mid → mid ≤ hi → Turns mid hi es → Each (λ f. f.from < f.to) fs → Turns lo hi (es ++ (e ∷ fs))
turns_back lo mid hi es fs e to a b h up =
    let more = ups lo hi fs up in
    record {
      back = each_join (BackTo lo hi) es (e ∷ fs) (each_more (BackTo mid hi) (BackTo lo hi) (wider lo mid hi hi (omega arith) (omega arith)) es h.back)
          (inr (omega arith, omega arith), more.back);
      own = own_join es (e ∷ fs) h.own (each_more (λ f. f.from < f.to) (TurnsApart e) (λ f u b c. absurd (omega arith)) fs up, more.own)
          (each_more (BackTo mid hi) (λ g. Each (TurnsApart g) (e ∷ fs)) (λ g k. (apart g k, each_more (λ f. f.from < f.to) (TurnsApart g) (λ f u b c. absurd (omega arith)) fs up)) es h.back);
    }
  where
    apart : (g : Arc) → BackTo mid hi g → TurnsApart g e
    apart g (inl u) b c = absurd (omega arith)
    apart g (inr k) b c = let k0 = k.0 in λ same. omega arith

tests_up : (b : Bool) (p q : ℕ) (ws : List (List Linear)) → p < q → Each (λ e. e.from < e.to) (tests b p q ws)
tests_up b p q [] h = tt
tests_up b p q (w ∷ ws) h = (h, tests_up b p q ws h)

-- ---- statements

turned : (b : Block) (p : ℕ) → Turns p (built b p (p + 1)).last (built b p (p + 1)).edges
turned done p = record { back = tt; own = tt }
turned (single place x more) p =
    let m = built more (p + 1) (p + 1 + 1) in
    let h1 = (spans more (p + 1)).up in
    turns_join p (p + 1) m.last (arc p (p + 1) (what_of x) ∷ []) m.edges (omega arith) h1 (ups p (p + 1) (arc p (p + 1) (what_of x) ∷ []) (omega arith, tt)) (turned more (p + 1))
turned (branch place t xs ys more) p =
    let a = built xs (p + 1) (p + 1 + 1) in
    let b = built ys a.next (a.next + 1) in
    let m = built more b.next (b.next + 1) in
    let f1 = (spans xs (p + 1)).up in
    let f2 = (spans xs (p + 1)).next in
    let g1 = (spans ys a.next).up in
    let g2 = (spans ys a.next).next in
    let h1 = (spans more b.next).up in
    let trues = tests false p (p + 1) (ways t true) in
    let falses = tests false p a.next (ways t false) in
    let ends = join_edges a.last b.last b.next in
    turns_join p b.next m.last (split place t p (p + 1) a b).edges m.edges (omega arith) h1
    (turns_join p (p + 1) b.next trues (a.edges ++ (falses ++ (b.edges ++ ends))) (omega arith) (omega arith) (ups p (p + 1) trues (tests_up false p (p + 1) (ways t true) (omega arith)))
    (turns_join (p + 1) a.last b.next a.edges (falses ++ (b.edges ++ ends)) f1 (omega arith) (turned xs (p + 1))
    (turns_join a.last a.next b.next falses (b.edges ++ ends) (omega arith) (omega arith) (ups a.last a.next falses (tests_up false p a.next (ways t false) (omega arith)))
    (turns_join a.next b.last b.next b.edges ends g1 (omega arith) (turned ys a.next) (ups b.last b.next ends (omega arith, (omega arith, tt))))))) (turned more b.next)
turned (cycle place t tried xs more) p =
    let a = built xs (p + 1) (p + 1 + 1) in
    let m = built more a.next (a.next + 1) in
    let f1 = (spans xs (p + 1)).up in
    let f2 = (spans xs (p + 1)).next in
    let h1 = (spans more a.next).up in
    let trues = tests true p (p + 1) (ways t true) in
    let falses = tests false p a.next (ways t false) in
    let inner = turned xs (p + 1) in
    let wide : Turns (p + 1) a.next a.edges = record { back = each_more (BackTo (p + 1) a.last) (BackTo (p + 1) a.next) (wider (p + 1) (p + 1) a.last a.next (omega arith) (omega arith)) a.edges inner.back; own = inner.own } in
    turns_join p a.next m.last (loop place t tried p (p + 1) a).edges m.edges (omega arith) h1
    (turns_join p p a.next trues (a.edges ++ (arc a.last p (Test []) ∷ falses)) (omega arith) (omega arith) (ups p p trues (tests_up true p (p + 1) (ways t true) (omega arith)))
    (turns_back p (p + 1) a.next a.edges falses (arc a.last p (Test [])) refl (omega arith) (omega arith) wide (tests_up false p a.next (ways t false) (omega arith)))) (turned more a.next)

pub loops_have_their_heads : LoopsHaveTheirHeads
loops_have_their_heads p = (
  all_by (TurnsApart (arc 0 1 (Enter p.names.params))) (λ f b c. absurd (omega arith)) (made p).edges,
  subst (λ (z : Piece). NoSharedHead z.edges) (sym (made_is p)) (turned (body_of p) 1).own,
)
