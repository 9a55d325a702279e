-- The edges that leave each point of a tree of statements.
use Rattle.std.proofs.Common.{◌≡◌, ◌≢◌, ◌∙◌, ℕ, ◌+◌, ◌<◌, ◌≤◌, List, [], ◌∷◌, ◌++◌, Bool, true, false, cond, refl, ap, arith, inl, inr, append-nil}
use Rattle.std.specs.Prelude.{◌⊎◌, ◌==◌}
use Rattle.std.specs.List.{AllByRecursion as Each}
use Rattle.std.proofs.lemmas.Bool.Decides.{eqb_tells}
use Rattle.std.proofs.lemmas.List.Elements.{filter-append}
use Rattle.pc_rows.specs.Linear.{Linear}
use Rattle.pc_rows.proofs.Joining.{each_left, each_join}
use Rattle.pc_flow.specs.Arc.{Arc, arc}
use Rattle.pc_flow.specs.declared.what.What.{What}
use Rattle.pc_flow.specs.declared.what.What.TheVariants.{Test}
use Rattle.pc_flow.specs.Incidence.{leaving}
use Rattle.pc_flow.proofs.Lists.{each_more}
use Rattle.pc_graph.specs.Lowering.{Piece, tests, split, loop}
use Rattle.pc_graph.specs.Ways.{ways}
use Rattle.pc_graph.proofs.Blocks.{Block, done, single, branch, cycle, what_of, built, spans}

-- ---- where edges leave and lead

-- an edge leaves a point from lo on, below hi, and leads to one of them or to hi
abbrev pub From : ℕ → ℕ → Arc → Type 0
From lo hi e = (lo ≤ e.from) × (e.from < hi) × (lo ≤ e.to) × (e.to ≤ hi)

tests_from : (lo hi : ℕ) (b : Bool) (p q : ℕ) (ws : List (List Linear)) → lo ≤ p → p < q → q ≤ hi → Each (From lo hi) (tests b p q ws)
tests_from lo hi b p q [] l u h = tt
tests_from lo hi b p q (w ∷ ws) l u h = ((l, omega arith, omega arith, h), tests_from lo hi b p q ws l u h)

edges_from : (lo hi : ℕ) (b : Block) (p : ℕ) → lo ≤ p → (built b p (p + 1)).last ≤ hi → Each (From lo hi) (built b p (p + 1)).edges
edges_from lo hi done p l h = tt
edges_from lo hi (single place x more) p l h =
    let up = (spans more (p + 1)).up in
    ((l, omega arith, omega arith, omega arith), edges_from lo hi more (p + 1) (omega arith) h)
edges_from lo hi (branch place t xs ys more) p l h =
    let F = From lo hi in
    let a = built xs (p + 1) (p + 1 + 1) in
    let b = built ys a.next (a.next + 1) in
    let f1 = (spans xs (p + 1)).up in
    let f2 = (spans xs (p + 1)).next in
    let g1 = (spans ys a.next).up in
    let g2 = (spans ys a.next).next in
    let h1 = (spans more b.next).up in
    each_join F (split place t p (p + 1) a b).edges _
    (each_join F (tests false p (p + 1) (ways t true)) _ (tests_from lo hi false p (p + 1) (ways t true) l (omega arith) (omega arith))
    (each_join F a.edges _ (edges_from lo hi xs (p + 1) (omega arith) (omega arith))
    (each_join F (tests false p a.next (ways t false)) _ (tests_from lo hi false p a.next (ways t false) l (omega arith) (omega arith))
    (each_join F b.edges _ (edges_from lo hi ys a.next (omega arith) (omega arith))
    ((omega arith, omega arith, omega arith, omega arith), ((omega arith, omega arith, omega arith, omega arith), tt))))))
    (edges_from lo hi more b.next (omega arith) h)
edges_from lo hi (cycle place t tried xs more) p l h =
    let F = From lo hi in
    let a = built xs (p + 1) (p + 1 + 1) in
    let f1 = (spans xs (p + 1)).up in
    let f2 = (spans xs (p + 1)).next in
    let h1 = (spans more a.next).up in
    each_join F (loop place t tried p (p + 1) a).edges _
    (each_join F (tests true p (p + 1) (ways t true)) _ (tests_from lo hi true p (p + 1) (ways t true) l (omega arith) (omega arith))
    (each_join F a.edges _ (edges_from lo hi xs (p + 1) (omega arith) (omega arith))
    ((omega arith, omega arith, l, omega arith), tests_from lo hi false p a.next (ways t false) l (omega arith) (omega arith))))
    (edges_from lo hi more a.next (omega arith) h)

pub ranged : (b : Block) (p : ℕ) → Each (From p (built b p (p + 1)).last) (built b p (p + 1)).edges
ranged b p = edges_from p (built b p (p + 1)).last b p (omega arith) (omega arith)

-- ---- the edges that leave a point

none_leaves : (q : ℕ) (es : List Arc) → Each (λ x. x.from ≢ q) es → leaving q es ≡ []
none_leaves q [] h = refl
none_leaves q (e ∷ es) h = by (e.from == q) (eqb_tells e.from q) (none_leaves q es h.1)
  where
    by : (t : Bool) → ((t ≡ true) × (e.from ≡ q)) ⊎ ((t ≡ false) × (e.from ≡ q → ⊥)) → leaving q es ≡ [] → cond t (e ∷ leaving q es) (leaving q es) ≡ []
    by true (inl k) go = absurd (h.0 k.1)
    by true (inr k) go = absurd (cc)
    by false k go = go

all_leave : (q : ℕ) (es : List Arc) → Each (λ x. x.from ≡ q) es → leaving q es ≡ es
all_leave q [] h = refl
all_leave q (e ∷ es) h = by (e.from == q) (eqb_tells e.from q) (all_leave q es h.1)
  where
    by : (t : Bool) → ((t ≡ true) × (e.from ≡ q)) ⊎ ((t ≡ false) × (e.from ≡ q → ⊥)) → leaving q es ≡ es → cond t (e ∷ leaving q es) (leaving q es) ≡ e ∷ es
    by true k go = ap (λ (z : List Arc). e ∷ z) go
    by false (inl k) go = absurd (cc)
    by false (inr k) go = absurd (k.1 h.0)

tests_at : (b : Bool) (p q : ℕ) (ws : List (List Linear)) → Each (λ e. e.from ≡ p) (tests b p q ws)
tests_at b p q [] = tt
tests_at b p q (w ∷ ws) = (refl, tests_at b p q ws)

-- the lists before and after those of which some leave the point
module _ (q : ℕ) where
  abbrev pub None : List Arc → Type 0
  None es = leaving q es ≡ []

  pub below : (lo hi : ℕ) (es : List Arc) → Each (From lo hi) es → q < lo → None es
  below lo hi es h lt = none_leaves q es (each_more (From lo hi) (λ x. x.from ≢ q) (λ x r same. let r0 = r.0 in omega arith) es h)

  pub above : (lo hi : ℕ) (es : List Arc) → Each (From lo hi) es → hi ≤ q → None es
  above lo hi es h le = none_leaves q es (each_more (From lo hi) (λ x. x.from ≢ q) (λ x r same. let r1 = r.1 in omega arith) es h)

  pub other_tests : (b : Bool) (p u : ℕ) (ws : List (List Linear)) → p < q → None (tests b p u ws)
  other_tests b p u ws lt = none_leaves q (tests b p u ws) (each_more (λ x. x.from ≡ p) (λ x. x.from ≢ q) (λ x e same. omega arith) (tests b p u ws) (tests_at b p u ws))

  pub other : (p u : ℕ) (w : What) → p ≢ q → None (arc p u w ∷ [])
  other p u w apart = none_leaves q (arc p u w ∷ []) (apart, tt)

  pub skip : (es fs : List Arc) → None es → leaving q (es ++ fs) ≡ leaving q fs
  skip es fs h = filter-append (λ (x : Arc). x.from == q) es fs ∙ ap (λ (z : List Arc). z ++ leaving q fs) h

  pub stop : (es fs : List Arc) → None fs → leaving q (es ++ fs) ≡ leaving q es
  stop es fs h = filter-append (λ (x : Arc). x.from == q) es fs ∙ ap (λ (z : List Arc). leaving q es ++ z) h ∙ append-nil (leaving q es)

  pub none_of : (es fs : List Arc) → None es → None fs → None (es ++ fs)
  none_of es fs h k = skip es fs h ∙ k

pub here : (p q : ℕ) (w : What) → leaving p (arc p q w ∷ []) ≡ arc p q w ∷ []
here p q w = all_leave p (arc p q w ∷ []) (refl, tt)

-- the edges of a test, and those of the others that leave its point
tests_here : (b : Bool) (p q : ℕ) (ws : List (List Linear)) (es fs : List Arc) → leaving p es ≡ fs → leaving p (tests b p q ws ++ es) ≡ tests b p q ws ++ fs
tests_here b p q ws es fs h =
    filter-append (λ (x : Arc). x.from == p) (tests b p q ws) es
    ∙ ap (λ (z : List Arc). z ++ leaving p es) (all_leave p (tests b p q ws) (tests_at b p q ws))
    ∙ ap (λ (z : List Arc). tests b p q ws ++ z) h

-- ---- of a graph with these edges

module _ (g : List Arc) where
  -- the edges of each rule are those that leave its points
  abbrev pub Outs : Block → ℕ → Type 0
  Outs done p = Unit {0}
  Outs (single place x more) p = (leaving p g ≡ arc p (p + 1) (what_of x) ∷ []) × Outs more (p + 1)
  Outs (branch place t xs ys more) p =
      let a = built xs (p + 1) (p + 1 + 1) in
      let b = built ys a.next (a.next + 1) in
      (leaving p g ≡ tests false p (p + 1) (ways t true) ++ tests false p a.next (ways t false)) × Outs xs (p + 1) × (leaving a.last g ≡ arc a.last b.next (Test []) ∷ []) ×
      Outs ys a.next × (leaving b.last g ≡ arc b.last b.next (Test []) ∷ []) × Outs more b.next
  Outs (cycle place t tried xs more) p =
      let a = built xs (p + 1) (p + 1 + 1) in
      (leaving p g ≡ tests true p (p + 1) (ways t true) ++ tests false p a.next (ways t false)) × Outs xs (p + 1) × (leaving a.last g ≡ arc a.last p (Test []) ∷ []) × Outs more a.next

  -- no other edge leaves the points of the piece
  abbrev pub Owns : ℕ → Piece → Type 0
  Owns p a = (q : ℕ) → p ≤ q → q < a.last → leaving q g ≡ leaving q a.edges

  pub outs : (b : Block) (p : ℕ) → Owns p (built b p (p + 1)) → Outs b p
  outs done p own = tt
  outs (single place x more) p own =
      let e = arc p (p + 1) (what_of x) in
      let m = built more (p + 1) (p + 1 + 1) in
      let up = (spans more (p + 1)).up in (
        own p (omega arith) (omega arith) ∙ stop p (e ∷ []) m.edges (below p (p + 1) m.last m.edges (ranged more (p + 1)) (omega arith)) ∙ here p (p + 1) (what_of x),
        outs more (p + 1) (λ q l h. own q (omega arith) h ∙ skip q (e ∷ []) m.edges (other q p (p + 1) (what_of x) (λ same. omega arith))),
      )
  outs (branch place t xs ys more) p own =
      let a = built xs (p + 1) (p + 1 + 1) in
      let b = built ys a.next (a.next + 1) in
      let m = built more b.next (b.next + 1) in
      let f1 = (spans xs (p + 1)).up in
      let f2 = (spans xs (p + 1)).next in
      let g1 = (spans ys a.next).up in
      let g2 = (spans ys a.next).next in
      let h1 = (spans more b.next).up in
      let trues = tests false p (p + 1) (ways t true) in
      let falses = tests false p a.next (ways t false) in
      let end_a = arc a.last b.next (Test []) ∷ [] in
      let end_b = arc b.last b.next (Test []) ∷ [] in
      let part = (split place t p (p + 1) a b).edges in
      let in_a = ranged xs (p + 1) in
      let in_b = ranged ys a.next in
      let in_m = ranged more b.next in
      -- before the point b.next the edges are those of the `if`
      let cut = λ (q : ℕ) (l : p ≤ q) (h : q < b.next). own q l (omega arith) ∙ stop q part m.edges (below q b.next m.last m.edges in_m h) in
      -- after the point p they are none of the tests
      let past = λ (q : ℕ) (l : p < q) (h : q < b.next).
      cut q (omega arith) h ∙ skip q trues (a.edges ++ (falses ++ (b.edges ++ (end_a ++ end_b)))) (other_tests q false p (p + 1) (ways t true) l) in
      -- from the end of the first block on they are those of the second one and the ends
      let second = λ (q : ℕ) (l : a.last ≤ q) (h : q < b.next).
      past q (omega arith) h ∙ skip q a.edges (falses ++ (b.edges ++ (end_a ++ end_b))) (above q (p + 1) a.last a.edges in_a l) ∙
      skip q falses (b.edges ++ (end_a ++ end_b)) (other_tests q false p a.next (ways t false) (omega arith)) in (
        cut p (omega arith) (omega arith) ∙
            tests_here false p (p + 1) (ways t true) (a.edges ++ (falses ++ (b.edges ++ (end_a ++ end_b)))) falses
            (skip p a.edges (falses ++ (b.edges ++ (end_a ++ end_b))) (below p (p + 1) a.last a.edges in_a (omega arith)) ∙
            tests_here false p a.next (ways t false) (b.edges ++ (end_a ++ end_b)) []
            (none_of p b.edges (end_a ++ end_b) (below p a.next b.last b.edges in_b (omega arith))
            (none_of p end_a end_b (other p a.last b.next (Test []) (λ same. omega arith)) (other p b.last b.next (Test []) (λ same. omega arith)))) ∙ append-nil falses),
        outs xs (p + 1) (λ q l h. past q (omega arith) (omega arith) ∙ stop q a.edges (falses ++ (b.edges ++ (end_a ++ end_b)))
            (none_of q falses (b.edges ++ (end_a ++ end_b)) (other_tests q false p a.next (ways t false) (omega arith))
            (none_of q b.edges (end_a ++ end_b) (below q a.next b.last b.edges in_b (omega arith))
            (none_of q end_a end_b (other q a.last b.next (Test []) (λ same. omega arith)) (other q b.last b.next (Test []) (λ same. omega arith)))))),
        second a.last (omega arith) (omega arith) ∙ skip a.last b.edges (end_a ++ end_b) (below a.last a.next b.last b.edges in_b (omega arith)) ∙
            stop a.last end_a end_b (other a.last b.last b.next (Test []) (λ same. omega arith)) ∙ here a.last b.next (Test []),
        outs ys a.next (λ q l h. second q (omega arith) (omega arith) ∙ stop q b.edges (end_a ++ end_b)
            (none_of q end_a end_b (other q a.last b.next (Test []) (λ same. omega arith)) (other q b.last b.next (Test []) (λ same. omega arith)))),
        second b.last (omega arith) (omega arith) ∙ skip b.last b.edges (end_a ++ end_b) (above b.last a.next b.last b.edges in_b (omega arith)) ∙
            skip b.last end_a end_b (other b.last a.last b.next (Test []) (λ same. omega arith)) ∙ here b.last b.next (Test []),
        outs more b.next (λ q l h. own q (omega arith) h ∙ skip q part m.edges (above q p b.next part (each_left (From p b.next) part [] (ranged (branch place t xs ys done) p)) l)),
      )
  outs (cycle place t tried xs more) p own =
      let a = built xs (p + 1) (p + 1 + 1) in
      let m = built more a.next (a.next + 1) in
      let f1 = (spans xs (p + 1)).up in
      let f2 = (spans xs (p + 1)).next in
      let h1 = (spans more a.next).up in
      let trues = tests true p (p + 1) (ways t true) in
      let falses = tests false p a.next (ways t false) in
      let back = arc a.last p (Test []) ∷ [] in
      let part = (loop place t tried p (p + 1) a).edges in
      let in_a = ranged xs (p + 1) in
      let in_m = ranged more a.next in
      let cut = λ (q : ℕ) (l : p ≤ q) (h : q < a.next). own q l (omega arith) ∙ stop q part m.edges (below q a.next m.last m.edges in_m h) in
      let past = λ (q : ℕ) (l : p < q) (h : q < a.next).
      cut q (omega arith) h ∙ skip q trues (a.edges ++ (back ++ falses)) (other_tests q true p (p + 1) (ways t true) l) in (
        cut p (omega arith) (omega arith) ∙
            tests_here true p (p + 1) (ways t true) (a.edges ++ (back ++ falses)) falses
            (skip p a.edges (back ++ falses) (below p (p + 1) a.last a.edges in_a (omega arith)) ∙
            skip p back falses (other p a.last p (Test []) (λ same. omega arith)) ∙ all_leave p falses (tests_at false p a.next (ways t false))),
        outs xs (p + 1) (λ q l h. past q (omega arith) (omega arith) ∙ stop q a.edges (back ++ falses)
            (none_of q back falses (other q a.last p (Test []) (λ same. omega arith)) (other_tests q false p a.next (ways t false) (omega arith)))),
        past a.last (omega arith) (omega arith) ∙ skip a.last a.edges (back ++ falses) (above a.last (p + 1) a.last a.edges in_a (omega arith)) ∙
            stop a.last back falses (other_tests a.last false p a.next (ways t false) (omega arith)) ∙ here a.last p (Test []),
        outs more a.next (λ q l h. own q (omega arith) h ∙ skip q part m.edges (above q p a.next part (each_left (From p a.next) part [] (ranged (cycle place t tried xs done) p)) l)),
      )
