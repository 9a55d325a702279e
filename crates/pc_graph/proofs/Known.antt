-- What each edge of a program's graph is: that of a statement without blocks, a way of a test, or no step.
use Rattle.std.proofs.Common.{◌≡◌, ℕ, ◌+◌, ◌<◌, ℤ, List, [], ◌∷◌, ◌++◌, Bool, true, false, cond, refl, sym, ap, ◌∙◌, arith, inl, inr}
use Rattle.std.specs.Prelude.{◌⊎◌}
use Rattle.std.specs.List.{AllByRecursion as Each}
use Rattle.pc_text.specs.declared.place.Place.{Place}
use Rattle.pc_rows.specs.Linear.{Linear, State}
use Rattle.pc_rows.proofs.Joining.{each_left, each_right, each_join}
use Rattle.pc_program.specs.Machine.{Going, step}
use Rattle.pc_program.specs.Sane.{sane_test}
use Rattle.pc_program.specs.Values.{chosen}
use Rattle.pc_program.specs.declared.tree.Test.{Test as Condition}
use Rattle.pc_program.specs.declared.tree.Stmt.{Stmt, roll-Stmt}
use Rattle.pc_program.specs.declared.tree.Stmt.TheOpen as stmt
use Rattle.pc_flow.specs.Arc.{Arc, arc, marked}
use Rattle.pc_flow.specs.declared.what.What.TheVariants.{Test}
use Rattle.pc_flow.specs.Incidence.{leaving}
use Rattle.pc_flow.specs.Lists.{In}
use Rattle.pc_flow.proofs.Lists.{each_in, each_more}
use Rattle.pc_graph.specs.declared.draft.Loop.{Loop}
use Rattle.pc_graph.specs.Lowering.{Piece, tests, join_edges, split, loop}
use Rattle.pc_graph.specs.Straight.{is_any}
use Rattle.pc_graph.specs.Ways.{ways}
use Rattle.pc_graph.proofs.Blocks.{Single, Block, done, single, branch, cycle, single_stmt, stmts, what_of, built, SaneSingle, Sane, StraightSingle, Straight, spans}
use Rattle.pc_graph.proofs.Listed.{Listed, begins, ends}
use Rattle.pc_graph.proofs.Outs.{Outs}
use Rattle.pc_graph.proofs.Unrolled.{step-if, step-while}

pub cond_append : (b : Bool) (xs ys k : List Stmt) → (cond b xs ys ++ k) ≡ cond b (xs ++ k) (ys ++ k)
cond_append true xs ys k = refl
cond_append false xs ys k = refl

-- of statements over v variables, with a list ρ for each point, in a graph g; `straight` says whether they have no tests but `*`;
-- Heads has the heads of the loops, and Joins the edges that are no step
module _ (v : ℕ) (ρ : ℕ → List Stmt) (g : List Arc) (straight : Bool) (Heads : ℕ → Type 0) (Joins : Arc → Type 0) where
  pub record IsLone (e : Arc) : Type 0 where
    pub place : Place
    pub statement : Single
    pub after : List Stmt
    pub sane : SaneSingle v statement
    pub plain : straight ≡ true → StraightSingle statement
    pub what : e.what ≡ what_of statement
    pub up : e.from < e.to
    pub unmarked : e.body ≡ false
    pub here : ρ e.from ≡ single_stmt place statement ∷ after
    pub next : ρ e.to ≡ after
    pub only : leaving e.from g ≡ e ∷ []

  -- what the two sides of a test at the point p have in common
  pub record Fork (t : Condition) (into : Bool) (p then_at else_at : ℕ) (then_list else_list : List Stmt) : Type 0 where
    pub sane : sane_test v t ≡ true
    pub plain : straight ≡ true → is_any t ≡ true
    pub marks : into ≡ true → Heads p
    pub steps : (s : State) (c : ℤ) → step (ρ p) s c ≡ Going (cond (chosen t s c) then_list else_list) s
    pub then_up : p < then_at
    pub else_up : p < else_at
    pub then_is : ρ then_at ≡ then_list
    pub else_is : ρ else_at ≡ else_list
    pub outs : leaving p g ≡ tests into p then_at (ways t true) ++ tests false p else_at (ways t false)

  pub record IsWay (e : Arc) : Type 0 where
    pub test : Condition
    pub side : Bool
    pub way : List Linear
    pub into : Bool
    pub then_at : ℕ
    pub else_at : ℕ
    pub then_list : List Stmt
    pub else_list : List Stmt
    pub fork : Fork test into e.from then_at else_at then_list else_list
    pub what : e.what ≡ Test way
    pub is : In way (ways test side)
    pub up : e.from < e.to
    pub marks : e.body ≡ true → Heads e.from
    pub next : ρ e.to ≡ cond side then_list else_list
    pub lies : In e (cond side (tests into e.from then_at (ways test true)) (tests false e.from else_at (ways test false)))

  pub record IsJoin (e : Arc) : Type 0 where
    pub what : e.what ≡ Test []
    pub up : (e.from < e.to) ⊎ Heads e.to
    pub unmarked : e.body ≡ false
    pub same : ρ e.from ≡ ρ e.to
    pub only : leaving e.from g ≡ e ∷ []
    pub member : Joins e

  abbrev pub IsKnown : Arc → Type 0
  IsKnown e = IsJoin e ⊎ IsLone e ⊎ IsWay e

  in_tests : (m : Bool) (p q : ℕ) (ws : List (List Linear)) → Each (λ w. In (marked m p q (Test w)) (tests m p q ws)) ws
  in_tests m p q [] = tt
  in_tests m p q (w ∷ ws) =
      (inl refl, each_more (λ w. In (marked m p q (Test w)) (tests m p q ws)) (λ u. In (marked m p q (Test u)) (tests m p q (w ∷ ws))) (λ u i. inr i) ws (in_tests m p q ws))

  module _ (t : Condition) (into : Bool) (p then_at else_at : ℕ) (then_list else_list : List Stmt) (f : Fork t into p then_at else_at then_list else_list) where
    sided : (m side : Bool) (q : ℕ) (ws : List (List Linear)) → p < q → ρ q ≡ cond side then_list else_list → (m ≡ true → Heads p) → Each (λ w. In w (ways t side)) ws →
        Each (λ w. In (marked m p q (Test w)) (cond side (tests into p then_at (ways t true)) (tests false p else_at (ways t false)))) ws → Each IsKnown (tests m p q ws)
    sided m side q [] up next marks is lies = tt
    sided m side q (w ∷ ws) up next marks is lies = (
      inr (inr (record {
        test = t;
        side = side;
        way = w;
        into = into;
        then_at = then_at;
        else_at = else_at;
        then_list = then_list;
        else_list = else_list;
        fork = f;
        what = refl;
        is = is.0;
        up = up;
        marks = marks;
        next = next;
        lies = lies.0;
      })),
      sided m side q ws up next marks is.1 lies.1,
    )

    trues : Each IsKnown (tests into p then_at (ways t true))
    trues = sided into true then_at (ways t true) f.then_up f.then_is f.marks (each_in (ways t true)) (in_tests into p then_at (ways t true))

    falses : Each IsKnown (tests false p else_at (ways t false))
    falses = sided false false else_at (ways t false) f.else_up f.else_is (λ e. absurd (cc)) (each_in (ways t false)) (in_tests false p else_at (ways t false))

  join : (p q : ℕ) → (p < q) ⊎ Heads q → ρ p ≡ ρ q → leaving p g ≡ arc p q (Test []) ∷ [] → Joins (arc p q (Test [])) → IsJoin (arc p q (Test []))
  join p q up same only member = record { what = refl; up = up; unmarked = refl; same = same; only = only; member = member }

  pub record Known (a : Piece) : Type 0 where
    pub edges : Each IsKnown a.edges
    pub joins : Each IsJoin a.joins

  pub kinds : (b : Block) (p : ℕ) (k : List Stmt) → Sane v b → (straight ≡ true → Straight b) → Listed ρ b p k → Outs g b p →
      Each (λ l. Heads l.head) (built b p (p + 1)).loops → Each Joins (built b p (p + 1)).joins → Known (built b p (p + 1))
  kinds done p k s z l o h j = record { edges = tt; joins = tt }
  kinds (single place x more) p k s z l o h j =
      let lone : IsLone (arc p (p + 1) (what_of x)) = record {
        place = place;
        statement = x;
        after = stmts more ++ k;
        sane = s.0;
        plain = λ e. (z e).0;
        what = refl;
        up = omega arith;
        unmarked = refl;
        here = l.0;
        next = begins ρ more (p + 1) k l.1;
        only = o.0;
      } in
      let f = kinds more (p + 1) k s.1 (λ e. (z e).1) l.1 o.1 h j in
      record { edges = (inr (inl lone), f.edges); joins = f.joins }
  kinds (branch place t xs ys more) p k s z l o h j =
      let rest = stmts more ++ k in
      let a = built xs (p + 1) (p + 1 + 1) in
      let b = built ys a.next (a.next + 1) in
      let m = built more b.next (b.next + 1) in
      let f1 = (spans xs (p + 1)).up in
      let f2 = (spans xs (p + 1)).next in
      let g1 = (spans ys a.next).up in
      let g2 = (spans ys a.next).next in
      let HeadsOf = λ (l : Loop). Heads l.head in
      let h_own = each_left HeadsOf (a.loops ++ b.loops) m.loops h in
      let j_own = each_left Joins (a.joins ++ (b.joins ++ join_edges a.last b.last b.next)) m.joins j in
      let j_more = each_right Joins a.joins (b.joins ++ join_edges a.last b.last b.next) j_own in
      let j_ends = each_right Joins b.joins (join_edges a.last b.last b.next) j_more in
      let after = begins ρ more b.next k l.3 in
      let fork : Fork t false p (p + 1) a.next (stmts xs ++ rest) (stmts ys ++ rest) = record {
        sane = s.0;
        plain = λ e. (z e).0;
        marks = λ e. absurd (cc);
        steps = λ u c. ap (λ (w : List Stmt). step w u c) l.0 ∙ step-if place t (stmts xs) (stmts ys) rest u c ∙ ap (λ (w : List Stmt). Going w u) (cond_append (chosen t u c) (stmts xs) (stmts ys) rest);
        then_up = omega arith;
        else_up = omega arith;
        then_is = begins ρ xs (p + 1) rest l.1;
        else_is = begins ρ ys a.next rest l.2;
        outs = o.0;
      } in
      let first = kinds xs (p + 1) rest s.1 (λ e. (z e).1) l.1 o.1 (each_left HeadsOf a.loops b.loops h_own) (each_left Joins a.joins _ j_own) in
      let second = kinds ys a.next rest s.2 (λ e. (z e).2) l.2 o.3 (each_right HeadsOf a.loops b.loops h_own) (each_left Joins b.joins _ j_more) in
      let end_a = join a.last b.next (inl (omega arith)) (ends ρ xs (p + 1) rest l.1 ∙ sym after) o.2 j_ends.0 in
      let end_b = join b.last b.next (inl (omega arith)) (ends ρ ys a.next rest l.2 ∙ sym after) o.4 j_ends.1.0 in
      let later = kinds more b.next k s.3 (λ e. (z e).3) l.3 o.5 (each_right HeadsOf (a.loops ++ b.loops) m.loops h)
      (each_right Joins (a.joins ++ (b.joins ++ join_edges a.last b.last b.next)) m.joins j) in
      record {
        edges = each_join IsKnown (split place t p (p + 1) a b).edges m.edges
            (each_join IsKnown (tests false p (p + 1) (ways t true)) _ (trues t false p (p + 1) a.next (stmts xs ++ rest) (stmts ys ++ rest) fork)
            (each_join IsKnown a.edges _ first.edges
            (each_join IsKnown (tests false p a.next (ways t false)) _ (falses t false p (p + 1) a.next (stmts xs ++ rest) (stmts ys ++ rest) fork)
            (each_join IsKnown b.edges _ second.edges (inl end_a, (inl end_b, tt)))))) later.edges;
        joins = each_join IsJoin (split place t p (p + 1) a b).joins m.joins
            (each_join IsJoin a.joins _ first.joins (each_join IsJoin b.joins _ second.joins (end_a, (end_b, tt)))) later.joins;
      }
  kinds (cycle place t tried xs more) p k s z l o h j =
      let rest = stmts more ++ k in
      let again = roll-Stmt (stmt.While place t tried (stmts xs)) ∷ rest in
      let a = built xs (p + 1) (p + 1 + 1) in
      let m = built more a.next (a.next + 1) in
      let f1 = (spans xs (p + 1)).up in
      let f2 = (spans xs (p + 1)).next in
      let HeadsOf = λ (l : Loop). Heads l.head in
      let fork : Fork t true p (p + 1) a.next (stmts xs ++ again) rest = record {
        sane = s.0;
        plain = λ e. absurd (z e);
        marks = λ e. h.0;
        steps = λ u c. ap (λ (w : List Stmt). step w u c) l.0 ∙ step-while place t tried (stmts xs) rest u c;
        then_up = omega arith;
        else_up = omega arith;
        then_is = begins ρ xs (p + 1) again l.1;
        else_is = begins ρ more a.next k l.2;
        outs = o.0;
      } in
      let first = kinds xs (p + 1) again s.2 (λ e. absurd (z e)) l.1 o.1 (each_left HeadsOf a.loops m.loops h.1) (each_left Joins a.joins m.joins j.1) in
      let turn = join a.last p (inr h.0) (ends ρ xs (p + 1) again l.1 ∙ sym l.0) o.2 j.0 in
      let later = kinds more a.next k s.3 (λ e. absurd (z e)) l.2 o.3 (each_right HeadsOf a.loops m.loops h.1) (each_right Joins a.joins m.joins j.1) in
      record {
        edges = each_join IsKnown (loop place t tried p (p + 1) a).edges m.edges
            (each_join IsKnown (tests true p (p + 1) (ways t true)) _ (trues t true p (p + 1) a.next (stmts xs ++ again) rest fork)
            (each_join IsKnown a.edges _ first.edges (inl turn, falses t true p (p + 1) a.next (stmts xs ++ again) rest fork))) later.edges;
        joins = (turn, each_join IsJoin a.joins m.joins first.joins later.joins);
      }
