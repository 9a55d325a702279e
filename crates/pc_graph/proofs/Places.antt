-- The places of the points that the rules make.
use Rattle.std.proofs.Common.{◌≡◌, ℕ, ◌+◌, List, [], ◌∷◌, ◌++◌, length, Bool, true, false, refl, sym, ap, subst, ◌∙◌, arith, inl, inr, length-append}
use Rattle.std.specs.List.{AllByRecursion as Each}
use Rattle.pc_text.specs.declared.place.Place.{Place}
use Rattle.pc_rows.specs.Linear.{Linear}
use Rattle.pc_rows.proofs.Joining.{each_left}
use Rattle.pc_program.specs.Forms.{rows_by, form}
use Rattle.pc_program.specs.declared.tree.Stmt.{Stmt, Stmt-F, roll-Stmt, out-roll-Stmt}
use Rattle.pc_program.specs.declared.tree.Stmt.TheOpen as stmt
use Rattle.pc_program.specs.declared.tree.Test.{Test as Condition}
use Rattle.pc_program.specs.declared.tree.Test.TheVariants as test
use Rattle.pc_language.specs.declared.operator.Op.{Op}
use Rattle.pc_language.specs.declared.operator.Op.TheVariants as op
use Rattle.pc_flow.specs.Arc.{Arc, arc}
use Rattle.pc_flow.specs.Lists.{AnyOf, In}
use Rattle.pc_graph.specs.declared.draft.Loop.{Loop}
use Rattle.pc_graph.specs.Lowering.{Piece, graph, made, points_from, tests}
use Rattle.pc_graph.specs.Places.{first_place, size, owned, LeadsTo, IsMade, AreMade, PlacesAreTheirs}
use Rattle.pc_graph.specs.Rest.{rest}
use Rattle.pc_graph.specs.Ways.{is_lone, ways_of, ways}
use Rattle.pc_graph.proofs.Blocks.{Single, assigns, asserts, assumes, Block, done, single, branch, cycle, single_stmt, stmts, what_of, built}
use Rattle.pc_graph.proofs.Listed.{Listed, begins, counted, rests_are, body_of, made_is, program_listed}
use Rattle.pc_graph.proofs.Counts.{counted as numbers}
use Rattle.pc_graph.proofs.Outs.{Outs}
use Rattle.pc_graph.proofs.Running.{members}
use Rattle.pc_graph.proofs.Whole.{body_outs}

-- ---- the first point

lone_has : (o : Op) (l r : Linear) → (lone : Bool) → AnyOf (λ w. Unit {0}) (ways_of lone (rows_by o l r ++ []) true)
lone_has o l r false = inl tt
lone_has op.Less l r true = inl tt
lone_has op.AtMost l r true = inl tt
lone_has op.Greater l r true = inl tt
lone_has op.AtLeast l r true = inl tt
lone_has op.Equal l r true = inl tt
lone_has op.Unequal l r true = inl tt

-- a test may hold in some way
has_way : (t : Condition) → AnyOf (λ w. Unit {0}) (ways t true)
has_way test.Any = inl tt
has_way (test.All []) = inl tt
has_way (test.All (c ∷ [])) = lone_has c.op (form c.left) (form c.right) (is_lone (c ∷ []))
has_way (test.All (c ∷ d ∷ cs)) = inl tt

member_leads : (g : List Arc) (e : Arc) → In e g → LeadsTo g e.from e.to
member_leads [] e m = absurd m
member_leads (x ∷ g) e (inl same) = inl (ap (λ (z : Arc). z.from) (sym same), ap (λ (z : Arc). z.to) (sym same))
member_leads (x ∷ g) e (inr m) = inr (member_leads g e m)

test_leads : (g : List Arc) (b : Bool) (p q : ℕ) (ws : List (List Linear)) → AnyOf (λ w. Unit {0}) ws → Each (λ e. In e g) (tests b p q ws) → LeadsTo g p q
test_leads g b p q [] h m = absurd h
test_leads g b p q (w ∷ ws) h m = member_leads g _ m.0

-- ---- the points of a tree of statements

module _ (g : List Arc) (ρ : ℕ → List Stmt) where
  -- each of the points with these places, which are numbered from m on, was made by a statement with its place
  abbrev pub Makes : ℕ → List Place → Type 0
  Makes m [] = Unit {0}
  Makes m (place ∷ places) = IsMade g ρ m place × Makes (m + 1) places

  makes_join : (m n : ℕ) (xs ys : List Place) → n ≡ m + length xs → Makes m xs → Makes n ys → Makes m (xs ++ ys)
  makes_join m n [] ys e h k = let same : n ≡ m = omega arith in subst (λ (i : ℕ). Makes i ys) same k
  makes_join m n (x ∷ xs) ys e h k = (h.0, makes_join (m + 1) n xs ys (omega arith) h.1 k)

  -- a point that a statement makes itself
  made_by : (f : Stmt-F Stmt) (p m : ℕ) (k : List Stmt) → ρ p ≡ roll-Stmt f ∷ k → LeadsTo g p (p + 1) →
      AnyOf (λ o. (m ≡ (p + 1) + o.past) × (ρ m ≡ o.list)) (owned (roll-Stmt f) f k) → IsMade g ρ m (first_place f)
  made_by f p m k here leads is =
      record {
        source = p;
        first = p + 1;
        statement = roll-Stmt f;
        after = k;
        lower = omega arith;
        here = here;
        leads = leads;
        is = subst (λ (z : Stmt-F Stmt). AnyOf (λ o. (m ≡ (p + 1) + o.past) × (ρ m ≡ o.list)) (owned (roll-Stmt f) z k)) (sym (out-roll-Stmt f)) is;
        has = ap first_place (sym (out-roll-Stmt f));
      }

  single_made : (place : Place) (x : Single) (p : ℕ) (k : List Stmt) → ρ p ≡ single_stmt place x ∷ k → ρ (p + 1) ≡ k → LeadsTo g p (p + 1) → IsMade g ρ (p + 1) place
  single_made place (assigns v r) p k here next leads = made_by (stmt.Set place v r) p (p + 1) k here leads (inl (omega arith, next))
  single_made place (asserts cs) p k here next leads = made_by (stmt.Assert place cs) p (p + 1) k here leads (inl (omega arith, next))
  single_made place (assumes cs) p k here next leads = made_by (stmt.Assume place cs) p (p + 1) k here leads (inl (omega arith, next))

  -- the points of a block
  sized : (b : Block) (n : ℕ) → (built b n (n + 1)).next ≡ n + 1 + size (stmts b)
  sized b n = counted b n (n + 1) [] ∙ ap (λ (z : List (List Stmt)). n + 1 + length z) (sym (rests_are b []))

  pub placed : (b : Block) (p : ℕ) (k : List Stmt) → Listed ρ b p k → Outs g b p → Makes (p + 1) (built b p (p + 1)).places
  placed done p k l o = tt
  placed (single place x more) p k l o = (
    single_made place x p (stmts more ++ k) l.0 (begins ρ more (p + 1) k l.1) (member_leads g (arc p (p + 1) (what_of x)) (members g p (arc p (p + 1) (what_of x) ∷ []) o.0).0),
    placed more (p + 1) k l.1 o.1,
  )
  placed (branch place t xs ys more) p k l o =
      let rest = stmts more ++ k in
      let a = built xs (p + 1) (p + 1 + 1) in
      let b = built ys a.next (a.next + 1) in
      let m = built more b.next (b.next + 1) in
      let f1 = (numbers xs (p + 1) (p + 1 + 1)).points in
      let f2 = sized xs (p + 1) in
      let g1 = (numbers ys a.next (a.next + 1)).points in
      let g2 = sized ys a.next in
      let trues = tests false p (p + 1) (ways t true) in
      let leads = test_leads g false p (p + 1) (ways t true) (has_way t) (each_left (λ e. In e g) trues _ (members g p (trues ++ tests false p a.next (ways t false)) o.0)) in
      let made = λ (n : ℕ). made_by (stmt.If place t (stmts xs) (stmts ys)) p n rest l.0 leads in
      makes_join (p + 1) (b.next + 1) (place ∷ (a.places ++ (place ∷ (b.places ++ (place ∷ []))))) m.places
      (omega (arith, length-append a.places (place ∷ (b.places ++ (place ∷ []))), length-append b.places (place ∷ []))) (
        made (p + 1) (inl (omega arith, begins ρ xs (p + 1) rest l.1)),
        makes_join (p + 1 + 1) a.next a.places (place ∷ (b.places ++ (place ∷ []))) f1 (placed xs (p + 1) rest l.1 o.1) (
          made a.next (inr (inl (omega arith, begins ρ ys a.next rest l.2))),
          makes_join (a.next + 1) b.next b.places (place ∷ []) g1 (placed ys a.next rest l.2 o.3) (made b.next (inr (inr (inl (omega arith, begins ρ more b.next k l.3)))), tt),
        ),
      ) (placed more b.next k l.3 o.5)
  placed (cycle place t tried xs more) p k l o =
      let rest = stmts more ++ k in
      let again = roll-Stmt (stmt.While place t tried (stmts xs)) ∷ rest in
      let a = built xs (p + 1) (p + 1 + 1) in
      let m = built more a.next (a.next + 1) in
      let f1 = (numbers xs (p + 1) (p + 1 + 1)).points in
      let f2 = sized xs (p + 1) in
      let trues = tests true p (p + 1) (ways t true) in
      let leads = test_leads g true p (p + 1) (ways t true) (has_way t) (each_left (λ e. In e g) trues _ (members g p (trues ++ tests false p a.next (ways t false)) o.0)) in
      let made = λ (n : ℕ). made_by (stmt.While place t tried (stmts xs)) p n rest l.0 leads in
      makes_join (p + 1) (a.next + 1) (place ∷ (a.places ++ (place ∷ []))) m.places (omega (arith, length-append a.places (place ∷ []))) (
        made (p + 1) (inl (omega arith, begins ρ xs (p + 1) again l.1)),
        makes_join (p + 1 + 1) a.next a.places (place ∷ []) f1 (placed xs (p + 1) again l.1 o.1) (made a.next (inr (inl (omega arith, begins ρ more a.next k l.2))), tt),
      ) (placed more a.next k l.2 o.3)

  points_made : (loops : List Loop) (b m : ℕ) (places : List Place) → Makes m places → AreMade g ρ m (points_from loops b places)
  points_made loops b m [] h = tt
  points_made loops b m (place ∷ places) h = (h.0, points_made loops (b + 1) (m + 1) places h.1)

pub places_are_theirs : PlacesAreTheirs
places_are_theirs p =
    let g = (graph p).edges in
    let all = subst (λ (z : Piece). Makes g (rest p) 2 z.places) (sym (made_is p)) (placed g (rest p) (body_of p) 1 [] (program_listed p) (body_outs p)) in
    record { entry = refl; start = refl; others = points_made g (rest p) (made p).loops 2 2 (made p).places all }
