-- Exact rows of polyhedra are over the variables, so that all of them are shown.
use Rattle.std.proofs.Common.{◌≡◌, ◌∙◌, ℕ, zero, suc, ◌+◌, ◌≤◌, ℤ, pos, List, [], ◌∷◌, true, drop, length, Option, Some, None, slice_get, get_or, refl, sym, ap, ap₂, subst, arith}
use Rattle.std.specs.Prelude.{IsSomeAnd, slice_index_or, replicate, int_le}
use Rattle.std.specs.List.{AllByRecursion as Each}
use Rattle.std.specs.Cmp.Lexicographic.{pointwise}
use Rattle.std.specs.Cmp.Rules.{signed_items}
use Rattle.std.specs.Ordering.{int_eq}
use Rattle.std.proofs.lemmas.Bool.{and_from}
use Rattle.std.proofs.lemmas.Int.{ints}
use Rattle.std.proofs.lemmas.Option.{slice_get-get_or, slice_get_within}
use Rattle.pc_rows.specs.declared.row.TheConstants.{VARIABLES}
use Rattle.pc_rows.specs.declared.rows.TheConstants.{ROWS}
use Rattle.pc_rows.specs.Linear.{Linear, IsOver, zero_from}
use Rattle.pc_rows.proofs.Adding.{drop_got}
use Rattle.pc_flow.specs.declared.what.What.{What}
use Rattle.pc_flow.specs.declared.what.What.TheVariants.{Enter, Test, Set, Check}
use Rattle.pc_flow.specs.Arc.{Arc, arc}
use Rattle.pc_flow.specs.Flow.{Flow}
use Rattle.pc_flow.specs.Shape.{WhatIsOver, LeadsUp, IsGraph}
use Rattle.pc_flow.proofs.Lists.{each_got}
use Rattle.pc_domain.specs.Fold.{Brings, Folds, FlowsTo, IsFold}
use Rattle.pc_domain.specs.View.{View}
use Rattle.pc_domain.proofs.Options.{some_is}
use Rattle.pc_facts.specs.Lines.{is_over, shown}
use Rattle.pc_poly.specs.Polyhedra.{Value, boundless, rows_of, AllLack, SaysTested, SaysEntered, SaysAfter}
use Rattle.pc_poly.specs.Views.{poly_of, poly_says}
use Rattle.pc_poly.specs.Chains.{IsTest, tests_of, Follows, tests_count, IsChain}
use Rattle.pc_poly.proofs.Viewing.{views_tell}
use Rattle.pc_poly.proofs.Passing.{Runs, runs_of, one_enters, ends}
use Rattle.pc_poly.proofs.Chaining.{rows_count, exact}

-- ---- a row over the variables is shown

nothing_to_drop : (n : ℕ) (cs : List ℤ) → ((v : ℕ) → n ≤ v → slice_index_or cs v (pos 0) ≡ pos 0) → zero_from n cs ≡ cs
nothing_to_drop n [] h = refl
nothing_to_drop zero (c ∷ cs) h = ap₂ (λ (z : ℤ) (zs : List ℤ). z ∷ zs) (sym (h 0 (omega arith))) (nothing_to_drop zero cs (λ v le. h (suc v) (omega arith)))
nothing_to_drop (suc n) (c ∷ cs) h = ap (λ (zs : List ℤ). c ∷ zs) (nothing_to_drop n cs (λ v le. h (suc v) (omega arith)))

no_greater : (z : ℤ) → int_le z z ≡ true
no_greater z = grind (arith, ints)

over_is_shown : (n : ℕ) (r : Linear) → IsOver n r → is_over n r ≡ true
over_is_shown n r over =
    and_from (pointwise int_eq (zero_from n r.coefficients) r.coefficients) (int_le r.constant r.constant)
    ((signed_items (zero_from n r.coefficients) r.coefficients).1 (nothing_to_drop n r.coefficients over)) (no_greater r.constant)

pub all_shown : (n : ℕ) (rows : List Linear) → Each (IsOver n) rows → shown n rows ≡ rows
all_shown n [] h = refl
all_shown n (r ∷ rows) h = rw (over_is_shown n r h.0) (ap (λ (more : List Linear). r ∷ more) (all_shown n rows h.1))

-- ---- rows that lack each variable from number n on are over the first n

head_lacks : (n : ℕ) (r : Linear) (rows : List Linear) → ((x : ℕ) → n ≤ x → AllLack x (r ∷ rows)) → IsOver n r
head_lacks n r rows h x le = (h x le).0

over_of : (n : ℕ) (rows : List Linear) → ((x : ℕ) → n ≤ x → AllLack x rows) → Each (IsOver n) rows
over_of n [] h = tt
over_of n (r ∷ rows) h = (head_lacks n r rows h, over_of n rows (λ x le. (h x le).1))

lack_of : (n x : ℕ) → n ≤ x → (rows : List Linear) → Each (IsOver n) rows → AllLack x rows
lack_of n x le [] h = tt
lack_of n x le (r ∷ rows) h = (h.0 x le, lack_of n x le rows h.1)

zeros : (m x : ℕ) → slice_index_or (replicate m (pos 0)) x (pos 0) ≡ pos 0
zeros zero x = refl
zeros (suc m) zero = refl
zeros (suc m) (suc x) = zeros m x

-- ---- values without a variable from number n on

module _ (n : ℕ) where
  abbrev Lacks : Value → Type 0
  Lacks v = (x : ℕ) → n ≤ x → AllLack x (rows_of v)

  never_lacks : Lacks None
  never_lacks x le = (zeros VARIABLES x, tt)

  tested_lacks : (v w : Value) (own : List Linear) → rows_count v + length own ≤ ROWS → SaysTested v own w → Lacks v → Each (IsOver n) own → Lacks w
  tested_lacks None w own room says h over = subst Lacks (sym says) never_lacks
  tested_lacks (Some p) None own room says h over = never_lacks
  tested_lacks (Some p) (Some q) own room says h over = λ x le. (says room).over x (h x le) (lack_of n x le own over)

  after_lacks : (w : What) (u v : Value) → IsTest w → rows_count u + length (tests_of w) ≤ ROWS → SaysAfter u w v → Lacks u → WhatIsOver n w → Lacks v
  after_lacks (Enter params) u v is room says h over = absurd is
  after_lacks (Test rows) u v is room says h over = tested_lacks u v rows room says h over
  after_lacks (Set x form lo hi) u v is room says h over = absurd is
  after_lacks (Check rows) u v is room says h over = tested_lacks u v rows room says h over

  empty_lacks : (v : Value) → IsSomeAnd v (λ q. q.rows ≡ []) → Lacks v
  empty_lacks None h = absurd h
  empty_lacks (Some q) h = λ x le. subst (AllLack x) (sym h) tt

tests_follow : (n : ℕ) (edges : List Arc) (k : ℕ) (e : Arc) → Follows n edges → slice_get edges k ≡ Some e → IsTest e.what
tests_follow n [] k e h at = absurd (cc)
tests_follow n (f ∷ edges) zero e h at = let same : f ≡ e = cc in subst (λ (x : Arc). IsTest x.what) same h.2
tests_follow n (f ∷ edges) (suc k) e h at = tests_follow (n + 1) edges k e h.3 at

-- ---- the values at the points of a chain

module _ (g : Flow) (views : List View) (graph : IsGraph g) (chain : IsChain g) (fold : IsFold poly_says g views) where
  abbrev enter : Arc
  enter = arc 0 1 (Enter g.params)

  edges_are : g.edges ≡ enter ∷ drop 1 g.edges
  edges_are = drop_got g.edges 0 enter graph.enters

  runs : Runs 0 g.edges
  runs = subst (Runs 0) (sym edges_are) (refl, refl, runs_of 1 (drop 1 g.edges) chain.follows)

  first_view : (v : View) → slice_get views 0 ≡ Some v → poly_of v ≡ boundless g.variables
  first_view v at =
      let first = some_is (slice_get views 0) (poly_says.everything g.variables) fold.entry in
      let same : first.0 ≡ v = let got = first.1 in cc in
      ap poly_of (sym same ∙ first.2) ∙ views_tell (boundless g.variables)

  -- the view of a point comes of that of the point before
  record Arrival (k : ℕ) (w : View) : Type 0 where
    view : View
    before : slice_get views k ≡ Some view
    edge : Arc
    at : slice_get g.edges k ≡ Some edge
    says : SaysAfter (poly_of view) edge.what (poly_of w)

  arrival : (k : ℕ) (w : View) → slice_get views (suc k) ≡ Some w → Arrival k w
  arrival k w got =
      let within = slice_get_within views (suc k) w got in
      let long = fold.long in
      let most = graph.points in
      let e = get_or g.edges k enter in
      let at : slice_get g.edges k ≡ Some e = slice_get-get_or g.edges k enter (omega arith) in
      let v = get_or views k None in
      let before : slice_get views k ≡ Some v = slice_get-get_or views k None (omega arith) in
      let whole = some_is (slice_get views (suc k)) (FlowsTo poly_says g views (suc k)) (fold.points (suc k) (omega arith) (omega arith)) in
      let same : whole.0 ≡ w = let is = whole.1 in cc in
      let flows = subst (FlowsTo poly_says g views (suc k)) same whole.2 in
      let folds = subst (λ (z : List Arc). Folds poly_says.after poly_says.join (λ x. x.from) views z flows.0 w) (one_enters 0 k (suc k) g.edges e runs (omega arith) at) flows.2 in
      let source : slice_get views e.from ≡ Some v = ap (slice_get views) (ends g runs k e at).0 ∙ before in
      let brought = subst (λ (o : Option View). Brings poly_says.after poly_says.join o e.what flows.0 folds.0) source folds.1 in
      let joined : folds.0 ≡ brought.0 = brought.2.left flows.1 in
      record { view = v; before = before; edge = e; at = at; says = subst (λ (z : View). SaysAfter (poly_of v) e.what (poly_of z)) (sym (folds.2 ∙ joined)) brought.1 }

  entered_lacks : (w : View) → Arrival 0 w → Lacks g.variables (poly_of w)
  entered_lacks w a =
      let is : a.edge ≡ enter = let enters = graph.enters in let at = a.at in cc in
      let moved = subst (λ (x : Arc). SaysAfter (poly_of a.view) x.what (poly_of w)) is a.says in
      let from_all = subst (λ (z : Value). SaysEntered z g.params (poly_of w)) (first_view a.view a.before) moved in
      empty_lacks g.variables (poly_of w) (from_all (let same = chain.parameters in omega arith) refl)

  passed_lacks : (k : ℕ) (w : View) (a : Arrival (suc k) w) → Lacks g.variables (poly_of a.view) → Lacks g.variables (poly_of w)
  passed_lacks k w a h =
      let test = tests_follow 1 (drop 1 g.edges) k a.edge chain.follows (subst (λ (z : List Arc). slice_get z (suc k) ≡ Some a.edge) edges_are a.at) in
      let rest = ap tests_count (drop_got g.edges (suc k) a.edge a.at) in
      let room = (exact g views graph chain fold (suc k) a.view a.before).few in
      let leads = each_got (LeadsUp g.points g.variables) g.edges (suc k) a.edge graph.leads a.at in
      after_lacks g.variables a.edge.what (poly_of a.view) (poly_of w) test (omega arith) a.says h leads.over

  lacks : (k : ℕ) (w : View) → slice_get views k ≡ Some w → Lacks g.variables (poly_of w)
  lacks zero w at = λ x le. subst (λ (v : Value). AllLack x (rows_of v)) (sym (first_view w at)) tt
  lacks (suc zero) w at = entered_lacks w (arrival 0 w at)
  lacks (suc (suc k)) w at = let a = arrival (suc k) w at in passed_lacks k w a (lacks (suc k) a.view a.before)

  -- rows that are said of the view of a point are all shown
  pub rows_are_shown : (k : ℕ) (w : View) (rows : List Linear) → slice_get views k ≡ Some w → poly_says.rows w rows → shown g.variables rows ≡ rows
  rows_are_shown k w rows at said =
      subst (λ (z : List Linear). shown g.variables z ≡ z) (sym said) (all_shown g.variables (rows_of (poly_of w)) (over_of g.variables (rows_of (poly_of w)) (lacks k w at)))
