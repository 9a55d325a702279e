-- On a chain of tests and assertions the rows of a point tell which entry states reach it.
use Rattle.std.proofs.Common.{◌≡◌, ◌∙◌, ℕ, zero, suc, ◌+◌, ◌-◌, ◌≤◌, List, [], ◌∷◌, ◌++◌, drop, length, Option, Some, None, slice_get, get_or, refl, sym, ap, subst, arith, pos}
use Rattle.std.specs.Prelude.{◌↔◌, IsSomeAnd, replicate}
use Rattle.std.proofs.lemmas.List.{append-nil}
use Rattle.std.proofs.lemmas.Option.{slice_get-get_or, slice_get_within}
use Rattle.pc_rows.specs.declared.rows.TheConstants.{ROWS}
use Rattle.pc_rows.specs.Linear.{Linear, State, MeetsAll}
use Rattle.pc_rows.proofs.Adding.{drop_got}
use Rattle.pc_rows.proofs.First.{zero_from_all}
use Rattle.pc_flow.specs.declared.what.What.{What}
use Rattle.pc_flow.specs.declared.what.What.TheVariants.{Enter, Test, Set, Check}
use Rattle.pc_flow.specs.Arc.{Arc, arc}
use Rattle.pc_flow.specs.Flow.{Flow}
use Rattle.pc_flow.specs.Shape.{IsGraph}
use Rattle.pc_flow.specs.Walk.{Pass, entered, Reach}
use Rattle.pc_domain.specs.Fold.{Brings, Folds, FlowsTo, IsFold}
use Rattle.pc_domain.specs.View.{View}
use Rattle.pc_domain.proofs.Options.{some_is}
use Rattle.pc_poly.specs.Polyhedra.{Value, HasState, boundless, SaysTested, SaysEntered, SaysAfter}
use Rattle.pc_poly.specs.Views.{poly_of, poly_says}
use Rattle.pc_poly.specs.Chains.{IsTest, tests_of, Follows, tests_count, IsChain}
use Rattle.pc_poly.specs.Laws.{ChainsAreExact}
use Rattle.pc_poly.proofs.Viewing.{views_tell, list_is_meant, never_met}
use Rattle.pc_poly.proofs.Passing.{Runs, runs_of, one_enters, ends, came, goes}

-- ---- tests

passes : (w : What) (u t : State) → IsTest w → Pass w u t → MeetsAll u (tests_of w) × (t ≡ u)
passes (Enter params) u t is h = absurd is
passes (Test rows) u t is h = h
passes (Set x form lo hi) u t is h = absurd is
passes (Check rows) u t is h = h

passed : (w : What) (s : State) → IsTest w → MeetsAll s (tests_of w) → Pass w s s
passed (Enter params) s is h = absurd is
passed (Test rows) s is h = (h, refl)
passed (Set x form lo hi) s is h = absurd is
passed (Check rows) s is h = (h, refl)

said_of_test : (v : Value) (w : What) (new : Value) → IsTest w → SaysAfter v w new → SaysTested v (tests_of w) new
said_of_test v (Enter params) new is h = absurd is
said_of_test v (Test rows) new is h = h
said_of_test v (Set x form lo hi) new is h = absurd is
said_of_test v (Check rows) new is h = h

abbrev pub rows_count : Value → ℕ
rows_count None = 0
rows_count (Some p) = length p.rows

-- what is left after a test, where there is room for its rows
tested_is : (v w : Value) (own : List Linear) → rows_count v + length own ≤ ROWS → SaysTested v own w →
    ((s : State) → HasState w s ↔ (HasState v s × MeetsAll s own)) × (rows_count w ≤ rows_count v + length own)
tested_is None w own room says =
    subst (λ (z : Value). ((s : State) → HasState z s ↔ (⊥ × MeetsAll s own)) × (rows_count z ≤ 0 + length own)) (sym says)
    ((λ s. ((λ h. absurd h), (λ h. h.0))), omega arith)
tested_is (Some p) None own room says = ((λ s. ((λ h. absurd h), (λ h. says room s h.0 h.1))), omega arith)
tested_is (Some p) (Some q) own room says = let both = says room in (both.states, both.few)

follows_test : (n : ℕ) (edges : List Arc) (k : ℕ) (e : Arc) → Follows n edges → slice_get edges k ≡ Some e → IsTest e.what
follows_test n [] k e h at = absurd (cc)
follows_test n (f ∷ edges) zero e h at = let same : f ≡ e = cc in subst (λ (x : Arc). IsTest x.what) same h.2
follows_test n (f ∷ edges) (suc k) e h at = follows_test (n + 1) edges k e h.3 at

module _ (g : Flow) (views : List View) (graph : IsGraph g) (chain : IsChain g) (fold : IsFold poly_says g views) where
  abbrev pub entry : Arc
  entry = arc 0 1 (Enter g.params)

  edges_are : g.edges ≡ entry ∷ drop 1 g.edges
  edges_are = drop_got g.edges 0 entry graph.enters

  runs : Runs 0 g.edges
  runs = subst (Runs 0) (sym edges_are) (refl, refl, runs_of 1 (drop 1 g.edges) chain.follows)

  is_test : (k : ℕ) (e : Arc) → slice_get g.edges (suc k) ≡ Some e → IsTest e.what
  is_test k e at = follows_test 1 (drop 1 g.edges) k e chain.follows (subst (λ (z : List Arc). slice_get z (suc k) ≡ Some e) edges_are at)

  -- what is known of the value at a point
  pub record Exact (k : ℕ) (v : Value) : Type 0 where
    pub sound : (s : State) → length s ≡ g.params → HasState v s → Reach g k s
    pub complete : (s : State) → Reach g k s → HasState v s
    pub few : rows_count v + tests_count (drop k g.edges) ≤ ROWS

  at_entry : Exact 0 (boundless g.variables)
  at_entry = record { sound = λ s long h. (s, long, ([], (refl, alone s long))); complete = λ s r. tt; few = all }
    where
      alone : (s : State) → length s ≡ g.params → s ≡ entered g s
      alone s long =
          let same = chain.parameters in
          let none : g.variables - g.params ≡ 0 = omega arith in
          sym (ap (λ (n : ℕ). s ++ replicate n (pos 0)) none ∙ append-nil s)

      all : 0 + tests_count (drop 0 g.edges) ≤ ROWS
      all = subst (λ (z : List Arc). 0 + tests_count z ≤ ROWS) (sym edges_are) (let h = chain.few in omega arith)

  at_start : (v : Value) → IsSomeAnd v (λ q. q.rows ≡ []) → Exact 1 v
  at_start None h = absurd h
  at_start (Some q) h = record {
    sound = λ s long m. goes g runs 0 entry graph.enters s s (sym (zero_from_all g.params s (omega arith))) (at_entry.sound s long tt);
    complete = λ s r. subst (MeetsAll s) (sym h) tt;
    few = let l = ap length h in let f = chain.few in omega arith;
  }

  after_test : (k : ℕ) (v w : Value) (e : Arc) → slice_get g.edges (suc k) ≡ Some e → Exact (suc k) v → SaysAfter v e.what w → Exact (suc (suc k)) w
  after_test k v w e at x says =
      let test = is_test k e at in
      let own = tests_of e.what in
      let rest = ap tests_count (drop_got g.edges (suc k) e at) in
      let next : suc k + 1 ≡ suc (suc k) = omega arith in
      let left = ap (λ (n : ℕ). tests_count (drop n g.edges)) next in
      let room = x.few in
      let is = tested_is v w own (omega arith) (said_of_test v e.what w test says) in
      record {
        sound = λ s long h. let m = (is.0 s).0 h in goes g runs (suc k) e at s s (passed e.what s test m.1) (x.sound s long m.0);
        complete = λ s r.
            let c = came g runs (suc k) e at s r in
            let p = passes e.what c.0 s test c.1 in
            (is.0 s).1 (subst (HasState v) (sym p.1) (x.complete c.0 c.2), subst (λ (z : State). MeetsAll z own) (sym p.1) p.0);
        few = let f = is.1 in omega arith;
      }

  everything_view : (v : View) → slice_get views 0 ≡ Some v → poly_of v ≡ boundless g.variables
  everything_view v at =
      let first = some_is (slice_get views 0) (poly_says.everything g.variables) fold.entry in
      let same : first.0 ≡ v = let got = first.1 in cc in
      ap poly_of (sym same ∙ first.2) ∙ views_tell (boundless g.variables)

  -- the view of a point comes of that of the point before
  arrives : (k : ℕ) (w : View) → slice_get views (suc k) ≡ Some w →
      (v : View) × (slice_get views k ≡ Some v) × ((e : Arc) × (slice_get g.edges k ≡ Some e) × SaysAfter (poly_of v) e.what (poly_of w))
  arrives k w got =
      let within = slice_get_within views (suc k) w got in
      let long = fold.long in
      let most = graph.points in
      let e = get_or g.edges k entry in
      let at : slice_get g.edges k ≡ Some e = slice_get-get_or g.edges k entry (omega arith) in
      let v = get_or views k None in
      let before : slice_get views k ≡ Some v = slice_get-get_or views k None (omega arith) in
      let whole = some_is (slice_get views (suc k)) (FlowsTo poly_says g views (suc k)) (fold.points (suc k) (omega arith) (omega arith)) in
      let same : whole.0 ≡ w = let is = whole.1 in cc in
      let flows = subst (FlowsTo poly_says g views (suc k)) same whole.2 in
      let folds = subst (λ (z : List Arc). Folds poly_says.after poly_says.join (λ x. x.from) views z flows.0 w) (one_enters 0 k (suc k) g.edges e runs (omega arith) at) flows.2 in
      let source : slice_get views e.from ≡ Some v = ap (slice_get views) (ends g runs k e at).0 ∙ before in
      let brought = subst (λ (o : Option View). Brings poly_says.after poly_says.join o e.what flows.0 folds.0) source folds.1 in
      let joined : folds.0 ≡ brought.0 = brought.2.left flows.1 in
      (v, before, (e, at, subst (λ (z : View). SaysAfter (poly_of v) e.what (poly_of z)) (sym (folds.2 ∙ joined)) brought.1))

  after_entry : (w v : View) (e : Arc) → slice_get views 0 ≡ Some v → slice_get g.edges 0 ≡ Some e → SaysAfter (poly_of v) e.what (poly_of w) → Exact 1 (poly_of w)
  after_entry w v e at first says =
      let is : e ≡ entry = let enters = graph.enters in cc in
      let moved = subst (λ (x : Arc). SaysAfter (poly_of v) x.what (poly_of w)) is says in
      at_start (poly_of w) (subst (λ (z : Value). SaysEntered z g.params (poly_of w)) (everything_view v at) moved (let same = chain.parameters in omega arith) refl)

  pub exact : (k : ℕ) (w : View) → slice_get views k ≡ Some w → Exact k (poly_of w)
  exact zero w at = subst (Exact 0) (sym (everything_view w at)) at_entry
  exact (suc zero) w at = let a = arrives 0 w at in after_entry w a.0 a.2.0 a.1 a.2.1 a.2.2
  exact (suc (suc k)) w at =
      let a = arrives (suc k) w at in
      after_test k (poly_of a.0) (poly_of w) a.2.0 a.2.1 (exact (suc k) a.0 a.1) a.2.2

pub chains_are_exact : ChainsAreExact
chains_are_exact g views p v rows graph chain fold at said =
    let x = exact g views graph chain fold p v at in
    let list = list_is_meant (poly_of v) in
    record {
      exact = λ s long. ((λ m. x.sound s long ((list s).1 (subst (MeetsAll s) said m))), (λ r. subst (MeetsAll s) (sym said) ((list s).0 (x.complete s r))));
      nothing = λ e s r. never_met s (subst (MeetsAll s) (sym said ∙ e) ((list s).0 (x.complete s r)));
    }
