-- Annotations with tame numbers are proved: at heads where what is owed there is shown, and asked modestly.
use Rattle.std.proofs.Common.{◌≡◌, ℕ, zero, suc, List, [], ◌∷◌, refl, subst, Bool, true, false, inl, inr}
use Rattle.std.specs.List.{AllByRecursion}
use Rattle.pc_rows.specs.Linear.{Linear}
use Rattle.pc_rows.specs.Bounds.{Within, AllWithin}
use Rattle.pc_rows.specs.Modest.{IsModest}
use Rattle.pc_rows.proofs.Joining.{each_join}
use Rattle.pc_flow.specs.declared.point.PointInfo.{PointInfo}
use Rattle.pc_flow.specs.declared.what.What.{What}
use Rattle.pc_flow.specs.declared.what.What.TheVariants.{Enter, Test, Set, Check}
use Rattle.pc_flow.specs.Annotation.{rows_at}
use Rattle.pc_flow.specs.Arc.{Arc}
use Rattle.pc_flow.specs.Carry.{back, owes, test_rows, premises, asked}
use Rattle.pc_flow.specs.Flow.{Flow}
use Rattle.pc_flow.specs.Lists.{AnyOf}
use Rattle.pc_flow.proofs.Asked.{owed_is_asked}
use Rattle.pc_flow.specs.Shape.{NoHeads}
use Rattle.pc_entail.specs.Showing.{question, IsShown}
use Rattle.pc_lower.specs.declared.mode.Mode.{Mode}
use Rattle.pc_lower.specs.Annotation.{is_head}
use Rattle.pc_lower.specs.Candidate.{candidate}
use Rattle.pc_lower.specs.Tame.{tame_bound, HasTameNumbers, AreTame, IsTame}
use Rattle.pc_lower.proofs.Paying.{no_head}
use Rattle.pc_certify.specs.Candidates.{graph_need, IsPromised}
use Rattle.pc_certify.specs.Causes.{RowFails, EdgeFails, Fails}
use Rattle.pc_certify.specs.Provable.{AtHeads, IsInductive, IsSmall}
use Rattle.pc_certify.proofs.Edges.{each_mapped}
use Rattle.pc_certify.proofs.Taming.{rows_hold, shown_rows_hold}

tame_at : (a : List (List Linear)) (p : ℕ) → AllByRecursion AreTame a → AllWithin tame_bound (rows_at a p)
tame_at [] p h = tt
tame_at (rows ∷ a) zero h = h.0.numbers
tame_at (rows ∷ a) (suc p) h = tame_at a p h.1

test_within : (w : What) → HasTameNumbers w → AllWithin tame_bound (test_rows w)
test_within (Enter params) tame = tt
test_within (Test own) tame = tame
test_within (Set x form lo hi) tame = tt
test_within (Check own) tame = tt

asked_within : (w : What) (rows : List Linear) → HasTameNumbers w → AllWithin tame_bound rows → AllWithin tame_bound (asked w rows)
asked_within (Enter params) rows tame h = h
asked_within (Test own) rows tame h = h
asked_within (Set x form lo hi) rows tame h = h
asked_within (Check own) rows tame h = each_join (Within tame_bound) own rows tame h

-- what holds of each row that is owed holds of each that is asked for, carried back
each_asked : (P : Linear → Type 0) (w : What) (rows : List Linear) → AllByRecursion P (owes w rows) → AllByRecursion (λ r. P (back w r)) (asked w rows)
each_asked P w rows h = each_mapped P (back w) (asked w rows) (subst (AllByRecursion P) (owed_is_asked w rows) h)

module _ (points : List PointInfo) (a : List (List Linear)) (tame : AllByRecursion AreTame a) (e : Arc) (numbers : HasTameNumbers e.what) where
  abbrev all : List Linear
  all = premises e.what (rows_at a e.from)

  abbrev owed : List Linear
  owed = owes e.what (rows_at a e.to)

  edge_holds : (head : Bool) → (head ≡ true → AllByRecursion (IsShown all) owed) → (head ≡ true → AllByRecursion (λ r. IsModest (question all r)) owed) →
      AnyOf (RowFails head e.what all) (asked e.what (rows_at a e.to)) → ⊥
  edge_holds false shown modest fails =
      rows_hold e.what all (asked e.what (rows_at a e.to)) numbers
      (each_join (Within tame_bound) (rows_at a e.from) (test_rows e.what) (tame_at a e.from tame) (test_within e.what numbers))
      (asked_within e.what (rows_at a e.to) numbers (tame_at a e.to tame)) fails
  edge_holds true shown modest fails =
      shown_rows_hold e.what all (asked e.what (rows_at a e.to)) numbers (asked_within e.what (rows_at a e.to) numbers (tame_at a e.to tame))
      (each_asked (IsShown all) e.what (rows_at a e.to) (shown refl)) (each_asked (λ r. IsModest (question all r)) e.what (rows_at a e.to) (modest refl)) fails

-- an annotation with tame numbers is proved where what is owed at heads is shown, and asked modestly
module _ (g : Flow) (a : List (List Linear)) (tame : AllByRecursion AreTame a) where
  edges_hold : (edges : List Arc) → AllByRecursion (λ e. HasTameNumbers e.what) edges →
      AllByRecursion (λ e. is_head g.points e.from ≡ true → AllByRecursion (IsShown (premises e.what (rows_at a e.from))) (owes e.what (rows_at a e.to))) edges →
      AllByRecursion (λ e. is_head g.points e.from ≡ true → AllByRecursion (λ r. IsModest (question (premises e.what (rows_at a e.from)) r)) (owes e.what (rows_at a e.to))) edges →
      AnyOf (EdgeFails g.points a) edges → ⊥
  edges_hold [] numbers shown modest any = any
  edges_hold (e ∷ edges) numbers shown modest (inl fails) = edge_holds g.points a tame e numbers.0 (is_head g.points e.from) shown.0 modest.0 fails
  edges_hold (e ∷ edges) numbers shown modest (inr any) = edges_hold edges numbers.1 shown.1 modest.1 any

  pub tame_is_proved : AllByRecursion (λ e. HasTameNumbers e.what) g.edges → IsInductive g a → IsSmall g a → Fails g a → ⊥
  tame_is_proved numbers inductive small fails = edges_hold g.edges numbers inductive small fails

-- of a graph without loops nothing else is asked
none_at_heads : (P : List Linear → Linear → Type 0) (g : Flow) (a : List (List Linear)) → NoHeads g.points → AtHeads P g a
none_at_heads P g a none = by g.edges
  where
    by : (edges : List Arc) → AllByRecursion (λ e. is_head g.points e.from ≡ true → AllByRecursion (P (premises e.what (rows_at a e.from))) (owes e.what (rows_at a e.to))) edges
    by [] = tt
    by (e ∷ edges) = ((λ head. let no = no_head g.points e.from none in absurd (cc)), by edges)

pub tame_need_is_proved : (g : Flow) → NoHeads g.points → IsTame g → Fails g (graph_need g) → ⊥
tame_need_is_proved g none tame =
    tame_is_proved g (graph_need g) tame.points tame.edges (none_at_heads IsShown g (graph_need g) none) (none_at_heads (λ rows r. IsModest (question rows r)) g (graph_need g) none)

pub promised_is_proved : (g : Flow) (m : Mode) → IsPromised g m → Fails g (candidate g m) → ⊥
promised_is_proved g m promised = tame_is_proved g (candidate g m) promised.tame.candidate promised.tame.edges promised.inductive promised.small
