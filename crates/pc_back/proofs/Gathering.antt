-- What the edges from a point make of views: the rows that they demand, joined edge by edge.
use Rattle.std.proofs.Common.{◌≡◌, ◌∙◌, ℕ, ◌≤◌, List, [], ◌∷◌, length, sym, refl, ap, subst, Some, None, Option, slice_get, arith, inl, inr}
use Rattle.std.specs.Prelude.{◌⊎◌, SomeIff, not}
use Rattle.std.specs.List.{AllByRecursion as Each}
use Rattle.std.proofs.lemmas.List.Sums.{length-filter, count_by-le-length}
use Rattle.pc_rows.specs.Linear.{Linear}
use Rattle.pc_rows.specs.Joins.{is_covered, joined}
use Rattle.pc_rows.specs.declared.rows.TheConstants.{ROWS}
use Rattle.pc_rows.proofs.Joining.{each_join, each_left, each_right}
use Rattle.pc_flow.specs.declared.what.What.{What}
use Rattle.pc_flow.specs.declared.what.What.TheVariants.{Enter, Test, Set, Check}
use Rattle.pc_flow.specs.Arc.{Arc}
use Rattle.pc_flow.specs.Carry.{owes}
use Rattle.pc_flow.specs.Exact.{PointRows}
use Rattle.pc_flow.specs.Lists.{In}
use Rattle.pc_flow.specs.Shape.{IsCheck}
use Rattle.pc_flow.proofs.Asked.{owed_long}
use Rattle.pc_domain.specs.Fold.{Brings, Folds}
use Rattle.pc_domain.specs.View.{View}
use Rattle.pc_lower.specs.Need.{demanded, gathered}
use Rattle.pc_lower.specs.Operations.{Joins, Fits, carries, edge_operations, edges_operations}
use Rattle.pc_back.specs.Needs.{Rowed, BeforeIs, BothIs}
use Rattle.pc_back.specs.Views.{view_of, view_of_rows, rowed_of, need_says}
use Rattle.pc_back.proofs.Joins.{joined_joined}
use Rattle.pc_back.proofs.Viewing.{rowed_told}

-- what is there exactly where a condition holds is there where it holds
settled : (o : Rowed) (P : Type 0) (rows : List Linear) → SomeIff o P rows → P → o ≡ Some rows
settled (Some x) P rows h p = ap (λ (z : List Linear). Some z) h.1
settled None P rows h p = absurd (h p)

-- ---- the rows that one edge demands are not too many

pub few_unless_check : (w : What) (rows : List Linear) → IsCheck w ⊎ (length (demanded w rows) ≤ length rows)
few_unless_check (Check own) rows = inl tt
few_unless_check (Enter params) rows = inr (let l = owed_long (Enter params) rows in omega arith)
few_unless_check (Set x form lo hi) rows = inr (let l = owed_long (Set x form lo hi) rows in omega arith)
few_unless_check (Test own) rows =
    let test = λ (r : Linear). not (is_covered r own) in
    let l = owed_long (Test own) rows in
    let picked = length-filter test (owes (Test own) rows) in
    let most = count_by-le-length test (owes (Test own) rows) in
    inr (omega arith)

-- ---- over one edge

brings_need : (o : Option View) (w : What) (rows target : List Linear) (v u : View) → o ≡ Some (view_of_rows target) → v ≡ view_of_rows rows →
    Each Fits (edge_operations w [] target) → length (joined rows (demanded w target)) ≤ ROWS → Brings need_says.before need_says.both o w v u →
    u ≡ view_of_rows (joined rows (demanded w target))
brings_need None w rows target v u at is fit room h = absurd (cc)
brings_need (Some x) w rows target v u at is fit room h =
    let one = joined [] (demanded w target) in
    let there : x ≡ view_of_rows target = cc in
    let at_target : rowed_of x ≡ Some target = ap rowed_of there ∙ rowed_told (Some target) in
    let so_far : rowed_of v ≡ Some rows = ap rowed_of is ∙ rowed_told (Some rows) in
    let before = subst (λ (z : Rowed). BeforeIs w z h.1.0) at_target h.1.2 in
    let carried : rowed_of h.0 ≡ Some one = ap rowed_of h.1.1 ∙ rowed_told h.1.0 ∙ settled h.1.0 (Each Fits (edge_operations w [] target)) one before fit in
    let both = subst (λ (z : Rowed). BothIs z (Some one) h.2.0) so_far (subst (λ (z : Rowed). BothIs (rowed_of v) z h.2.0) carried h.2.2) in
    let once : joined rows one ≡ joined rows (demanded w target) = sym (joined_joined rows [] (demanded w target)) in
    let fits : length (joined rows one) ≤ ROWS = subst (λ (z : List Linear). length z ≤ ROWS) (sym once) room in
    h.2.1 ∙ ap view_of (settled h.2.0 (length (joined rows one) ≤ ROWS) (joined rows one) both fits) ∙ ap view_of_rows once

-- ---- over the edges from a point, where each operation can be carried out and the rows of each edge are not too many

abbrev pub At : List View → PointRows → ℕ → Type 0
At views a p = slice_get views p ≡ Some (view_of_rows (a p))

abbrev pub HasRoom : PointRows → Arc → Type 0
HasRoom a e = length (joined [] (demanded e.what (a e.to))) ≤ ROWS

pub folds_need : (views : List View) (a : PointRows) (edges : List Arc) (rows : List Linear) (v w : View) → ((e : Arc) → In e edges → At views a e.to) →
    Each Fits (edges_operations a rows edges) → Each (HasRoom a) edges → v ≡ view_of_rows rows →
    Folds need_says.before need_says.both (λ e. e.to) views edges v w → w ≡ view_of_rows (gathered a rows edges)
folds_need views a [] rows v w at fit room is h = h ∙ is
folds_need views a (e ∷ edges) rows v w at fit room is h =
    let target = a e.to in
    let new = joined rows (demanded e.what target) in
    let here = each_left Fits (edge_operations e.what rows target) (edges_operations a new edges) fit in
    let more = each_right Fits (edge_operations e.what rows target) (edges_operations a new edges) fit in
    let carried = each_left Fits (carries e.what target) (Joins rows (demanded e.what target) ∷ []) here in
    let fits = each_right Fits (carries e.what target) (Joins rows (demanded e.what target) ∷ []) here in
    let alone = each_join Fits (carries e.what target) (Joins [] (demanded e.what target) ∷ []) carried (room.0, tt) in
    folds_need views a edges new h.0 w (λ x m. at x (inr m)) more room.1
    (brings_need (slice_get views e.to) e.what rows target v h.0 (at e (inl refl)) is alone fits.0 h.1) h.2
