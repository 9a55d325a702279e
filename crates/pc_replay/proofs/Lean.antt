-- An edge that is proved has no more proofs than a point may have rows, or no more premises.
use Rattle.std.proofs.Common.{◌≡◌, ap, refl, ℕ, zero, suc, ◌<◌, ◌≤◌, List, [], ◌∷◌, ◌++◌, length, get_or, inl, inr, arith}
use Rattle.std.specs.List.{AllByRecursion, zip}
use Rattle.std.proofs.lemmas.List.{append-nil}
use Rattle.pc_rows.specs.declared.rows.TheConstants.{ROWS}
use Rattle.pc_rows.specs.Linear.{Linear}
use Rattle.pc_rows.specs.Joins.{IsRows}
use Rattle.pc_rows.specs.Evidence.{Proof}
use Rattle.pc_flow.specs.declared.what.What.{What}
use Rattle.pc_flow.specs.declared.what.What.TheVariants.{Enter, Test, Set, Check}
use Rattle.pc_flow.specs.Arc.{Arc}
use Rattle.pc_flow.specs.Annotation.{rows_at}
use Rattle.pc_flow.specs.Carry.{asked, back_all, owes, test_rows}
use Rattle.pc_flow.specs.Flow.{Flow}
use Rattle.pc_flow.proofs.Lists.{each_more}
use Rattle.pc_certificate.specs.declared.certificate.Annotated.{Annotated}
use Rattle.pc_certificate.specs.Certificate.{IsAnnotated, NamesPremises, IsLean, AreLean}
use Rattle.pc_replay.specs.Accepts.{RowProved, EdgeProved, AlternativeProved}
use Rattle.pc_replay.specs.Laws.{AcceptedIsLean}
use Rattle.pc_replay.specs.Shape.{IsShaped}

-- what holds of pairs holds of their second parts
seconds : {A B : Type 0} (P : A × B → Type 0) (Q : B → Type 0) → ((x : A × B) → P x → Q x.1) → (xs : List A) (ys : List B) → length ys ≤ length xs → AllByRecursion P (zip xs ys) → AllByRecursion Q ys
seconds P Q f [] [] le h = tt
seconds P Q f [] (y ∷ ys) le h = absurd (omega arith)
seconds P Q f (x ∷ xs) [] le h = tt
seconds P Q f (x ∷ xs) (y ∷ ys) le h = (f (x, y) h.0, seconds P Q f xs ys (omega arith) h.1)

-- a point has few rows, and one that is missing has none
few_at : (rows : List (List Linear)) (p : ℕ) → AllByRecursion IsRows rows → length (get_or rows p []) ≤ ROWS
few_at [] p h = omega arith
few_at (r ∷ rows) zero h = h.0.most
few_at (r ∷ rows) (suc p) h = few_at rows p h.1

as_many : (w : What) (rows : List Linear) → length (back_all w rows) ≡ length rows
as_many w [] = refl
as_many w (r ∷ rows) = ap suc (as_many w rows)

-- a proof over an edge without a test names rows of the source
names_few : (w : What) (source : List Linear) → length source ≤ ROWS → (x : Linear × Proof) → RowProved w (source ++ []) x.0 x.1 → NamesPremises ROWS x.1
names_few w source few x h =
    each_more (λ q. q.index < length (source ++ [])) (λ q. q.index < ROWS) (λ q below. let same = ap (λ (rows : List Linear). length rows) (append-nil source) in omega arith) x.1.parts h.proves.shows.indices

lean_by : (w : What) (rows source : List Linear) (proofs : List Proof) → length rows ≤ ROWS → length source ≤ ROWS → length proofs ≡ length (owes w rows) →
    AllByRecursion (λ x. RowProved w (source ++ test_rows w) x.0 x.1) (zip (asked w rows) proofs) → IsLean proofs
lean_by (Test own) rows source proofs few low count each = let many = as_many (Test own) rows in inl (omega arith)
lean_by (Enter params) rows source proofs few low count each =
    let many = as_many (Enter params) rows in
    inr (seconds (λ (x : Linear × Proof). RowProved (Enter params) (source ++ []) x.0 x.1) (NamesPremises ROWS) (names_few (Enter params) source low) rows proofs (omega arith) each)
lean_by (Set x form lo hi) rows source proofs few low count each =
    let many = as_many (Set x form lo hi) rows in
    inr (seconds (λ (y : Linear × Proof). RowProved (Set x form lo hi) (source ++ []) y.0 y.1) (NamesPremises ROWS) (names_few (Set x form lo hi) source low) rows proofs (omega arith) each)
lean_by (Check own) rows source proofs few low count each =
    inr (seconds (λ (x : Linear × Proof). RowProved (Check own) (source ++ []) x.0 x.1) (NamesPremises ROWS) (names_few (Check own) source low) (own ++ rows) proofs (omega arith) each)

lean_edge : (a : Annotated) → IsAnnotated a → (x : Arc × List Proof) → EdgeProved a x.0 x.1 → IsLean x.1
lean_edge a kept x h = lean_by x.0.what (rows_at a.rows x.0.to) (rows_at a.rows x.0.from) x.1 (few_at a.rows x.0.to kept.rows) (few_at a.rows x.0.from kept.rows) h.count h.each

lean_alternatives : (g : Flow) (points edges variables : ℕ) (as' : List Annotated) → edges ≡ length g.edges → AllByRecursion IsAnnotated as' → AllByRecursion (IsShaped points edges variables) as' → AllByRecursion (AlternativeProved g) as' → AllByRecursion AreLean as'
lean_alternatives g points edges variables [] e kept shaped proved = tt
lean_alternatives g points edges variables (a ∷ as') e kept shaped proved =
    let long = shaped.0.proofs in (
      seconds (λ (x : Arc × List Proof). EdgeProved a x.0 x.1) IsLean (lean_edge a kept.0) g.edges a.proofs (omega arith) proved.0.edges,
      lean_alternatives g points edges variables as' e kept.1 shaped.1 proved.1,
    )

pub accepted_is_lean : AcceptedIsLean
accepted_is_lean g c kept accepts = lean_alternatives g c.points c.edges c.variables c.alternatives accepts.shape.edges kept.each accepts.shape.each accepts.each
