-- An alternative whose rows at the entry are reduced.
use Rattle.std.proofs.Common.{◌≡◌, ◌<◌, ◌≤◌, List, [], ◌∷◌, ◌++◌, length, set, refl, sym, ap, subst, ◌∙◌, arith, inl, inr, Option, Some, Ok}
use Rattle.std.specs.Prelude.{◌↔◌}
use Rattle.std.specs.List.{AllByRecursion}
use Rattle.std.proofs.lemmas.List.{get_or-set_same, get_or-set_other}
use Rattle.pc_rows.specs.Linear.{Linear, State, MeetsAll, IsOver}
use Rattle.pc_rows.specs.Evidence.{Proof}
use Rattle.pc_flow.specs.declared.what.What.TheVariants.{Enter}
use Rattle.pc_flow.specs.Arc.{arc}
use Rattle.pc_flow.specs.Flow.{Flow}
use Rattle.pc_flow.specs.Annotation.{rows_at}
use Rattle.pc_certificate.specs.declared.certificate.Annotated.{Annotated}
use Rattle.pc_entail.specs.Reduction.{Thinned, IsSplit, RemovesShown}
use Rattle.pc_entail.proofs.Removing.{stay_each}
use Rattle.pc_replay.specs.Accepts.{RowProved}
use Rattle.pc_certify.specs.Claims.{IsProved}
use Rattle.pc_certify.specs.Entries.{IsNotRenewed, ReducesTo}
use Rattle.pc_certify.specs.Lists.{Pairwise}
use Rattle.pc_certify.specs.Proving.{EdgeDone, RenewedIs}

-- as many rows as there were are the rows that there were

split_long : (rows stay gone : List Linear) → IsSplit rows stay gone → length stay ≤ length rows
split_long [] stay gone (e, f) = let z = ap (length {A = Linear}) e in omega arith
split_long (r ∷ rows) stay gone (inl (more, e, s)) = let z = ap (length {A = Linear}) e in let m = split_long rows more gone s in omega arith
split_long (r ∷ rows) stay gone (inr (more, e, s)) = let m = split_long rows stay more s in omega arith

all_stay : (rows stay gone : List Linear) → IsSplit rows stay gone → length stay ≡ length rows → rows ≡ stay
all_stay [] stay gone (e, f) long = sym e
all_stay (r ∷ rows) stay gone (inl (more, e, s)) long =
    let z = ap (length {A = Linear}) e in
    let m = all_stay rows more gone s (omega arith) in
    ap (λ (x : List Linear). r ∷ x) m ∙ sym e
all_stay (r ∷ rows) stay gone (inr (more, e, s)) long = absurd (let m = split_long rows stay more s in omega arith)

module _ (g : Flow) (a : Annotated) (proved : IsProved g a) (left : List Linear) (thin : Thinned (rows_at a.rows 0) left) where
  -- nothing was removed
  pub none_removed : RemovesShown (rows_at a.rows 0) left → length left ≡ length (rows_at a.rows 0) → ReducesTo g a a
  none_removed (gone, split, shown) long =
      record { proved = proved; rows = (left, thin, inl (all_stay (rows_at a.rows 0) left gone split long)); states = λ s. ((λ m. m), (λ m. m)); others = λ i later. refl }

  -- what is owed is not found to be shown
  pub not_renewed : IsNotRenewed g.params (rows_at a.rows 1) left → ReducesTo g a a
  not_renewed h = record { proved = proved; rows = (left, thin, inr (refl, h)); states = λ s. ((λ m. m), (λ m. m)); others = λ i later. refl }

  pub left_over : RemovesShown (rows_at a.rows 0) left → AllByRecursion (IsOver g.params) left
  left_over removes = stay_each (IsOver g.params) (rows_at a.rows 0) left removes proved.entry

  -- the rows that are left stand there instead
  pub renewed : ((s : State) → MeetsAll s (rows_at a.rows 0) ↔ MeetsAll s left) → 0 < length a.rows →
      (b : Annotated) → b.rows ≡ set a.rows 0 left → IsProved g b → ReducesTo g a b
  renewed states some b rows right =
      let here : rows_at b.rows 0 ≡ left = ap (λ (z : List (List Linear)). rows_at z 0) rows ∙ get_or-set_same a.rows 0 left [] some in
      record {
        proved = right;
        rows = (left, thin, inl here);
        states = λ s. subst (λ (z : List Linear). MeetsAll s (rows_at a.rows 0) ↔ MeetsAll s z) (sym here) (states s);
        others = λ i later. ap (λ (z : List (List Linear)). rows_at z i) rows ∙ get_or-set_other a.rows 0 i left [] (λ e. omega arith);
      }

  pub renewed_edge : (o : Option (List Proof)) (proofs : List Proof) → 0 < length a.rows → o ≡ Some proofs → RenewedIs g.params left (rows_at a.rows 1) (Ok o) →
      EdgeDone (set a.rows 0 left) (arc 0 1 (Enter g.params)) proofs
  renewed_edge o proofs some is h =
      let found = subst (λ (z : Option (List Proof)). RenewedIs g.params left (rows_at a.rows 1) (Ok z)) is h in
      let here = sym (get_or-set_same a.rows 0 left [] some) in
      let next = sym (get_or-set_other a.rows 0 1 left [] (λ e. cc)) in
      record {
        each = subst (λ (z : List Linear). Pairwise (RowProved (Enter g.params) (z ++ [])) (rows_at (set a.rows 0 left) 1) proofs) here
            (subst (λ (z : List Linear). Pairwise (RowProved (Enter g.params) (left ++ [])) z proofs) next found.0);
        few = found.1;
      }
