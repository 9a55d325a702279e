-- A view tells its value, and a value's list its states.
use Rattle.std.proofs.Common.{◌≡◌, ◌∙◌, List, [], ◌∷◌, map, Some, None, ℤ, negsuc, refl, sym, ap, subst, arith}
use Rattle.std.specs.Prelude.{◌↔◌, Result, IfOk}
use Rattle.std.proofs.lemmas.Int.{ints}
use Rattle.std.proofs.lemmas.Result.{IfOk-weaker}
use Rattle.pc_rows.specs.Linear.{Linear, State, MeetsAll}
use Rattle.pc_rows.specs.Substitution.{never_row}
use Rattle.pc_rows.proofs.Algebra.{same_row}
use Rattle.pc_rows.proofs.Values.{value-constant}
use Rattle.pc_flow.specs.declared.what.What.{What}
use Rattle.pc_poly.specs.Polyhedra.{Value, HasState, rows_of, SaysAfter, IsJoined}
use Rattle.pc_poly.specs.Views.{numbers_of, integer_of, row_of, poly_view, poly_of, SaysJoined}
use Rattle.pc_poly.specs.Laws.{ViewsTell, ListIsMeant}

integers_told : (zs : List ℤ) → map integer_of (map Some zs) ≡ zs
integers_told [] = refl
integers_told (z ∷ zs) = ap (λ (more : List ℤ). z ∷ more) (integers_told zs)

rows_told : (rows : List Linear) → map row_of (map numbers_of rows) ≡ rows
rows_told [] = refl
rows_told (r ∷ rows) =
    ap (λ (z : Linear). z ∷ map row_of (map numbers_of rows)) (same_row (row_of (numbers_of r)) r refl (integers_told r.coefficients))
    ∙ ap (λ (more : List Linear). r ∷ more) (rows_told rows)

abbrev with_rows : Value → List Linear → Value
with_rows None rows = None
with_rows (Some p) rows = Some (record { hint = p.hint; rows = rows })

pub views_tell : ViewsTell
views_tell None = refl
views_tell (Some p) = ap (with_rows (Some p)) (rows_told p.rows)

-- what is said of values is said of their views

pub after_view : (w : What) (v new : Value) → SaysAfter v w new → SaysAfter (poly_of (poly_view v)) w (poly_of (poly_view new))
after_view w v new h =
    subst (λ (z : Value). SaysAfter z w (poly_of (poly_view new))) (sym (views_tell v)) (subst (λ (z : Value). SaysAfter v w z) (sym (views_tell new)) h)

nothing_view : (v : Value) → poly_view v ≡ None → v ≡ None
nothing_view None e = refl
nothing_view (Some p) e = cc

pub join_view : (u v w : Value) → IsJoined u v w → SaysJoined (poly_view u) (poly_view v) (poly_view w)
join_view u v w h = record {
  left = λ e. ap poly_view (h.left (nothing_view u e));
  right = λ e. ap poly_view (h.right (nothing_view v e));
}

pub rows_view : (v : Value) → rows_of v ≡ rows_of (poly_of (poly_view v))
rows_view v = ap rows_of (sym (views_tell v))

-- no state meets the row -1
pub never_met : (s : State) → MeetsAll s (never_row ∷ []) → ⊥
never_met s m = let first = m.0 in let v = value-constant (negsuc 0) s in omega (arith, ints)

pub list_is_meant : ListIsMeant
list_is_meant None s = ((λ h. absurd h), (λ m. never_met s m))
list_is_meant (Some p) s = ((λ h. h), (λ m. m))

pub list_of : {E : Type 0} (v : Value) (r : Result (List Linear) E) → IfOk r (λ rows. rows ≡ rows_of v) → IfOk r (λ rows. (s : State) → HasState v s ↔ MeetsAll s rows)
list_of v r h =
    IfOk-weaker r (λ rows. rows ≡ rows_of v) (λ rows. (s : State) → HasState v s ↔ MeetsAll s rows)
    (λ rows is s. subst (λ (z : List Linear). HasState v s ↔ MeetsAll s z) (sym is) (list_is_meant v s)) h
