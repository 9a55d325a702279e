-- Lists to which rows are added.
use Rattle.std.proofs.Common.{◌≡◌, ◌∙◌, ℕ, ◌+◌, ◌<◌, ◌≤◌, Bool, true, false, cond, List, [], ◌∷◌, ◌++◌, length, drop, slice_get, Some, Result, Ok, Err, refl, sym, ap, arith}
use Rattle.std.specs.Prelude.{nat_lt, IfOk, OkIff}
use Rattle.std.specs.List.{AllByRecursion as Each}
use Rattle.std.proofs.lemmas.Bool.Decides.{nat_tests}
use Rattle.pc_rows.specs.declared.number.Past.{Past}
use Rattle.pc_rows.specs.declared.rows.TheConstants.{ROWS}
use Rattle.pc_rows.specs.Linear.{Linear}
use Rattle.pc_rows.specs.Joins.{is_covered, with_row, joined}
use Rattle.pc_rows.proofs.Adding.{drop_got}
use Rattle.pc_rows.proofs.Counting.{count_most}
use Rattle.pc_rows.proofs.Joining.{each_join}
use Rattle.pc_poly.specs.Rows.{added, added_fitting, gathered}

-- what holds of each row holds after one is added
module _ (P : Linear → Type 0) where
  pub added_each : (rows : List Linear) (r : Linear) → Each P rows → P r → Each P (added rows r)
  added_each rows r h g = by (nat_lt (length rows) ROWS) (is_covered r rows)
    where
      by : (room covers : Bool) → Each P (cond room (cond covers rows (rows ++ r ∷ [])) rows)
      by true true = h
      by true false = each_join P rows (r ∷ []) h (g, tt)
      by false covers = h

  pub fitting_each : (rows : List Linear) (r : Result Linear Past) → Each P rows → IfOk r P → Each P (added_fitting rows r)
  fitting_each rows (Ok r) h g = added_each rows r h g
  fitting_each rows (Err e) h g = h

  pub gathered_each : (rows more : List Linear) → Each P rows → Each P more → Each P (gathered rows more)
  gathered_each rows [] h g = h
  gathered_each rows (r ∷ more) h g = gathered_each (added rows r) more (added_each rows r h g.0) g.1

-- a row that is computed in range is what it should be
pub ok_is : (P : Type 0) (r : Result Linear Past) (v w : Linear) → OkIff r P v → v ≡ w → IfOk r (λ x. x ≡ w)
ok_is P (Ok x) v w h e = h.1 ∙ e
ok_is P (Err e) v w h f = tt

-- one row more
pub gathered_next : (rows more new goal : List Linear) (i : ℕ) (r : Linear) → slice_get more i ≡ Some r → new ≡ added rows r → gathered rows (drop i more) ≡ goal →
    gathered new (drop (i + 1) more) ≡ goal
gathered_next rows more new goal i r at is so_far =
    ap (λ (z : List Linear). gathered z (drop (i + 1) more)) is ∙ sym (ap (gathered rows) (drop_got more i r at)) ∙ so_far

-- where there is room for all of them they are joined
added_row : (rows : List Linear) (r : Linear) → length rows < ROWS → added rows r ≡ with_row rows r
added_row rows r lt = let room : nat_lt (length rows) ROWS ≡ true = grind (arith, nat_tests) in rw room refl

pub gathered_joined : (rows more : List Linear) → length rows + length more ≤ ROWS → gathered rows more ≡ joined rows more
gathered_joined rows [] few = refl
gathered_joined rows (r ∷ more) few =
    let most = count_most rows (r ∷ []) in
    ap (λ (z : List Linear). gathered z more) (added_row rows r (omega arith)) ∙ gathered_joined (with_row rows r) more (omega arith)
