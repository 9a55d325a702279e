-- What normal forms and rows say of expressions and comparisons.
use Rattle.std.specs.Prelude.{◌≡◌, ◌↔◌, ◌⊎◌, true, List, [], ◌∷◌, length, map, Ok}
use Rattle.std.specs.List.{list_all}
use Rattle.pc_rows.specs.Linear.{Linear, is_in_range, value, Meets, MeetsAll, negation}
use Rattle.pc_rows.specs.declared.row.TheConstants.{VARIABLES}
use Rattle.pc_program.specs.declared.tree.Expr.{Expr}
use Rattle.pc_program.specs.declared.tree.Compare.{Compare}
use Rattle.pc_program.specs.Values.{value_of, holds, all_hold}
use Rattle.pc_rows.specs.Linear.{State}
use Rattle.pc_program.specs.Forms.{form_of, form, is_fit, is_affine, is_unequal, has_rows, is_plain, rows_of, rows_all}

-- a row is the normal form of an expression: it has its value at every state, and is a row in range
pub record IsFormOf (e : Expr) (r : Linear) : Type 0 where
  pub worth : (s : State) → value r s ≡ value_of s e
  pub in_range : is_in_range r ≡ true
  pub wide : length r.coefficients ≡ VARIABLES

-- an expression with a normal form
pub record IsAffine (e : Expr) : Type 0 where
  pub fit : is_fit e ≡ true
  pub found : form_of e ≡ Ok (form e)
  pub form : IsFormOf e (form e)

abbrev pub FormsAreRight : Type 0
FormsAreRight = (e : Expr) → is_affine e ≡ true → IsAffine e

-- a comparison other than `!=` holds exactly where its rows are met
abbrev pub ComparisonsAreRows : Type 0
ComparisonsAreRows = (c : Compare) (s : State) → is_plain c ≡ true → (holds c s ≡ true) ↔ MeetsAll s (rows_of c)

-- and so does a conjunction
abbrev pub ConjunctionsAreRows : Type 0
ConjunctionsAreRows = (cs : List Compare) (s : State) → list_all is_plain cs ≡ true → (all_hold cs s ≡ true) ↔ MeetsAll s (rows_all cs)

abbrev pub SomeMet : State → List Linear → Type 0
SomeMet s [] = ⊥
SomeMet s (r ∷ rs) = Meets s r ⊎ SomeMet s rs

-- `!=` holds exactly where the negation of one of its rows is met, and fails exactly where its rows are met
pub record UnequalIsRows (c : Compare) (s : State) : Type 0 where
  pub holds_where : (holds c s ≡ true) ↔ SomeMet s (map negation (rows_of c))
  pub fails_where : (holds c s ≡ true → ⊥) ↔ MeetsAll s (rows_of c)

abbrev pub UnequalsAreRows : Type 0
UnequalsAreRows = (c : Compare) (s : State) → has_rows c ≡ true → is_unequal c.op ≡ true → UnequalIsRows c s
