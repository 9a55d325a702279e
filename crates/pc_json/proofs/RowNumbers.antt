-- The numbers of a row, read one after another.
use Rattle.std.proofs.Common.{◌≡◌, ◌∙◌, ℕ, zero, suc, ◌+◌, ◌<◌, ◌≤◌, ℤ, pos, List, [], ◌∷◌, ◌++◌, length, map, get_or, take, drop, set, replicate, Ok, Err, refl, sym, ap, arith, subst}
use Rattle.std.proofs.lemmas.List.{get_or-set_other, length-set, take-append-drop, map-append, length-take-le}
use Rattle.std.proofs.Math.Seq.{take-suc-set}
use Rattle.std.specs.List.{AllByRecursion}
use Rattle.serde_json.specs.Data.{array}
use Rattle.serde_json.specs.View.{view, items_view}
use Rattle.serde_json.specs.declared.Value.{Value}
use Rattle.pc_rows.specs.declared.row.TheConstants.{VARIABLES}
use Rattle.pc_rows.specs.Linear.{Linear, InRange, AllInRange, IsRow, IsOver, of_constant, with_coefficient}
use Rattle.pc_json.specs.declared.fault.JsonFault.{JsonFault}
use Rattle.pc_json.specs.declared.fault.JsonFault.TheVariants as fault
use Rattle.pc_json.specs.Values.{of_numeral, row_numbers, of_row}
use Rattle.pc_json.specs.Kept.{IsRowOver, Exactly}
use Rattle.pc_json.specs.Exactly.{IsExactly, IsConstant}
use Rattle.pc_json.proofs.Arrays.{HasRead, goes_on, whole, stops, refused}

all_take : (n : ℕ) (cs : List ℤ) → AllInRange cs → AllInRange (take n cs)
all_take zero cs h = tt
all_take (suc n) [] h = tt
all_take (suc n) (c ∷ cs) h = (h.0, all_take n cs h.1)

all_set : (cs : List ℤ) (v : ℕ) (c : ℤ) → InRange c → AllInRange cs → AllInRange (set cs v c)
all_set [] v c h g = tt
all_set (b ∷ cs) zero c h g = (h, g.1)
all_set (b ∷ cs) (suc v) c h g = (g.0, all_set cs v c h g.1)

all_zero : (n : ℕ) → AllInRange (replicate n (pos 0))
all_zero zero = tt
all_zero (suc n) = (omega arith, all_zero n)

long_zero : (n : ℕ) → length (replicate n (pos 0)) ≡ n
long_zero zero = refl
long_zero (suc n) = ap suc (long_zero n)

zero_at : (n v : ℕ) → get_or (replicate n (pos 0)) v (pos 0) ≡ pos 0
zero_at zero v = refl
zero_at (suc n) zero = refl
zero_at (suc n) (suc v) = zero_at n v

constant_kept : (c : ℤ) → InRange c → IsRow (of_constant c)
constant_kept c h = record { wide = long_zero VARIABLES; in_range = (h, all_zero VARIABLES) }

with_kept : (r : Linear) (v : ℕ) (c : ℤ) → InRange c → IsRow r → IsRow (with_coefficient r v c)
with_kept r v c h g = record { wide = length-set r.coefficients v c ∙ g.wide; in_range = (g.in_range.0, all_set r.coefficients v c h g.in_range.1) }

with_over : (r : Linear) (v : ℕ) (c : ℤ) → IsOver v r → IsOver (v + 1) (with_coefficient r v c)
with_over r v c h w le = get_or-set_other r.coefficients v w c (pos 0) (λ e. absurd (omega (arith, e, le))) ∙ h w (omega (arith, le))

pub numbers_in_range : (n : ℕ) (r : Linear) → IsRow r → AllByRecursion InRange (row_numbers n r)
numbers_in_range n r h = (h.in_range.0, all_take n r.coefficients h.in_range.1)

numbers_length : (n : ℕ) (r : Linear) → IsRow r → n ≤ VARIABLES → length (row_numbers n r) ≡ n + 1
numbers_length n r h le = let long = length-take-le n r.coefficients (omega (arith, h.wide, le)) in omega (arith, long)

-- the row has the values up to that of variable v
pub record HasCoefficients (list : List Value) (v : ℕ) (r : Linear) : Type 0 where
  pub kept : IsRow r
  pub over : IsOver v r
  pub read : HasRead InRange of_numeral list (v + 1) (row_numbers v r)

pub begins : (list : List Value) (n : ℕ) (r : Linear) → length list ≡ n + 1 → IsConstant r list → HasCoefficients list 0 r
begins list n r long h =
    subst (HasCoefficients list 0) (sym h.1)
    (record {
      kept = constant_kept r.constant h.0;
      over = λ v le. zero_at VARIABLES v;
      read = record {
        each = (h.0, tt);
        so_far = ap (λ ds. ds ++ map view (drop 1 list)) (sym h.2) ∙ sym (map-append view (take 1 list) (drop 1 list)) ∙ ap (map view) (take-append-drop 1 list);
      };
    })

-- one coefficient more
pub one_more : (list : List Value) (v : ℕ) (r new : Linear) (d : Value) (c : ℤ) → v + 1 < length list → v < VARIABLES → d ≡ get_or list (v + 1) d → IsExactly InRange of_numeral (view d) (Ok c)
    → new ≡ with_coefficient r v c → HasCoefficients list v r → HasCoefficients list (v + 1) new
one_more list v r new d c lt few at is e h =
    subst (HasCoefficients list (v + 1)) (sym e)
    (record {
      kept = with_kept r v c is.0 h.kept;
      over = with_over r v c h.over;
      read = goes_on InRange of_numeral list (v + 1) d c (row_numbers v r) (row_numbers (v + 1) (with_coefficient r v c)) lt at is numbers h.read;
    })
  where
    next : v + 1 ≡ suc v
    next = omega arith

    numbers : row_numbers (v + 1) (with_coefficient r v c) ≡ row_numbers v r ++ c ∷ []
    numbers = ap (λ cs. r.constant ∷ cs) (ap (λ n. take n (set r.coefficients v c)) next ∙ take-suc-set r.coefficients v c (omega (arith, h.kept.wide, few)))

-- the whole row
pub is_row : (list : List Value) (n : ℕ) (r : Linear) → length list ≡ n + 1 → HasCoefficients list n r → IsExactly (IsRowOver n) (of_row n) (array (items_view list)) (Ok r)
is_row list n r long h =
    let is = whole InRange of_numeral (λ k. Unit {0}) list (n + 1) (row_numbers n r) tt (omega (arith, long)) h.read in
    ((h.kept, h.over), is.1)

-- the fault of a number is that of the row
pub row_err : (list : List Value) (n i : ℕ) (v : Value) (e : JsonFault) → i < length list → v ≡ get_or list i v → IsExactly InRange of_numeral (view v) (Err e)
    → IsExactly (IsRowOver n) (of_row n) (array (items_view list)) (Err e)
row_err list n i v fault.Json lt at h = h
row_err list n i v fault.Value lt at h = λ r kept is. stops InRange of_numeral list i v lt at h (row_numbers n r) (numbers_in_range n r kept.0) is
row_err list n i v fault.NoMemory lt at h = tt

-- where there are not as many values as numbers, there is no such row
pub no_row : (list : List Value) (n : ℕ) → n ≤ VARIABLES → (length list ≡ n + 1 → ⊥) → (r : Linear) → IsRowOver n r → array (items_view list) ≡ of_row n r → ⊥
no_row list n le breaks r kept is =
    refused InRange of_numeral (Exactly (n + 1)) list breaks (row_numbers n r) (numbers_length n r kept.0 le, numbers_in_range n r kept.0) is

-- the first value is the constant of the row
pub constant_is : (list : List Value) (v : Value) (c : ℤ) → 0 < length list → v ≡ get_or list 0 v → IsExactly InRange of_numeral (view v) (Ok c) → IsConstant (of_constant c) list
constant_is [] v c lt at is = absurd (omega arith)
constant_is (d ∷ list) v c lt at is = (is.0, refl, ap (λ x. view x ∷ []) (sym at) ∙ ap (λ x. x ∷ []) is.1)
