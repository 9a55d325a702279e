-- At a point whose numbers are small, values and bounds are small, and so is the point that is found from them.
use Rattle.std.proofs.Common.{◌≡◌, ℕ, suc, ◌+◌, ◌*◌, ◌^◌, ◌≤◌, ◌<◌, ℤ, ◌+ℤ◌, ◌*ℤ◌, subst, arith, List, [], ◌∷◌, Bool, true, false, cond, Option, Some, None, length}
use Rattle.std.specs.List.{AllByRecursion}
use Rattle.std.proofs.lemmas.Int.{ints}
use Rattle.std.proofs.Math.Nat.{mul-le-mul_left}
use Rattle.pc_rows.specs.Linear.{Linear, dot, scale_list}
use Rattle.pc_rows.specs.Bounds.{IsWithin, AreWithin}
use Rattle.pc_rows.specs.Evidence.{Point}
use Rattle.pc_rows.specs.Points.{SumsFit, numerator, NumeratorFits}
use Rattle.pc_rows.proofs.Bounding.{product_within, sum_within, opposite_within, within_in_range, all_in_range, more_within, scale_within, set_within}
use Rattle.pc_elim.specs.Elimination.{Made, Bound, is_positive, factor}
use Rattle.pc_elim.specs.Placing.{is_below, greater, bound_of, turned, next_bound, greatest, placed_at, placed_by, placed}
use Rattle.pc_elim.specs.Fits.{GreaterFits, GreatestFits, AtFits, TakenFits, ByFits, PlacedFits}
use Rattle.pc_elim.proofs.SmallRows.{MadeWithin, factor_within}

-- sums
pub sums_within : (m s b : ℕ) (sum : ℤ) (cs xs : List ℤ) → b + length xs * (m * s) < 2 ^ 127 → IsWithin b sum → AreWithin m cs → AreWithin s xs →
    SumsFit sum cs xs × IsWithin (b + length xs * (m * s)) (sum +ℤ dot cs xs)
sums_within m s b sum [] xs lt h f g = (tt, omega (arith, ints))
sums_within m s b sum (c ∷ cs) [] lt h f g = (tt, omega (arith, ints))
sums_within m s b sum (c ∷ cs) (x ∷ xs) lt h f g =
    let p = product_within m s c x f.0 g.0 in
    let q = sum_within b (m * s) sum (c *ℤ x) h p in
    let d = distribute (length xs) (m * s) in
    let r = sums_within m s (b + m * s) (sum +ℤ c *ℤ x) cs xs (omega arith) q f.1 g.1 in (
      (within_in_range (m * s) (c *ℤ x) (omega arith) p, within_in_range (b + m * s) (sum +ℤ c *ℤ x) (omega arith) q, r.0),
      moved (b + m * s + length xs * (m * s)) (b + (suc (length xs)) * (m * s)) sum (c *ℤ x) (dot cs xs) (omega arith) r.1,
    )
  where
    distribute : (n a : ℕ) → suc n * a ≡ a + n * a
    distribute n a = omega arith

    moved : (m n : ℕ) (a b c : ℤ) → m ≤ n → IsWithin m ((a +ℤ b) +ℤ c) → IsWithin n (a +ℤ (b +ℤ c))
    moved m n a b c le h = let e : ((a +ℤ b) +ℤ c) ≡ (a +ℤ (b +ℤ c)) = omega (arith, ints) in subst (IsWithin n) e (omega (arith, h))

-- all numbers of the point are within the bound
pub record PointWithin (s : ℕ) (p : Point) : Type 0 where
  pub numerators : AreWithin s p.numerators
  pub denominator : IsWithin s p.denominator

numerator_within : (m s q : ℕ) (r : Linear) (p : Point) → 64 * (m * s) ≤ q → q < 2 ^ 127 → length p.numerators ≤ 63 → IsWithin m r.constant → AreWithin m r.coefficients → PointWithin s p →
    NumeratorFits r p × IsWithin q (numerator r p)
numerator_within m s q r p le lt long h g w =
    let c = product_within m s r.constant p.denominator h w.denominator in
    let room : length p.numerators * (m * s) ≤ 63 * (m * s) = times (m * s) (length p.numerators) long in
    let t = sums_within m s (m * s) (r.constant *ℤ p.denominator) r.coefficients p.numerators (omega arith) c g w.numerators in
    (record { constant = within_in_range (m * s) (r.constant *ℤ p.denominator) (omega arith) c; sums = t.0 }, omega (arith, t.1))
  where
    times : (a n : ℕ) → n ≤ 63 → n * a ≤ 63 * a
    times a n le = let m = mul-le-mul_left a le in omega arith

-- bounds
pub record BoundWithin (q m : ℕ) (b : Bound) : Type 0 where
  pub number : IsWithin q b.number
  pub weight : IsWithin m b.weight

abbrev pub BestWithin : ℕ → ℕ → Option Bound → Type 0
BestWithin q m None = Unit {0}
BestWithin q m (Some b) = BoundWithin q m b

turned_within : (m : ℕ) (t : Bool) (z : ℤ) → IsWithin m z → IsWithin m (turned t z)
turned_within m true z h = opposite_within m z h
turned_within m false z h = h

greater_fits : (q m : ℕ) (best : Option Bound) (b : Bound) → q * m < 2 ^ 127 → BestWithin q m best → BoundWithin q m b → GreaterFits best b
greater_fits q m None b lt h g = tt
greater_fits q m (Some a) b lt h g = (within_in_range (q * m) (a.number *ℤ b.weight) lt (product_within q m a.number b.weight h.number g.weight), within_in_range (q * m) (b.number *ℤ a.weight) lt (product_within q m b.number a.weight g.number h.weight))

best_if : (q m : ℕ) (t : Bool) (a b : Bound) → BoundWithin q m a → BoundWithin q m b → BestWithin q m (cond t (Some b) (Some a))
best_if q m true a b h g = g
best_if q m false a b h g = h

best_greater : (q m : ℕ) (best : Option Bound) (b : Bound) → BestWithin q m best → BoundWithin q m b → BestWithin q m (greater best b)
best_greater q m None b h g = g
best_greater q m (Some a) b h g = best_if q m (is_below a b) a b h g

module _ (m s q : ℕ) (k : ℕ) (p : Point) (le : 64 * (m * s) ≤ q) (lt : q < 2 ^ 127) (room : q * m < 2 ^ 127) (long : length p.numerators ≤ 63) (w : PointWithin s p) where
  bound_within : (t : Bool) (r : Made) → MadeWithin m r → BoundWithin q m (bound_of t k p r)
  bound_within t r h =
      let n = numerator_within m s q r.row p le lt long h.row.constant h.row.coefficients w in
      record { number = opposite_within q (numerator r.row p) n.1; weight = turned_within m t (factor r k) (factor_within m k r h) }

  next_if : (t u : Bool) (best : Option Bound) (r : Made) → BestWithin q m best → MadeWithin m r → BestWithin q m (cond u (greater best (bound_of t k p r)) best)
  next_if t true best r h g = best_greater q m best (bound_of t k p r) h (bound_within t r g)
  next_if t false best r h g = h

  greatest_fits : (t : Bool) (best : Option Bound) (rs : List Made) → BestWithin q m best → AllByRecursion (MadeWithin m) rs → GreatestFits t k p best rs × BestWithin q m (greatest t k p best rs)
  greatest_fits t best [] h g = (tt, h)
  greatest_fits t best (r ∷ rs) h g =
      let n = numerator_within m s q r.row p le lt long g.0.row.constant g.0.row.coefficients w in
      let x = greatest_fits t (next_bound t k p best r) rs (next_if t (is_positive (turned t (factor r k))) best r h g.0) g.1 in
      ((λ _. record { value = n.0; greater = greater_fits q m best (bound_of t k p r) room h (bound_within t r g.0) }, x.0), x.1)

  at_fits : (b : Bound) → BoundWithin q m b → AtFits p b
  at_fits b h = record {
    numerators = all_in_range (m * s) (scale_list b.weight p.numerators) (omega arith) (scale_within m s b.weight p.numerators h.weight w.numerators);
    denominator = within_in_range (m * s) (b.weight *ℤ p.denominator) (omega arith) (product_within m s b.weight p.denominator h.weight w.denominator);
  }

  at_place : (t : Bool) (b : Bound) → BoundWithin q m b → PointWithin q (placed_at t k p b)
  at_place t b h = record {
    numerators = set_within q (scale_list b.weight p.numerators) k (turned t b.number) (more_within (m * s) q (scale_list b.weight p.numerators) (omega arith) (scale_within m s b.weight p.numerators h.weight w.numerators)) (turned_within q t b.number h.number);
    denominator = omega (arith, product_within m s b.weight p.denominator h.weight w.denominator);
  }

  taken_fits : (o : Option Bound) → BestWithin q m o → TakenFits p o
  taken_fits None h = tt
  taken_fits (Some b) h = at_fits b h

  by_fits : (rs : List Made) (o : Option Bound) → BestWithin q m o → GreatestFits true k p None rs × BestWithin q m (greatest true k p None rs) → ByFits k rs p o
  by_fits rs (Some b) h g = at_fits b h
  by_fits rs None h g = (g.0, taken_fits (greatest true k p None rs) g.1)

  by_place : (o u : Option Bound) → s ≤ q → BestWithin q m o → BestWithin q m u → PointWithin q (placed_by k p o u)
  by_place (Some b) u sq h g = at_place false b h
  by_place None (Some b) sq h g = at_place true b g
  by_place None None sq h g = record { numerators = more_within s q p.numerators sq w.numerators; denominator = omega (arith, w.denominator) }

  pub placed_fits : (rs : List Made) → s ≤ q → AllByRecursion (MadeWithin m) rs → PlacedFits k rs p × PointWithin q (placed k rs p)
  placed_fits rs sq h =
      let a = greatest_fits false None rs tt h in
      let b = greatest_fits true None rs tt h in (
        (a.0, by_fits rs (greatest false k p None rs) a.1 b),
        by_place (greatest false k p None rs) (greatest true k p None rs) sq a.1 b.1,
      )
