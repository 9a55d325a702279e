-- The point of lines, by a line more before them.
use Rattle.std.proofs.Common.{◌≡◌, ℕ, zero, suc, ◌+◌, ◌-◌, ◌==◌, ◌<◌, ◌≤◌, ℤ, pos, refl, sym, ◌∙◌, ap, arith, List, [], ◌∷◌, length, set, get_or, drop, replicate, Bool, true, false, cond}
use Rattle.std.proofs.lemmas.Bool.Decides.{nat_tests}
use Rattle.std.proofs.lemmas.Int.{ints}
use Rattle.std.proofs.lemmas.List.{drop_more}
use Rattle.std.proofs.Math.IntN.{*ℤ-zero}
use Rattle.pc_rows.specs.declared.row.TheConstants.{VARIABLES}
use Rattle.pc_rows.specs.Linear.{scale_list}
use Rattle.pc_rows.specs.Evidence.{Point}
use Rattle.pc_rows.specs.Points.{with_numerator, over_multiple}
use Rattle.pc_simplex.specs.declared.label.Label.TheVariants.{Variable, Row}
use Rattle.pc_simplex.specs.Values.{Line}
use Rattle.pc_simplex.specs.Found.{is_label, constant_of, numerators_from, point_at}
use Rattle.pc_simplex.proofs.Answering.{same_point}

-- without lines each variable is 0, whatever the denominator
nothing_scaled : (d : ℤ) (n v : ℕ) → scale_list d (replicate n (pos 0)) ≡ numerators_from n v []
unfolding numerators_from
nothing_scaled d zero v = refl
nothing_scaled d (suc n) v =
    ap (λ (z : ℤ). z ∷ scale_list d (replicate n (pos 0))) (*ℤ-zero d)
    ∙ ap (λ (zs : List ℤ). pos 0 ∷ zs) (nothing_scaled d n (v + 1))

pub nowhere : (k d : ℤ) (p q : Point) → k ≡ d → q ≡ record { numerators = replicate VARIABLES (pos 0); denominator = pos 1 } → p ≡ over_multiple k q → p ≡ point_at d []
nowhere k d p q e origin is =
    is ∙ ap (over_multiple k) origin ∙ same_point (over_multiple k (record { numerators = replicate VARIABLES (pos 0); denominator = pos 1 })) (point_at d []) (nothing_scaled k VARIABLES 0) (omega (arith, ints, e))

-- lines are gone through from the last to the first
pub one_before : (d : ℤ) (all ls : List Line) (behind i : ℕ) (l : Line) (old new : Point) → all ≡ ls → behind < length all → i ≡ length all - (behind + 1) → l ≡ get_or all i l →
    old ≡ point_at d (drop (length ls - behind) ls) → ((e : ℤ) (ms : List Line) → old ≡ point_at e ms → new ≡ point_at e (l ∷ ms)) → new ≡ point_at d (drop (length ls - (behind + 1)) ls)
one_before d all ls behind i l old new e lt at is h step =
    let long = ap length e in
    let here : i ≡ length ls - (behind + 1) = omega (arith, at, long) in
    let next : i + 1 ≡ length ls - behind = omega (arith, here, long, lt) in
    let first =
    sym (ap (λ (n : ℕ). drop n ls) here)
    ∙ sym (ap (drop i) e)
    ∙ drop_more all i l (omega (arith, at, lt))
    ∙ ap (λ (x : Line). x ∷ drop (i + 1) all) (sym is)
    ∙ ap (λ (zs : List Line). l ∷ drop (i + 1) zs) e
    ∙ ap (λ (n : ℕ). l ∷ drop n ls) next in
    step d (drop (length ls - behind) ls) h ∙ ap (point_at d) (sym first)

module _ (l : Line) (ls : List Line) where
  abbrev Differs : ℕ → Type 0
  Differs u = is_label (Variable u) l.label ≡ false

  -- variables that do not label the line
  stay : (n v : ℕ) → ((u : ℕ) → v ≤ u → u < v + n → Differs u) → numerators_from n v (l ∷ ls) ≡ numerators_from n v ls
  unfolding numerators_from
  stay zero v h = refl
  stay (suc n) v h =
      ap (λ (t : Bool). cond t l.constant (constant_of (Variable v) ls) ∷ numerators_from n (v + 1) (l ∷ ls)) (h v (omega arith) (omega arith))
      ∙ ap (λ (zs : List ℤ). constant_of (Variable v) ls ∷ zs) (stay n (v + 1) (λ u le lt. h u (omega arith) (omega arith)))

  module _ (w : ℕ) (e : l.label ≡ Variable w) where
    same : (u : ℕ) → u ≡ w → is_label (Variable u) l.label ≡ true
    same u f = ap (is_label (Variable u)) e ∙ by
      where
        by : (u == w) ≡ true
        by = grind (arith, nat_tests)

    other : (u : ℕ) → (u ≡ w → ⊥) → Differs u
    other u f = ap (is_label (Variable u)) e ∙ by
      where
        by : (u == w) ≡ false
        by = grind (arith, nat_tests)

    changes : (n v k : ℕ) → w ≡ v + k → numerators_from n v (l ∷ ls) ≡ set (numerators_from n v ls) k l.constant
    unfolding numerators_from
    changes zero v zero f = refl
    changes zero v (suc k) f = refl
    changes (suc n) v zero f =
        ap (λ (t : Bool). cond t l.constant (constant_of (Variable v) ls) ∷ numerators_from n (v + 1) (l ∷ ls)) (same v (omega (arith, f)))
        ∙ ap (λ (zs : List ℤ). l.constant ∷ zs) (stay n (v + 1) (λ u le lt. other u (λ g. omega (arith, f, g))))
    changes (suc n) v (suc k) f =
        ap (λ (t : Bool). cond t l.constant (constant_of (Variable v) ls) ∷ numerators_from n (v + 1) (l ∷ ls)) (other v (λ g. omega (arith, f, g)))
        ∙ ap (λ (zs : List ℤ). constant_of (Variable v) ls ∷ zs) (changes n (v + 1) k (omega (arith, f)))

    pub variable_changes : (d : ℤ) (p : Point) → p ≡ point_at d ls → with_numerator p w l.constant ≡ point_at d (l ∷ ls)
    variable_changes d p g =
        ap (λ (q : Point). with_numerator q w l.constant) g ∙ ap (λ (zs : List ℤ). place zs d) (sym (changes VARIABLES 0 w (omega arith)))
      where
        place : List ℤ → ℤ → Point
        place ns d = record { numerators = ns; denominator = d }

    pub far_stays : (d : ℤ) → VARIABLES ≤ w → point_at d (l ∷ ls) ≡ point_at d ls
    far_stays d le = ap (λ (zs : List ℤ). place zs d) (stay VARIABLES 0 (λ u low lt. other u (λ g. omega (arith, g))))
      where
        place : List ℤ → ℤ → Point
        place ns d = record { numerators = ns; denominator = d }

  pub row_stays : (i : ℕ) (d : ℤ) → l.label ≡ Row i → point_at d (l ∷ ls) ≡ point_at d ls
  row_stays i d e = ap (λ (zs : List ℤ). place zs d) (stay VARIABLES 0 (λ u low lt. ap (is_label (Variable u)) e))
    where
      place : List ℤ → ℤ → Point
      place ns d = record { numerators = ns; denominator = d }
