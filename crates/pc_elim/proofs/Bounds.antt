-- The greatest bound is one of the bounds, and is not below any of them.
use Rattle.std.proofs.Common.{◌≡◌, ℕ, pos, ◌*ℤ◌, refl, sym, subst, ◌∙◌, ap, arith, ◌≤ℤ◌, List, [], ◌∷◌, Bool, true, false, cond, Option, Some, None}
use Rattle.std.specs.List.{AllByRecursion}
use Rattle.std.proofs.lemmas.Int.{ints}
use Rattle.pc_rows.specs.Evidence.{Point}
use Rattle.pc_elim.specs.Elimination.{Made, Bound, is_positive, factor}
use Rattle.pc_elim.specs.Placing.{is_below, greater, bound_of, turned, next_bound, greatest}
use Rattle.pc_elim.proofs.Fractions.{cross, positive_is, below_is, not_below_is}

-- a bound found so far has a weight above 0
abbrev pub Sound : Option Bound → Type 0
Sound None = Unit {0}
Sound (Some c) = pos 1 ≤ℤ c.weight

abbrev pub IsUnder : Bound → Bound → Type 0
IsUnder c b = (c.number *ℤ b.weight) ≤ℤ (b.number *ℤ c.weight)

abbrev pub Under : Option Bound → Bound → Type 0
Under None b = Unit {0}
Under (Some c) b = IsUnder c b

under_if : (t : Bool) (a c b : Bound) → is_below a c ≡ t → pos 1 ≤ℤ a.weight → pos 1 ≤ℤ c.weight → pos 1 ≤ℤ b.weight → Under (cond t (Some c) (Some a)) b → IsUnder a b × IsUnder c b
under_if true a c b e pa pc pb h =
    (cross a.number a.weight c.number c.weight b.number b.weight pc (omega (arith, ints)) (omega (arith, ints)) (below_is (a.number *ℤ c.weight) (c.number *ℤ a.weight) e) h, h)
under_if false a c b e pa pc pb h =
    (h, cross c.number c.weight a.number a.weight b.number b.weight pa (omega (arith, ints)) (omega (arith, ints)) (not_below_is (a.number *ℤ c.weight) (c.number *ℤ a.weight) e) h)

under_greater : (best : Option Bound) (c b : Bound) → Sound best → pos 1 ≤ℤ c.weight → pos 1 ≤ℤ b.weight → Under (greater best c) b → Under best b × IsUnder c b
under_greater None c b x y z h = (tt, h)
under_greater (Some a) c b x y z h = under_if (is_below a c) a c b refl x y z h

sound_if : (t : Bool) (a c : Bound) → pos 1 ≤ℤ a.weight → pos 1 ≤ℤ c.weight → Sound (cond t (Some c) (Some a))
sound_if true a c x y = y
sound_if false a c x y = x

sound_greater : (best : Option Bound) (c : Bound) → Sound best → pos 1 ≤ℤ c.weight → Sound (greater best c)
sound_greater None c x y = y
sound_greater (Some a) c x y = sound_if (is_below a c) a c x y

abbrev pub Has : (Bound → Type 0) → Option Bound → Type 0
Has Q None = Unit {0}
Has Q (Some c) = Q c

has_if : (Q : Bound → Type 0) (t : Bool) (a c : Bound) → Q a → Q c → Has Q (cond t (Some c) (Some a))
has_if Q true a c x y = y
has_if Q false a c x y = x

has_greater : (Q : Bound → Type 0) (best : Option Bound) (c : Bound) → Has Q best → Q c → Has Q (greater best c)
has_greater Q None c x y = y
has_greater Q (Some a) c x y = has_if Q (is_below a c) a c x y

sound_end : (best : Option Bound) (b : Bound) → Sound best → best ≡ Some b → (pos 1 ≤ℤ b.weight) × Under best b × Unit {0}
sound_end None b x e = cc
sound_end (Some c) b x e = let f : c ≡ b = cc in (subst (λ (u : Bound). pos 1 ≤ℤ u.weight) f x, subst (λ (u : Bound). IsUnder c u) f (omega (arith, ints)), tt)

some_if : (u : Bool) (c d : Bound) → (b : Bound) × (cond u (Some d) (Some c) ≡ Some b)
some_if true c d = (d, refl)
some_if false c d = (c, refl)

module _ (t : Bool) (k : ℕ) (point : Point) where
  abbrev pub Beats : Bound → Made → Type 0
  Beats b r = is_positive (turned t (factor r k)) ≡ true → IsUnder (bound_of t k point r) b

  abbrev pub Gives : (Bound → Type 0) → Made → Type 0
  Gives Q r = is_positive (turned t (factor r k)) ≡ true → Q (bound_of t k point r)

  sound_next : (u : Bool) (best : Option Bound) (r : Made) → is_positive (turned t (factor r k)) ≡ u → Sound best → Sound (cond u (greater best (bound_of t k point r)) best)
  sound_next true best r e x = sound_greater best (bound_of t k point r) x (positive_is (turned t (factor r k)) e)
  sound_next false best r e x = x

  under_next : (u : Bool) (best : Option Bound) (r : Made) (b : Bound) → is_positive (turned t (factor r k)) ≡ u → Sound best → pos 1 ≤ℤ b.weight → Under (cond u (greater best (bound_of t k point r)) best) b → Under best b × Beats b r
  under_next true best r b e x y h =
      let p = under_greater best (bound_of t k point r) b x (positive_is (turned t (factor r k)) e) y h in (p.0, λ _. p.1)
  under_next false best r b e x y h = (h, λ g. cc)

  pub greatest_is : (best : Option Bound) (rs : List Made) (b : Bound) → Sound best → greatest t k point best rs ≡ Some b → (pos 1 ≤ℤ b.weight) × Under best b × AllByRecursion (Beats b) rs
  greatest_is best [] b x e = sound_end best b x e
  greatest_is best (r ∷ rs) b x e =
      let p = greatest_is (next_bound t k point best r) rs b (sound_next (is_positive (turned t (factor r k))) best r refl x) e in
      let q = under_next (is_positive (turned t (factor r k))) best r b refl x p.0 p.1 in
      (p.0, q.0, (q.1, p.2))

  has_next : (Q : Bound → Type 0) (u : Bool) (best : Option Bound) (r : Made) → is_positive (turned t (factor r k)) ≡ u → Has Q best → Gives Q r → Has Q (cond u (greater best (bound_of t k point r)) best)
  has_next Q true best r e x y = has_greater Q best (bound_of t k point r) x (y e)
  has_next Q false best r e x y = x

  pub greatest_has : (Q : Bound → Type 0) (best : Option Bound) (rs : List Made) → Has Q best → AllByRecursion (Gives Q) rs → Has Q (greatest t k point best rs)
  greatest_has Q best [] x y = x
  greatest_has Q best (r ∷ rs) x y = greatest_has Q (next_bound t k point best r) rs (has_next Q (is_positive (turned t (factor r k))) best r refl x y.0) y.1

  some_next : (u : Bool) (c : Bound) (r : Made) → (b : Bound) × (cond u (greater (Some c) (bound_of t k point r)) (Some c) ≡ Some b)
  some_next true c r = some_if (is_below c (bound_of t k point r)) c (bound_of t k point r)
  some_next false c r = (c, refl)

  some_stays : (best : Option Bound) (c : Bound) (rs : List Made) → best ≡ Some c → greatest t k point best rs ≡ None → ⊥
  some_stays best c [] e h = cc
  some_stays best c (r ∷ rs) e h =
      let q = some_next (is_positive (turned t (factor r k))) c r in
      some_stays (next_bound t k point best r) q.0 rs (ap (λ (o : Option Bound). next_bound t k point o r) e ∙ q.1) h

  none_next : (u : Bool) (r : Made) (rs : List Made) → is_positive (turned t (factor r k)) ≡ u → greatest t k point (cond u (greater None (bound_of t k point r)) None) rs ≡ None → (u ≡ false) × (greatest t k point None rs ≡ None)
  none_next true r rs e h = absurd (some_stays (Some (bound_of t k point r)) (bound_of t k point r) rs refl h)
  none_next false r rs e h = (refl, h)

  pub greatest_none : (rs : List Made) → greatest t k point None rs ≡ None → AllByRecursion (λ r. is_positive (turned t (factor r k)) ≡ false) rs
  greatest_none [] h = tt
  greatest_none (r ∷ rs) h = let p = none_next (is_positive (turned t (factor r k))) r rs refl h in (p.0, greatest_none rs p.1)

  -- a bound that is found has a weight above 0
  pub found_weight : (rs : List Made) (o : Option Bound) (b : Bound) → o ≡ greatest t k point None rs → o ≡ Some b → pos 1 ≤ℤ b.weight
  found_weight rs o b at is = (greatest_is None rs b tt (sym at ∙ is)).0
