-- The normal form of an expression has its value, and is in range.
use Rattle.std.proofs.Common.{◌≡◌, ℕ, zero, suc, ◌<◌, ℤ, pos, negsuc, ◌+ℤ◌, ◌-ℤ◌, ◌*ℤ◌, neg_ℤ, refl, sym, ◌∙◌, ap, subst, arith, List, [], ◌∷◌, length, get_or, set, replicate, length-set, Bool, true, false, cond, Result, Ok, Err}
use Rattle.std.specs.Prelude.{◌&&◌, IfOk, nat_lt, is_ok}
use Rattle.std.specs.List.{list_all}
use Rattle.std.proofs.lemmas.Int.{ints}
use Rattle.std.proofs.lemmas.Bool.{ltb-true}
use Rattle.std.proofs.Math.IntN.{zero-*ℤ}
use Rattle.pc_text.specs.declared.place.Place.{Place}
use Rattle.pc_rows.specs.Linear.{Linear, value, sum_of, scaled_by, negate_list, add_lists, scale_list, of_constant, in_range, is_in_range, difference_of, above_of, is_number, fits}
use Rattle.pc_rows.specs.declared.row.TheConstants.{VARIABLES}
use Rattle.pc_rows.proofs.Ring.{mul_comm}
use Rattle.pc_rows.proofs.Algebra.{get_or-zeros, length-add_lists, length-scale_list, length-negate_list}
use Rattle.pc_rows.proofs.Lists.{dot-set, dot-zero}
use Rattle.pc_rows.proofs.Values.{value-sum, value-difference, value-scaled}
use Rattle.pc_program.specs.declared.tree.Expr.{Expr, fold-roll-Expr}
use Rattle.pc_program.specs.declared.normal.AffineFault.{AffineFault}
use Rattle.pc_program.specs.declared.normal.AffineFault.TheVariants.{NotAffine, Past}
use Rattle.pc_program.specs.Values.{value_of}
use Rattle.pc_rows.specs.Linear.{State}
use Rattle.pc_program.specs.Forms.{bind, variable, product, form_of, is_fit, ok_or, form}
use Rattle.pc_program.specs.Laws.{IsFormOf, IsAffine, FormsAreRight}
use Rattle.pc_program.proofs.Results.{and_is, and_of, bind_keeps, if_keeps}
use Rattle.pc_program.proofs.Exprs.{by_cases}

pub value-above : (a b : Linear) (s : State) → value (above_of a b) s ≡ value a s -ℤ value b s -ℤ pos 1
value-above a b s = let e = value-difference a b s in omega (arith, ints)

-- ---- numbers and variables

all_set : (xs : List ℤ) (v : ℕ) (z : ℤ) → list_all in_range xs ≡ true → in_range z ≡ true → list_all in_range (set xs v z) ≡ true
all_set [] v z h k = refl
all_set (x ∷ xs) zero z h k = and_of (in_range z) (list_all in_range xs) k (and_is (in_range x) (list_all in_range xs) h).1
all_set (x ∷ xs) (suc v) z h k =
    let p = and_is (in_range x) (list_all in_range xs) h in
    and_of (in_range x) (list_all in_range (set xs v z)) p.0 (all_set xs v z p.1 k)

number_form : (n : ℤ) → in_range n ≡ true → (s : State) → value (of_constant n) s ≡ n
number_form n h s = let z = dot-zero (of_constant n).coefficients s refl in omega (arith, ints)

variable_value : (v : ℕ) (s : State) → v < VARIABLES → value (variable v) s ≡ get_or s v (pos 0)
variable_value v s h =
    let zeros = (of_constant (pos 0)).coefficients in
    let d = dot-set zeros s v (pos 1) h in
    let z = dot-zero zeros s refl in
    let g = get_or-zeros VARIABLES v in
    let m = ap (λ (c : ℤ). c *ℤ get_or s v (pos 0)) g in
    let n = zero-*ℤ (get_or s v (pos 0)) in
    omega (arith, ints)

-- ---- the form of each expression

-- a row that is worth this at every state
record Forms (w : State → ℤ) (r : Linear) : Type 0 where
  worth : (s : State) → value r s ≡ w s
  in_range : is_in_range r ≡ true
  wide : length r.coefficients ≡ VARIABLES

number_forms : (n : ℤ) → in_range n ≡ true → Forms (λ s. n) (of_constant n)
number_forms n h = record {
  worth = number_form n h;
  in_range = and_of (in_range n) (list_all in_range (of_constant n).coefficients) h refl;
  wide = refl;
}

variable_forms : (v : ℕ) → nat_lt v VARIABLES ≡ true → Forms (λ s. get_or s v (pos 0)) (variable v)
variable_forms v h = record {
  worth = λ s. variable_value v s (ltb-true v VARIABLES h);
  in_range = all_set (of_constant (pos 0)).coefficients v (pos 1) refl refl;
  wide = length-set (of_constant (pos 0)).coefficients v (pos 1);
}

-- a row that fits has its form
fits_forms : (w : State → ℤ) (p : Place) (r : Linear) → ((s : State) → value r s ≡ w s) → length r.coefficients ≡ VARIABLES → IfOk (fits (Past p) r) (Forms w)
fits_forms w p r h k = if_keeps (Forms w) (is_in_range r) r (Past p) (λ e. record { worth = h; in_range = e; wide = k })

module _ (w u : State → ℤ) (a b : Linear) (x : Forms w a) (y : Forms u b) (p : Place) where
  both_wide : length a.coefficients ≡ length b.coefficients
  both_wide = x.wide ∙ sym y.wide

  sum_forms : IfOk (fits (Past p) (sum_of a b)) (Forms (λ s. w s +ℤ u s))
  sum_forms = fits_forms (λ s. w s +ℤ u s) p (sum_of a b)
      (λ s. value-sum a b s ∙ ap (λ (z : ℤ). z +ℤ value b s) (x.worth s) ∙ ap (λ (z : ℤ). w s +ℤ z) (y.worth s))
      (length-add_lists a.coefficients b.coefficients both_wide ∙ x.wide)

  difference_forms : IfOk (fits (Past p) (difference_of a b)) (Forms (λ s. w s -ℤ u s))
  difference_forms = fits_forms (λ s. w s -ℤ u s) p (difference_of a b)
      (λ s. value-difference a b s ∙ ap (λ (z : ℤ). z -ℤ value b s) (x.worth s) ∙ ap (λ (z : ℤ). w s -ℤ z) (y.worth s))
      (length-add_lists a.coefficients (negate_list b.coefficients) (both_wide ∙ sym (length-negate_list b.coefficients)) ∙ x.wide)

negated_forms : (w : State → ℤ) (a : Linear) (p : Place) → Forms w a → IfOk (fits (Past p) (scaled_by (negsuc 0) a)) (Forms (λ s. neg_ℤ (w s)))
negated_forms w a p x = fits_forms (λ s. neg_ℤ (w s)) p (scaled_by (negsuc 0) a)
    (λ s. let e = value-scaled (negsuc 0) a s in let f = x.worth s in omega (arith, ints))
    (length-scale_list (negsuc 0) a.coefficients ∙ x.wide)

-- a number times a form
scaled_forms : (w u : State → ℤ) (a b : Linear) (p : Place) → is_number a ≡ true → Forms w a → Forms u b →
    IfOk (fits (Past p) (scaled_by a.constant b)) (Forms (λ s. w s *ℤ u s))
scaled_forms w u a b p n x y = fits_forms (λ s. w s *ℤ u s) p (scaled_by a.constant b)
    (λ s. value-scaled a.constant b s ∙ ap (λ (z : ℤ). z *ℤ value b s) (number_value s ∙ x.worth s) ∙ ap (λ (z : ℤ). w s *ℤ z) (y.worth s))
    (length-scale_list a.constant b.coefficients ∙ y.wide)
  where
    number_value : (s : State) → a.constant ≡ value a s
    number_value s = let e = dot-zero a.coefficients s n in omega (arith, ints)

forms_by : (w u : State → ℤ) (r : Result Linear AffineFault) → ((s : State) → w s ≡ u s) → IfOk r (Forms w) → IfOk r (Forms u)
forms_by w u (Ok r) h k = record { worth = λ s. k.worth s ∙ h s; in_range = k.in_range; wide = k.wide }
forms_by w u (Err f) h k = tt

product_forms : (w u : State → ℤ) (a b : Linear) (p : Place) → Forms w a → Forms u b → IfOk (product p a b) (Forms (λ s. w s *ℤ u s))
product_forms w u a b p x y = by (is_number a) (is_number b) refl refl
  where
    by : (m n : Bool) → is_number a ≡ m → is_number b ≡ n →
        IfOk (cond m (fits (Past p) (scaled_by a.constant b)) (cond n (fits (Past p) (scaled_by b.constant a)) (Err (NotAffine p)))) (Forms (λ s. w s *ℤ u s))
    by true n h k = scaled_forms w u a b p h x y
    by false true h k = forms_by (λ s. u s *ℤ w s) (λ s. w s *ℤ u s) (fits (Past p) (scaled_by b.constant a)) (λ s. mul_comm (u s) (w s)) (scaled_forms u w b a p k y x)
    by false false h k = tt

-- an expression that is fit, as a claim over its test, its form and its value
Claim : Bool → Result Linear AffineFault → (State → ℤ) → Type 0
Claim fit r w = fit ≡ true → IfOk r (Forms w)

each_claim : (f : Linear → Result Linear AffineFault) (g : ℤ → ℤ) → ((w : State → ℤ) (a : Linear) → Forms w a → IfOk (f a) (Forms (λ s. g (w s)))) →
    (fit : Bool) (r : Result Linear AffineFault) (w : State → ℤ) → Claim fit r w → Claim fit (bind r f) (λ s. g (w s))
unfolding Claim
each_claim f g step fit r w h e = bind_keeps (Forms w) (Forms (λ s. g (w s))) r f (λ a x. step w a x) (h e)

both_claim : (f : Linear → Linear → Result Linear AffineFault) (g : ℤ → ℤ → ℤ) →
    ((w u : State → ℤ) (a b : Linear) → Forms w a → Forms u b → IfOk (f a b) (Forms (λ s. g (w s) (u s)))) →
    (fit fit' : Bool) (r q : Result Linear AffineFault) (w u : State → ℤ) → Claim fit r w → Claim fit' q u →
    Claim (fit && fit') (bind r (λ a. bind q (λ b. f a b))) (λ s. g (w s) (u s))
unfolding Claim
both_claim f g step fit fit' r q w u h k e =
    let p = and_is fit fit' e in
    bind_keeps (Forms w) (Forms (λ s. g (w s) (u s))) r (λ a. bind q (λ b. f a b))
    (λ a x. bind_keeps (Forms u) (Forms (λ s. g (w s) (u s))) q (λ b. f a b) (λ b y. step w u a b x y) (k p.1))
    (h p.0)

claims : (e : Expr) → Claim (is_fit e) (form_of e) (λ s. value_of s e)
unfolding Claim
claims e = by_cases (λ e. Claim (is_fit e) (form_of e) (λ s. value_of s e))
    (λ n. simp fold-roll-Expr (λ h. number_forms n h))
    (λ v. simp fold-roll-Expr (λ h. variable_forms v h))
    (λ a p h. simp fold-roll-Expr (each_claim (λ x. fits (Past p) (scaled_by (negsuc 0) x)) neg_ℤ (λ w a x. negated_forms w a p x) _ _ _ h))
    (λ a b p h k. simp fold-roll-Expr (both_claim (λ x y. fits (Past p) (sum_of x y)) ◌+ℤ◌ (λ w u a b x y. sum_forms w u a b x y p) _ _ _ _ _ _ h k))
    (λ a b p h k. simp fold-roll-Expr (both_claim (λ x y. fits (Past p) (difference_of x y)) ◌-ℤ◌ (λ w u a b x y. difference_forms w u a b x y p) _ _ _ _ _ _ h k))
    (λ a b p h k. simp fold-roll-Expr (both_claim (product p) ◌*ℤ◌ (λ w u a b x y. product_forms w u a b p x y) _ _ _ _ _ _ h k))
    e

pub forms_are_right : FormsAreRight
unfolding Claim
forms_are_right e h = let p = and_is (is_fit e) (is_ok (form_of e)) h in by (form_of e) refl p.0 p.1 (claims e p.0)
  where
    by : (r : Result Linear AffineFault) → form_of e ≡ r → is_fit e ≡ true → is_ok r ≡ true → IfOk r (Forms (λ s. value_of s e)) → IsAffine e
    by (Ok r) f fit k x =
        let same : form e ≡ r = ap (ok_or (of_constant (pos 0))) f in
        record {
          fit = fit;
          found = f ∙ ap (λ (z : Linear). Ok z) (sym same);
          form = subst (IsFormOf e) (sym same) (record { worth = x.worth; in_range = x.in_range; wide = x.wide });
        }
    by (Err g) f fit k x = absurd (cc)
