-- The ends of a form in a box bound the form's value at each state of the box.
use Rattle.std.proofs.Common.{◌≡◌, ◌∙◌, ℕ, zero, suc, ◌+◌, drop, slice_get, ap, ℤ, pos, negsuc, ◌+ℤ◌, ◌*ℤ◌, ◌≤ℤ◌, Bool, true, false, cond, List, [], ◌∷◌, Option, Some, None, refl, sym, subst, arith}
use Rattle.std.specs.Prelude.{int_lt}
use Rattle.std.proofs.lemmas.Int.{ints}
use Rattle.std.proofs.Math.IntN.{zero-*ℤ}
use Rattle.pc_rows.proofs.Adding.{drop_got}
use Rattle.pc_rows.specs.Laws.{at}
use Rattle.pc_rows.specs.Linear.{Linear, State, value, in_range}
use Rattle.pc_rows.specs.Readers.{terms_of, sum_over}
use Rattle.pc_rows.specs.Substitution.{IsNotBelow, IsNotAbove}
use Rattle.pc_rows.proofs.Ring.{mul_le, mul_neg_left, le_refl_z}
use Rattle.pc_box.specs.declared.interval.Interval.{Interval}
use Rattle.pc_box.specs.declared.form.Side.{Side}
use Rattle.pc_box.specs.declared.form.Side.TheVariants.{Least, Greatest}
use Rattle.pc_box.specs.Intervals.{Holds}
use Rattle.pc_box.specs.Boxes.{interval_at, HasBounds}
use Rattle.pc_box.specs.Forms.{kept, kept_product, needed, plus_bound, plus_term, plus_terms, plus_choice, end_of_form}
use Rattle.pc_box.proofs.Walks.{value_is_walk}

-- a is further to the side than b, or the same
abbrev Beyond : Side → ℤ → ℤ → Type 0
Beyond Least a b = a ≤ℤ b
Beyond Greatest a b = b ≤ℤ a

-- x is not beyond the end on that side
abbrev pub IsInside : Side → Option ℤ → ℤ → Type 0
IsInside Least end x = IsNotBelow end x
IsInside Greatest end x = IsNotAbove end x

inside_some : (side : Side) (a x : ℤ) → Beyond side a x → IsInside side (Some a) x
inside_some Least a x h = h
inside_some Greatest a x h = h

inside_none : (side : Side) (x : ℤ) → IsInside side None x
inside_none Least x = tt
inside_none Greatest x = tt

beyond_of : (side : Side) (a x : ℤ) → IsInside side (Some a) x → Beyond side a x
beyond_of Least a x h = h
beyond_of Greatest a x h = h

beyond_sum : (side : Side) (a b x y : ℤ) → Beyond side a x → Beyond side b y → Beyond side (a +ℤ b) (x +ℤ y)
beyond_sum Least a b x y h k = omega (arith, ints)
beyond_sum Greatest a b x y h k = omega (arith, ints)

inside_kept : (side : Side) (z x : ℤ) → Beyond side z x → IsInside side (kept z) x
inside_kept side z x h = by (in_range z)
  where
    by : (b : Bool) → IsInside side (cond b (Some z) None) x
    by true = inside_some side z x h
    by false = inside_none side x

inside_product : (side : Side) (sum c n x : ℤ) → Beyond side (sum +ℤ c *ℤ n) x → IsInside side (kept_product sum c n) x
inside_product side sum c n x h = by (in_range (c *ℤ n))
  where
    by : (b : Bool) → IsInside side (cond b (kept (sum +ℤ c *ℤ n)) None) x
    by true = inside_kept side (sum +ℤ c *ℤ n) x h
    by false = inside_none side x

-- a product keeps an order or turns it round
rising : (c a b : ℤ) → int_lt (pos 0) c ≡ true → a ≤ℤ b → (c *ℤ a) ≤ℤ (c *ℤ b)
rising (pos k) a b t h = mul_le k a b h
rising (negsuc k) a b t h = absurd (grind (arith, ints))

falling : (c a b : ℤ) → int_lt (pos 0) c ≡ false → a ≤ℤ b → (c *ℤ b) ≤ℤ (c *ℤ a)
falling (pos zero) a b t h = let e = zero-*ℤ a in let f = zero-*ℤ b in omega (arith, ints)
falling (pos (suc k)) a b t h = absurd (grind (arith, ints))
falling (negsuc k) a b t h = mul_neg_left k a b h

-- the end that is needed bounds the product
needed_bounds : (side : Side) (c : ℤ) (i : Interval) (x n : ℤ) → Holds i x → needed side c i ≡ Some n → Beyond side (c *ℤ n) (c *ℤ x)
needed_bounds Least c i x n h e = by (int_lt (pos 0) c) refl e
  where
    by : (b : Bool) → int_lt (pos 0) c ≡ b → cond b i.least i.greatest ≡ Some n → (c *ℤ n) ≤ℤ (c *ℤ x)
    by true t is = rising c n x t (subst (λ (o : Option ℤ). IsNotBelow o x) is h.0)
    by false t is = falling c x n t (subst (λ (o : Option ℤ). IsNotAbove o x) is h.1)
needed_bounds Greatest c i x n h e = by (int_lt (pos 0) c) refl e
  where
    by : (b : Bool) → int_lt (pos 0) c ≡ b → cond b i.greatest i.least ≡ Some n → (c *ℤ x) ≤ℤ (c *ℤ n)
    by true t is = rising c x n t (subst (λ (o : Option ℤ). IsNotAbove o x) is h.1)
    by false t is = falling c n x t (subst (λ (o : Option ℤ). IsNotBelow o x) is h.0)

module _ (side : Side) (bs : List Interval) (s : State) (has : HasBounds bs s) where
  term_inside : (o : Option ℤ) (t : ℕ × ℤ) (m : ℤ) → IsInside side o m → IsInside side (plus_term side bs o t) (m +ℤ t.1 *ℤ at s t.0)
  term_inside None t m h = inside_none side (m +ℤ t.1 *ℤ at s t.0)
  term_inside (Some sum) t m h = by (needed side t.1 (interval_at bs t.0)) refl
    where
      by : (o : Option ℤ) → needed side t.1 (interval_at bs t.0) ≡ o → IsInside side (plus_bound (Some sum) t.1 o) (m +ℤ t.1 *ℤ at s t.0)
      by None e = inside_none side (m +ℤ t.1 *ℤ at s t.0)
      by (Some n) e = inside_product side sum t.1 n (m +ℤ t.1 *ℤ at s t.0)
          (beyond_sum side sum (t.1 *ℤ n) m (t.1 *ℤ at s t.0) (beyond_of side sum m h) (needed_bounds side t.1 (interval_at bs t.0) (at s t.0) n (has t.0) e))

  terms_inside : (ts : List (ℕ × ℤ)) (o : Option ℤ) (m : ℤ) → IsInside side o m → IsInside side (plus_terms side bs o ts) (sum_over m ts s)
  terms_inside [] o m h = h
  terms_inside (t ∷ ts) o m h = terms_inside ts (plus_term side bs o t) (m +ℤ t.1 *ℤ at s t.0) (term_inside o t m h)

  choice_inside : (o choice : Option ℤ) (m c : ℤ) → IsInside side o m → IsInside side choice c → IsInside side (plus_choice o choice) (m +ℤ c)
  choice_inside None choice m c h k = inside_none side (m +ℤ c)
  choice_inside (Some sum) None m c h k = inside_none side (m +ℤ c)
  choice_inside (Some sum) (Some n) m c h k =
      inside_kept side (sum +ℤ n) (m +ℤ c) (beyond_sum side sum n m c (beyond_of side sum m h) (beyond_of side n c k))

  same_inside : (n : ℤ) → IsInside side (Some n) n
  same_inside n = by side
    where
      by : (z : Side) → IsInside z (Some n) n
      by Least = le_refl_z n
      by Greatest = le_refl_z n

  -- the form's value plus an integer of the choice is not beyond the end
  pub form_inside : (form : Linear) (choice : Option ℤ) (c : ℤ) → IsInside side choice c → IsInside side (end_of_form side bs form choice) (value form s +ℤ c)
  form_inside form choice c h =
      subst (λ (z : ℤ). IsInside side (end_of_form side bs form choice) (z +ℤ c)) (sym (value_is_walk form s))
      (choice_inside (plus_terms side bs (Some form.constant) (terms_of form)) choice (sum_over form.constant (terms_of form) s) c
      (terms_inside (terms_of form) (Some form.constant) form.constant (same_inside form.constant)) h)

-- one term more is added
pub next_term : (side : Side) (bs : List Interval) (ts : List (ℕ × ℤ)) (k : ℕ) (t : ℕ × ℤ) (sum new whole : Option ℤ) → slice_get ts k ≡ Some t → new ≡ plus_term side bs sum t →
    plus_terms side bs sum (drop k ts) ≡ whole → plus_terms side bs new (drop (k + 1) ts) ≡ whole
next_term side bs ts k t sum new whole at is h =
    ap (λ (z : Option ℤ). plus_terms side bs z (drop (k + 1) ts)) is ∙ sym (ap (plus_terms side bs sum) (drop_got ts k t at)) ∙ h
