-- A list of terms plus a multiple of another, made in the order of the variables.
use Rattle.std.proofs.Common.{◌≡◌, ◌∙◌, ℕ, ◌+◌, ◌<◌, ◌≤◌, ℤ, pos, ◌+ℤ◌, ◌*ℤ◌, List, [], ◌++◌, length, get_or, refl, sym, ap, ap₂, subst, arith, inl, inr}
use Rattle.std.proofs.lemmas.Bool.{cases_lt}
use Rattle.std.proofs.Math.IntN.{*ℤ-zero}
use Rattle.smallvec.specs.SmallVec.{SmallVec, HasRoomFor}
use Rattle.pc_rows.specs.declared.row.TheConstants.{VARIABLES}
use Rattle.pc_rows.specs.declared.terms.Term.{Term}
use Rattle.pc_rows.specs.Linear.{InRange, AllInRange, add_lists, scale_list}
use Rattle.pc_rows.specs.Terms.{Rises, dense, front, least, lookup, past, term_of}
use Rattle.pc_rows.specs.Merges.{Merged, MergedTo, MultipleFits}
use Rattle.pc_rows.proofs.Algebra.{get_or-add_lists, get_or-scale_list, length-add_lists, length-scale_list}
use Rattle.pc_rows.proofs.TermLists.{all_at, below_append, below_term, below_wider, dense_in_range, dense_is, few, front_is, get_or-dense, in_range_at, least_below, least_is, length-dense, lookup_append, lookup_before, lookup_kept, lookup_other, lookup_past, lookup_term, past_is, rises_append, rises_term, zero_in_range}

-- the coefficients of the multiple and of the sum
module _ (a : List Term) (m : ℤ) (b : List Term) where
  product_at : (k : ℕ) → k < VARIABLES → get_or (scale_list m (dense b)) k (pos 0) ≡ m *ℤ lookup b k
  product_at k lt = get_or-scale_list m (dense b) k ∙ ap (λ z. m *ℤ z) (get_or-dense b k (pos 0) lt)

  sum_at : (k : ℕ) → k < VARIABLES → get_or (add_lists (dense a) (scale_list m (dense b))) k (pos 0) ≡ lookup a k +ℤ m *ℤ lookup b k
  sum_at k lt = get_or-add_lists (dense a) (scale_list m (dense b)) k ∙ ap₂ (λ x y. x +ℤ y) (get_or-dense a k (pos 0) lt) (product_at k lt)

  product_long : length (scale_list m (dense b)) ≡ VARIABLES
  product_long = length-scale_list m (dense b) ∙ length-dense b

  sum_long : length (add_lists (dense a) (scale_list m (dense b))) ≡ VARIABLES
  sum_long = length-add_lists (dense a) (scale_list m (dense b)) (length-dense a ∙ sym product_long) ∙ length-dense a

module _ (n : ℕ) (a : List Term) (m : ℤ) (b left right : List Term) (sum : SmallVec Term) (so_far : MergedTo n a m b left right sum) where
  abbrev v : ℕ
  v = least left right

  at : (n ≤ v) × Rises v left × Rises v right
  at = least_is n left right so_far.left_rises so_far.right_rises so_far.within

  -- the coefficients at v of what is to come are those of the two lists
  same_left : front left v ≡ lookup a v
  same_left = front_is v left at.1 ∙ so_far.left_same v at.0

  same_right : front right v ≡ lookup b v
  same_right = front_is v right at.2 ∙ so_far.right_same v at.0

  same_product : m *ℤ front right v ≡ m *ℤ lookup b v
  same_product = ap (λ z. m *ℤ z) same_right

  same_sum : front left v +ℤ m *ℤ front right v ≡ lookup a v +ℤ m *ℤ lookup b v
  same_sum = ap₂ (λ x y. x +ℤ y) same_left same_product

  is_few : length sum.items ≤ n
  is_few = let h = few 0 n sum.items (omega arith) so_far.terms.rises so_far.below in omega (arith, h)

  -- between n and v nothing comes
  none_left : (k : ℕ) → n ≤ k → k < v → lookup a k ≡ pos 0
  none_left k le lt = sym (so_far.left_same k le) ∙ lookup_before v k left lt at.1

  none_right : (k : ℕ) → n ≤ k → k < v → lookup b k ≡ pos 0
  none_right k le lt = sym (so_far.right_same k le) ∙ lookup_before v k right lt at.2

  module _ (some : left ≡ [] → right ≡ [] → ⊥) where
    v_below : v < VARIABLES
    v_below = least_below left right n so_far.left_rises so_far.right_rises some

    pub has_room : HasRoomFor sum 1
    has_room = omega (arith, is_few, at.0, v_below, so_far.terms.room)

    -- where a number at v is not in range, a number of the whole is not
    is_past : ¬ (InRange (m *ℤ front right v) × InRange (front left v +ℤ m *ℤ front right v)) → ¬ (MultipleFits (dense a) m (dense b))
    is_past out all = out (
      subst InRange (product_at a m b v v_below ∙ sym same_product) (in_range_at (scale_list m (dense b)) v all.0),
      subst InRange (sum_at a m b v v_below ∙ sym same_sum) (in_range_at (add_lists (dense a) (scale_list m (dense b))) v all.1),
    )

    module _ (c : ℤ) (new : SmallVec Term) (is : c ≡ front left v +ℤ m *ℤ front right v) (product : InRange (m *ℤ front right v)) (fits : InRange c)
        (items : new.items ≡ sum.items ++ term_of v c) (room : new.capacity ≡ sum.capacity) where
      made_at : lookup new.items v ≡ lookup a v +ℤ m *ℤ lookup b v
      made_at = ap (λ ts. lookup ts v) items ∙ lookup_append n v sum.items (term_of v c) at.0 so_far.below ∙ lookup_term v c ∙ is ∙ same_sum

      made_before : (k : ℕ) → k < n → lookup new.items k ≡ lookup a k +ℤ m *ℤ lookup b k
      made_before k lt = ap (λ ts. lookup ts k) items ∙ lookup_kept k sum.items (term_of v c) (lookup_other v k c (omega (arith, at.0))) ∙ so_far.made k lt

      made_between : (k : ℕ) → n ≤ k → k < v → lookup new.items k ≡ lookup a k +ℤ m *ℤ lookup b k
      made_between k le lt =
          ap (λ ts. lookup ts k) items ∙ lookup_append n k sum.items (term_of v c) le so_far.below
          ∙ lookup_other v k c (omega arith) ∙ sym (ap₂ (λ p q. p +ℤ m *ℤ q) (none_left k le lt) (none_right k le lt) ∙ ap (λ z. pos 0 +ℤ z) (*ℤ-zero m))

      made_all : (k : ℕ) → k < v + 1 → lookup new.items k ≡ lookup a k +ℤ m *ℤ lookup b k
      made_all k lt = elim (cases_lt k n) [
        | inl before ↦ made_before k before
        | inr after ↦ elim (cases_lt k v) [
          | inl between ↦ made_between k after between
          | inr last ↦ let e : k ≡ v = omega arith in rw e made_at
        ]
      ]

      fits_all : (k : ℕ) → k < v + 1 → InRange (m *ℤ lookup b k)
      fits_all k lt = elim (cases_lt k n) [
        | inl before ↦ so_far.fits k before
        | inr after ↦ elim (cases_lt k v) [
          | inl between ↦ subst InRange (sym (ap (λ z. m *ℤ z) (none_right k after between) ∙ *ℤ-zero m)) zero_in_range
          | inr last ↦ let e : k ≡ v = omega arith in rw e (subst InRange same_product product)
        ]
      ]

      goes_on : MergedTo (v + 1) a m b (past left v) (past right v) new
      goes_on = record {
        within = omega (arith, v_below);
        terms = record {
          rises = rw items (rises_append 0 v sum.items (term_of v c) (omega arith) so_far.terms.rises (below_wider n v sum.items at.0 so_far.below) (rises_term v c v_below fits));
          room = room ∙ so_far.terms.room;
        };
        below = rw items (below_append (v + 1) sum.items (term_of v c) (below_wider n (v + 1) sum.items (omega (arith, at.0)) so_far.below) (below_term v c));
        left_rises = (past_is v left at.1).0;
        right_rises = (past_is v right at.2).0;
        made = made_all;
        fits = fits_all;
        left_same = λ k le. (past_is v left at.1).1 k le ∙ so_far.left_same k (omega (arith, at.0));
        right_same = λ k le. (past_is v right at.2).1 k le ∙ so_far.right_same k (omega (arith, at.0));
      }

  module _ (no_left : left ≡ []) (no_right : right ≡ []) where
    none_more : (k : ℕ) → n ≤ k → lookup b k ≡ pos 0
    none_more k le = sym (so_far.right_same k le) ∙ ap (λ ts. lookup ts k) no_right

    made_to_end : (k : ℕ) → lookup sum.items k ≡ lookup a k +ℤ m *ℤ lookup b k
    made_to_end k = elim (cases_lt k n) [
      | inl before ↦ so_far.made k before
      | inr after ↦
          let x : lookup a k ≡ pos 0 = sym (so_far.left_same k after) ∙ ap (λ ts. lookup ts k) no_left in
          lookup_past n k sum.items after so_far.below ∙ sym (ap₂ (λ p q. p +ℤ m *ℤ q) x (none_more k after) ∙ ap (λ z. pos 0 +ℤ z) (*ℤ-zero m))
    ]

    fits_to_end : (k : ℕ) → InRange (m *ℤ lookup b k)
    fits_to_end k = elim (cases_lt k n) [
      | inl before ↦ so_far.fits k before
      | inr after ↦ subst InRange (sym (ap (λ z. m *ℤ z) (none_more k after) ∙ *ℤ-zero m)) zero_in_range
    ]

    pub is_sum : dense sum.items ≡ add_lists (dense a) (scale_list m (dense b))
    is_sum = dense_is sum.items (add_lists (dense a) (scale_list m (dense b))) (sum_long a m b) (λ k lt. made_to_end k ∙ sym (sum_at a m b k lt))

    pub is_in_range : MultipleFits (dense a) m (dense b)
    is_in_range = (
      all_at (scale_list m (dense b)) (λ k lt. subst InRange (sym (product_at a m b k (omega (arith, product_long a m b)))) (fits_to_end k)),
      subst AllInRange is_sum (dense_in_range 0 sum.items so_far.terms.rises),
    )

-- nothing is made at first
pub starts : (a : List Term) (m : ℤ) (b : List Term) (sum : SmallVec Term) → Rises 0 a → Rises 0 b → sum.items ≡ [] → sum.capacity ≡ VARIABLES → MergedTo 0 a m b a b sum
starts a m b sum h g none room = record {
  within = omega arith;
  terms = record { rises = rw none tt; room = room };
  below = rw none tt;
  left_rises = h;
  right_rises = g;
  made = λ k lt. absurd (omega arith);
  fits = λ k lt. absurd (omega arith);
  left_same = λ k le. refl;
  right_same = λ k le. refl;
}

-- one turn of the merge, in the words of the code
module _ (n : ℕ) (a : List Term) (m : ℤ) (b left right : List Term) (sum : SmallVec Term) (so_far : MergedTo n a m b left right sum)
    (some : left ≡ [] → right ≡ [] → ⊥)
    (v : ℕ) (x y : ℤ) (is : v ≡ least left right) (from_left : x ≡ front left v) (from_right : y ≡ front right v) where
  left_is : x ≡ front left (least left right)
  left_is = from_left ∙ ap (front left) is

  product_is : m *ℤ y ≡ m *ℤ front right (least left right)
  product_is = ap (λ z. m *ℤ z) (from_right ∙ ap (front right) is)

  sum_is : x +ℤ m *ℤ y ≡ front left (least left right) +ℤ m *ℤ front right (least left right)
  sum_is = ap₂ (λ p q. p +ℤ q) left_is product_is

  pub turn_past : ¬ (InRange (m *ℤ y) × InRange (x +ℤ m *ℤ y)) → ¬ (MultipleFits (dense a) m (dense b))
  turn_past out = is_past n a m b left right sum so_far some (λ h. out (subst InRange (sym product_is) h.0, subst InRange (sym sum_is) h.1))

  pub turn : (c : ℤ) (new : SmallVec Term) (left' right' : List Term) → InRange (m *ℤ y) × InRange (x +ℤ m *ℤ y) → c ≡ x +ℤ m *ℤ y
      → new.items ≡ sum.items ++ term_of v c → new.capacity ≡ sum.capacity
      → left' ≡ past left v → right' ≡ past right v → Merged a m b left' right' new
  turn c new left' right' fits c_is items room l r =
      let items' : new.items ≡ sum.items ++ term_of (least left right) c = rw is at items in
      let l' : left' ≡ past left (least left right) = rw is at l in
      let r' : right' ≡ past right (least left right) = rw is at r in
      rw (l', r') (least left right + 1, goes_on n a m b left right sum so_far some c new (c_is ∙ sum_is) (subst InRange product_is fits.0) (subst InRange (sym c_is) fits.1) items' room)
