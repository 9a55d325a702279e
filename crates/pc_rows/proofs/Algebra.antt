-- Sums and multiples of lists of numbers and of rows, as equations.
use Rattle.std.proofs.Common.{◌≡◌, ℕ, zero, suc, ℤ, pos, ◌+ℤ◌, ◌*ℤ◌, neg_ℤ, refl, sym, ap, ap₂, ◌∙◌, arith, List, [], ◌∷◌, length, get_or, replicate}
use Rattle.std.proofs.lemmas.Int.{ints}
use Rattle.std.proofs.Math.IntN.{*ℤ-zero, +ℤ_idl, +ℤ_idr}
use Rattle.pc_rows.specs.Linear.{Linear, add_lists, scale_list, negate_list, sum_of, scaled_by}
use Rattle.pc_rows.specs.Shows.{nothing_row}
use Rattle.pc_rows.proofs.Ring.{mul_add, add_mul, mul_assoc, add_four}

-- lists

pub add_nothing : (a : List ℤ) → add_lists a [] ≡ a
add_nothing [] = refl
add_nothing (a ∷ as') = refl

pub add_comm : (a b : List ℤ) → add_lists a b ≡ add_lists b a
add_comm [] [] = refl
add_comm [] (b ∷ bs) = refl
add_comm (a ∷ as') [] = refl
add_comm (a ∷ as') (b ∷ bs) = let e : (a +ℤ b) ≡ (b +ℤ a) = omega (arith, ints) in let f = add_comm as' bs in cc

pub add_assoc : (a b c : List ℤ) → add_lists (add_lists a b) c ≡ add_lists a (add_lists b c)
add_assoc [] b c = refl
add_assoc (a ∷ as') [] c = refl
add_assoc (a ∷ as') (b ∷ bs) [] = refl
add_assoc (a ∷ as') (b ∷ bs) (c ∷ cs) = let e : ((a +ℤ b) +ℤ c) ≡ (a +ℤ (b +ℤ c)) = omega (arith, ints) in let f = add_assoc as' bs cs in cc

add_crossed : (a b c d : List ℤ) → add_lists (add_lists a b) (add_lists c d) ≡ add_lists (add_lists a c) (add_lists b d)
add_crossed a b c d =
    add_assoc a b (add_lists c d) ∙ ap (add_lists a) (sym (add_assoc b c d) ∙ ap (λ (x : List ℤ). add_lists x d) (add_comm b c) ∙ add_assoc c b d) ∙ sym (add_assoc a c (add_lists b d))

scale_add : (k : ℤ) (a b : List ℤ) → scale_list k (add_lists a b) ≡ add_lists (scale_list k a) (scale_list k b)
scale_add k [] b = refl
scale_add k (a ∷ as') [] = refl
scale_add k (a ∷ as') (b ∷ bs) = let e = mul_add k a b in let f = scale_add k as' bs in cc

add_scales : (k m : ℤ) (a : List ℤ) → scale_list (k +ℤ m) a ≡ add_lists (scale_list k a) (scale_list m a)
add_scales k m [] = refl
add_scales k m (a ∷ as') = let e = add_mul k m a in let f = add_scales k m as' in cc

scale_scale : (k m : ℤ) (a : List ℤ) → scale_list k (scale_list m a) ≡ scale_list (k *ℤ m) a
scale_scale k m [] = refl
scale_scale k m (a ∷ as') = let e = mul_assoc k m a in let f = scale_scale k m as' in cc

pub scale_one : (a : List ℤ) → scale_list (pos 1) a ≡ a
scale_one [] = refl
scale_one (a ∷ as') = let e : pos 1 *ℤ a ≡ a = omega (arith, ints) in let f = scale_one as' in cc

pub get_or-add_lists : (a b : List ℤ) (k : ℕ) → get_or (add_lists a b) k (pos 0) ≡ get_or a k (pos 0) +ℤ get_or b k (pos 0)
get_or-add_lists [] b k = sym (+ℤ_idl (get_or b k (pos 0)))
get_or-add_lists (a ∷ as') [] k = sym (+ℤ_idr (get_or (a ∷ as') k (pos 0)))
get_or-add_lists (a ∷ as') (b ∷ bs) zero = refl
get_or-add_lists (a ∷ as') (b ∷ bs) (suc k) = get_or-add_lists as' bs k

pub get_or-scale_list : (e : ℤ) (s : List ℤ) (k : ℕ) → get_or (scale_list e s) k (pos 0) ≡ e *ℤ get_or s k (pos 0)
get_or-scale_list e [] k = sym (*ℤ-zero e)
get_or-scale_list e (x ∷ s) zero = refl
get_or-scale_list e (x ∷ s) (suc k) = get_or-scale_list e s k

pub get_or-negate_list : (a : List ℤ) (k : ℕ) → get_or (negate_list a) k (pos 0) ≡ neg_ℤ (get_or a k (pos 0))
get_or-negate_list [] k = refl
get_or-negate_list (a ∷ as') zero = refl
get_or-negate_list (a ∷ as') (suc k) = get_or-negate_list as' k

pub get_or-zeros : (n k : ℕ) → get_or (replicate n (pos 0)) k (pos 0) ≡ pos 0
get_or-zeros zero k = refl
get_or-zeros (suc n) zero = refl
get_or-zeros (suc n) (suc k) = get_or-zeros n k

pub add_zeros : (n : ℕ) (a : List ℤ) → length a ≡ n → add_lists (replicate n (pos 0)) a ≡ a
add_zeros zero [] e = refl
add_zeros zero (a ∷ as') e = absurd (omega arith)
add_zeros (suc n) [] e = absurd (omega arith)
add_zeros (suc n) (a ∷ as') e = ap₂ (λ x xs. x ∷ xs) (+ℤ_idl a) (add_zeros n as' (omega arith))

pub length-add_lists : (a b : List ℤ) → length a ≡ length b → length (add_lists a b) ≡ length a
length-add_lists [] b e = sym e
length-add_lists (a ∷ as') [] e = refl
length-add_lists (a ∷ as') (b ∷ bs) e = ap suc (length-add_lists as' bs (omega arith))

pub length-scale_list : (k : ℤ) (a : List ℤ) → length (scale_list k a) ≡ length a
length-scale_list k [] = refl
length-scale_list k (a ∷ as') = ap suc (length-scale_list k as')

pub length-negate_list : (a : List ℤ) → length (negate_list a) ≡ length a
length-negate_list [] = refl
length-negate_list (a ∷ as') = ap suc (length-negate_list as')

-- rows

linear : ℤ → List ℤ → Linear
linear c cs = record { constant = c; coefficients = cs }

pub same_row : (a b : Linear) → a.constant ≡ b.constant → a.coefficients ≡ b.coefficients → a ≡ b
unfolding linear
same_row a b e f = ap (λ (c : ℤ). linear c a.coefficients) e ∙ ap (linear b.constant) f

pub row_comm : (a b : Linear) → sum_of a b ≡ sum_of b a
row_comm a b = same_row (sum_of a b) (sum_of b a) (omega (arith, ints)) (add_comm a.coefficients b.coefficients)

pub row_assoc : (a b c : Linear) → sum_of (sum_of a b) c ≡ sum_of a (sum_of b c)
row_assoc a b c = same_row (sum_of (sum_of a b) c) (sum_of a (sum_of b c)) (omega (arith, ints)) (add_assoc a.coefficients b.coefficients c.coefficients)

pub row_crossed : (a b c d : Linear) → sum_of (sum_of a b) (sum_of c d) ≡ sum_of (sum_of a c) (sum_of b d)
row_crossed a b c d = same_row (sum_of (sum_of a b) (sum_of c d)) (sum_of (sum_of a c) (sum_of b d)) (add_four a.constant b.constant c.constant d.constant) (add_crossed a.coefficients b.coefficients c.coefficients d.coefficients)

pub row_scale_sum : (k : ℤ) (a b : Linear) → scaled_by k (sum_of a b) ≡ sum_of (scaled_by k a) (scaled_by k b)
row_scale_sum k a b = same_row (scaled_by k (sum_of a b)) (sum_of (scaled_by k a) (scaled_by k b)) (mul_add k a.constant b.constant) (scale_add k a.coefficients b.coefficients)

pub row_scales : (k m : ℤ) (a : Linear) → scaled_by (k +ℤ m) a ≡ sum_of (scaled_by k a) (scaled_by m a)
row_scales k m a = same_row (scaled_by (k +ℤ m) a) (sum_of (scaled_by k a) (scaled_by m a)) (add_mul k m a.constant) (add_scales k m a.coefficients)

pub row_scale_scale : (k m : ℤ) (a : Linear) → scaled_by k (scaled_by m a) ≡ scaled_by (k *ℤ m) a
row_scale_scale k m a = same_row (scaled_by k (scaled_by m a)) (scaled_by (k *ℤ m) a) (sym (mul_assoc k m a.constant)) (scale_scale k m a.coefficients)

pub scaled_one : (r : Linear) → scaled_by (pos 1) r ≡ r
scaled_one r = same_row (scaled_by (pos 1) r) r (omega (arith, ints)) (scale_one r.coefficients)

pub nothing_left : (a : Linear) → sum_of nothing_row a ≡ a
nothing_left a = same_row (sum_of nothing_row a) a (+ℤ_idl a.constant) refl

pub nothing_right : (a : Linear) → sum_of a nothing_row ≡ a
nothing_right a = same_row (sum_of a nothing_row) a (+ℤ_idr a.constant) (add_nothing a.coefficients)

pub scaled_nothing : (k : ℤ) → scaled_by k nothing_row ≡ nothing_row
scaled_nothing k = same_row (scaled_by k nothing_row) nothing_row (*ℤ-zero k) refl
