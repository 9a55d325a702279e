-- Where the numbers of a line are 0 from a column on, loops over them may end there.
use Rattle.std.proofs.Common.{◌≡◌, ℕ, zero, suc, ◌+◌, ◌==◌, ◌&&◌, ◌<◌, ◌≤◌, ℤ, pos, neg_ℤ, refl, sym, ◌∙◌, ap, subst, arith, List, [], ◌∷◌, length, drop, replicate, Bool, true, false, cond, Option, None}
use Rattle.std.proofs.lemmas.Bool.Decides.{nat_tests}
use Rattle.pc_rows.specs.Linear.{is_zero}
use Rattle.pc_simplex.specs.declared.label.Label.{Label}
use Rattle.pc_simplex.specs.declared.label.Label.TheVariants.{Variable, Row}
use Rattle.pc_simplex.specs.Values.{Pick, Pivot, AreZero}
use Rattle.pc_simplex.specs.Choosing.{earlier, first_from, first_of, entering, entering_each}
use Rattle.pc_simplex.specs.Found.{is_label, number_of}
use Rattle.pc_simplex.specs.Pivoting.{is_up, signed, numbers_after, numbers_fit, own_number, own_numbers}
use Rattle.pc_simplex.proofs.Nothing.{nothing_after}

pub zeros_are_zero : (n : ℕ) → AreZero (replicate n (pos 0))
zeros_are_zero zero = tt
zeros_are_zero (suc n) = (refl, zeros_are_zero n)

behind : (n : ℕ) (xs : List ℤ) → AreZero xs → AreZero (drop n xs)
behind zero xs h = h
behind (suc n) [] h = tt
behind (suc n) (x ∷ xs) h = behind n xs h.1

-- so they are from a later column on
pub later : (v w : ℕ) (xs : List ℤ) → v ≤ w → AreZero (drop v xs) → AreZero (drop w xs)
later zero w xs le h = behind w xs h
later (suc v) zero xs le h = absurd (omega arith)
later (suc v) (suc w) [] le h = tt
later (suc v) (suc w) (x ∷ xs) le h = later v w xs (omega arith) h

-- no column enters

enters_not : (c : Label) (x : ℤ) → x ≡ pos 0 → entering c x ≡ None
enters_not (Variable v) x e = ap (entering (Variable v)) e
enters_not (Row i) x e = ap (entering (Row i)) e

pub none_enters : (i : ℕ) (best : Option Pick) (cs : List Label) (xs : List ℤ) → AreZero xs → first_from i best (entering_each cs xs) ≡ best
none_enters i best [] xs h = refl
none_enters i best (c ∷ cs) [] h = refl
none_enters i best (c ∷ cs) (x ∷ xs) h =
    ap (λ (o : Option Label). first_from (i + 1) (earlier best i o) (entering_each cs xs)) (enters_not c x h.0)
    ∙ none_enters (i + 1) best cs xs h.1

-- each label has the number 0
pub none_is_other : (label : Label) (cs : List Label) (xs : List ℤ) → AreZero xs → number_of label cs xs ≡ pos 0
none_is_other label [] xs h = refl
none_is_other label (c ∷ cs) [] h = refl
none_is_other label (c ∷ cs) (x ∷ xs) h = by (is_label label c) (none_is_other label cs xs h.1)
  where
    by : (t : Bool) → number_of label cs xs ≡ pos 0 → cond t x (number_of label cs xs) ≡ pos 0
    by true rest = h.0
    by false rest = rest

-- so that a loop over numbers that are those of a line may end there
module _ (cs : List Label) (seen xs : List ℤ) (width k : ℕ) (same : seen ≡ xs) (le : width ≤ k) (h : AreZero (drop width xs)) where
  unseen : AreZero (drop k seen)
  unseen = subst (λ (zs : List ℤ). AreZero (drop k zs)) (sym same) (later width k xs le h)

  pub entering_ends : (best : Option Pick) → first_from k best (entering_each (drop k cs) (drop k seen)) ≡ first_of (entering_each cs seen) → best ≡ first_of (entering_each cs xs)
  entering_ends best all = sym (none_enters k best (drop k cs) (drop k seen) unseen) ∙ all ∙ ap (λ (zs : List ℤ). first_of (entering_each cs zs)) same

  pub other_ends : (label : Label) → number_of label (drop k cs) (drop k seen) ≡ number_of label cs seen → pos 0 ≡ number_of label cs xs
  other_ends label all = sym (none_is_other label (drop k cs) (drop k seen) unseen) ∙ all ∙ ap (number_of label cs) same

-- a pivot changes none of another line
pub others_stay : (p : Pivot) (b : ℤ) (k : ℕ) (xs ys : List ℤ) → length xs ≡ length ys → AreZero xs → AreZero ys → (numbers_fit p b k xs ys ≡ true) × (numbers_after p b k xs ys ≡ xs)
others_stay p b k [] ys e h g = (refl, refl)
others_stay p b k (x ∷ xs) [] e h g = absurd (omega (arith, e))
others_stay p b k (x ∷ xs) (y ∷ ys) e h g =
    let here = nothing_after p b (k == p.column) x y (ap is_zero h.0) (ap is_zero g.0) in
    let rest = others_stay p b (k + 1) xs ys (omega (arith, e)) h.1 g.1 in (
      ap (λ (t : Bool). t && numbers_fit p b (k + 1) xs ys) here.0 ∙ rest.0,
      ap (λ (z : ℤ). z ∷ numbers_after p b (k + 1) xs ys) (sym here.1) ∙ ap (λ (zs : List ℤ). x ∷ zs) rest.1,
    )

-- and none of its own behind its column

own_same : (p : Pivot) (here : Bool) (x : ℤ) → here ≡ false → x ≡ pos 0 → own_number p here x ≡ x
own_same p true x e z = cc
own_same p false x e z = by (is_up p)
  where
    by : (up : Bool) → neg_ℤ (signed up x) ≡ x
    by true = ap neg_ℤ z ∙ sym z
    by false = ap (λ (n : ℤ). neg_ℤ (neg_ℤ n)) z ∙ sym z

pub own_stay : (p : Pivot) (k : ℕ) (xs : List ℤ) → p.column < k → AreZero xs → own_numbers p k xs ≡ xs
own_stay p k [] lt h = refl
own_stay p k (x ∷ xs) lt h =
    ap (λ (z : ℤ). z ∷ own_numbers p (k + 1) xs) (own_same p (k == p.column) x (other k p.column lt) h.0)
    ∙ ap (λ (zs : List ℤ). x ∷ zs) (own_stay p (k + 1) xs (omega arith) h.1)
  where
    other : (j c : ℕ) → c < j → (j == c) ≡ false
    other j c lt = grind (arith, nat_tests)
