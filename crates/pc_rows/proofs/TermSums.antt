-- What is a multiple of terms, a sum or a difference, from what is a sum with a multiple.
use Rattle.std.proofs.Common.{◌≡◌, ◌∙◌, ℕ, ℤ, pos, negsuc, ◌*ℤ◌, neg_ℤ, List, [], ◌∷◌, set, Result, Ok, Err, refl, sym, ap, ap₂, subst, arith}
use Rattle.std.proofs.lemmas.Int.{ints}
use Rattle.smallvec.specs.SmallVec.{SmallVec}
use Rattle.pc_rows.specs.declared.row.TheConstants.{VARIABLES}
use Rattle.pc_rows.specs.declared.terms.Term.{Term}
use Rattle.pc_rows.specs.Linear.{AllInRange, add_lists, scale_list, negate_list}
use Rattle.pc_rows.specs.Substitution.{CoefficientsFit}
use Rattle.pc_rows.specs.Terms.{Rises, TermsIff, dense}
use Rattle.pc_rows.specs.Merges.{MultipleFits}
use Rattle.pc_rows.proofs.Algebra.{add_comm, add_zeros, length-scale_list, scale_one}
use Rattle.pc_rows.proofs.TermLists.{dense_in_range, dense_none, length-dense}

terms_iff : {E : Type 0} (r : Result (SmallVec Term) E) (P Q : Type 0) (cs ds : List ℤ) → (P → Q) → (Q → P) → cs ≡ ds → TermsIff r P cs → TermsIff r Q ds
terms_iff (Ok ts) P Q cs ds on back e h = (h.0, h.1 ∙ e, on h.2)
terms_iff (Err x) P Q cs ds on back e h = λ q. h (back q)

-- a multiple that is known to be in range
known_iff : {E : Type 0} (r : Result (SmallVec Term) E) (a : List ℤ) (k : ℤ) (b ws : List ℤ) → scale_list k b ≡ ws → AllInRange ws →
    TermsIff r (MultipleFits a k b) (add_lists a (scale_list k b)) → TermsIff r (AllInRange (add_lists a ws)) (add_lists a ws)
known_iff r a k b ws e all h =
    terms_iff r (MultipleFits a k b) (AllInRange (add_lists a ws)) (add_lists a (scale_list k b)) (add_lists a ws)
    (λ f. subst (λ zs. AllInRange (add_lists a zs)) e f.1)
    (λ f. (subst AllInRange (sym e) all, subst (λ zs. AllInRange (add_lists a zs)) (sym e) f))
    (ap (add_lists a) e) h

pub sums_iff : {E : Type 0} (r : Result (SmallVec Term) E) (a b : List Term) (k : ℤ) → Rises 0 b → k ≡ pos 1 →
    TermsIff r (MultipleFits (dense a) k (dense b)) (add_lists (dense a) (scale_list k (dense b))) →
    TermsIff r (AllInRange (add_lists (dense a) (dense b))) (add_lists (dense a) (dense b))
sums_iff r a b k h one f = known_iff r (dense a) k (dense b) (dense b) (ap (λ z. scale_list z (dense b)) one ∙ scale_one (dense b)) (dense_in_range 0 b h) f

scale_minus_one : (a : List ℤ) → scale_list (negsuc 0) a ≡ negate_list a
scale_minus_one [] = refl
scale_minus_one (a ∷ as') = let e : negsuc 0 *ℤ a ≡ neg_ℤ a = omega (arith, ints) in ap₂ (λ z zs. z ∷ zs) e (scale_minus_one as')

negate_in_range : (zs : List ℤ) → AllInRange zs → AllInRange (negate_list zs)
negate_in_range [] h = tt
negate_in_range (z ∷ zs) h = let i = h.0 in (omega (arith, ints), negate_in_range zs h.1)

pub differences_iff : {E : Type 0} (r : Result (SmallVec Term) E) (a b : List Term) (k : ℤ) → Rises 0 b → k ≡ negsuc 0 →
    TermsIff r (MultipleFits (dense a) k (dense b)) (add_lists (dense a) (scale_list k (dense b))) →
    TermsIff r (AllInRange (add_lists (dense a) (negate_list (dense b)))) (add_lists (dense a) (negate_list (dense b)))
differences_iff r a b k h one f =
    known_iff r (dense a) k (dense b) (negate_list (dense b)) (ap (λ z. scale_list z (dense b)) one ∙ scale_minus_one (dense b)) (negate_in_range (dense b) (dense_in_range 0 b h)) f

-- no terms plus the multiple
pub products_iff : {E : Type 0} (r : Result (SmallVec Term) E) (none b : List Term) (k : ℤ) → none ≡ [] →
    TermsIff r (MultipleFits (dense none) k (dense b)) (add_lists (dense none) (scale_list k (dense b))) →
    TermsIff r (AllInRange (scale_list k (dense b))) (scale_list k (dense b))
products_iff r none b k empty f =
    let e : add_lists (dense none) (scale_list k (dense b)) ≡ scale_list k (dense b) =
    ap (λ zs. add_lists zs (scale_list k (dense b))) (ap dense empty ∙ dense_none) ∙ add_zeros VARIABLES (scale_list k (dense b)) (length-scale_list k (dense b) ∙ length-dense b) in
    terms_iff r (MultipleFits (dense none) k (dense b)) (AllInRange (scale_list k (dense b))) (add_lists (dense none) (scale_list k (dense b))) (scale_list k (dense b))
    (λ g. g.0) (λ g. (g, subst AllInRange (sym e) g)) e f

pub opposites_iff : {E : Type 0} (r : Result (SmallVec Term) E) (b : List Term) (k : ℤ) → k ≡ negsuc 0 →
    TermsIff r (AllInRange (scale_list k (dense b))) (scale_list k (dense b)) →
    TermsIff r (AllInRange (negate_list (dense b))) (negate_list (dense b))
opposites_iff r b k one f =
    let e : scale_list k (dense b) ≡ negate_list (dense b) = ap (λ z. scale_list z (dense b)) one ∙ scale_minus_one (dense b) in
    terms_iff r (AllInRange (scale_list k (dense b))) (AllInRange (negate_list (dense b))) (scale_list k (dense b)) (negate_list (dense b))
    (subst AllInRange e) (subst AllInRange (sym e)) e f

-- a multiple of the form is added to what is left of the row
pub carried_iff : {E : Type 0} (r : Result (SmallVec Term) E) (c : ℤ) (rest row : List ℤ) (x : ℕ) (form : List ℤ) → rest ≡ set row x (pos 0) →
    TermsIff r (MultipleFits rest c form) (add_lists rest (scale_list c form)) →
    TermsIff r (CoefficientsFit c row x form) (add_lists (scale_list c form) (set row x (pos 0)))
carried_iff r c rest row x form is f =
    let e : add_lists rest (scale_list c form) ≡ add_lists (scale_list c form) (set row x (pos 0)) =
    ap (λ zs. add_lists zs (scale_list c form)) is ∙ add_comm (set row x (pos 0)) (scale_list c form) in
    terms_iff r (MultipleFits rest c form) (CoefficientsFit c row x form) (add_lists rest (scale_list c form)) (add_lists (scale_list c form) (set row x (pos 0)))
    (λ g. record { products = g.0; sums = subst AllInRange e g.1 })
    (λ g. (g.products, subst AllInRange (sym e) g.sums)) e f
