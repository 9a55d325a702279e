-- A list of terms plus a multiple of another: what is to be in range, and the invariant of the merge that makes it.
use Rattle.std.specs.Prelude.{◌≡◌, ℕ, ◌<◌, ◌≤◌, ℤ, ◌+ℤ◌, ◌*ℤ◌, List}
use Rattle.std.specs.List.{AllByRecursion}
use Rattle.smallvec.specs.SmallVec.{SmallVec}
use Rattle.pc_rows.specs.declared.row.TheConstants.{VARIABLES}
use Rattle.pc_rows.specs.declared.terms.Term.{Term}
use Rattle.pc_rows.specs.Linear.{InRange, AllInRange, add_lists, scale_list}
use Rattle.pc_rows.specs.Terms.{AreTerms, Rises, lookup}

-- each product and each sum is in range
abbrev pub MultipleFits : List ℤ → ℤ → List ℤ → Type 0
MultipleFits as' k bs = AllInRange (scale_list k bs) × AllInRange (add_lists as' (scale_list k bs))

-- the variables are below n
abbrev pub Below : ℕ → List Term → Type 0
Below n ts = AllByRecursion (λ t. t.variable < n) ts

-- a plus k times b is made for the variables below n, and left and right are still to come
pub record MergedTo (n : ℕ) (a : List Term) (m : ℤ) (b left right : List Term) (sum : SmallVec Term) : Type 0 where
  pub within : n ≤ VARIABLES
  pub terms : AreTerms sum
  pub below : Below n sum.items
  pub left_rises : Rises n left
  pub right_rises : Rises n right
  pub made : (k : ℕ) → k < n → lookup sum.items k ≡ lookup a k +ℤ m *ℤ lookup b k
  pub fits : (k : ℕ) → k < n → InRange (m *ℤ lookup b k)
  pub left_same : (k : ℕ) → n ≤ k → lookup left k ≡ lookup a k
  pub right_same : (k : ℕ) → n ≤ k → lookup right k ≡ lookup b k

-- the same, for some n
abbrev pub Merged : List Term → ℤ → List Term → List Term → List Term → SmallVec Term → Type 0
Merged a m b left right sum = (n : ℕ) × MergedTo n a m b left right sum
