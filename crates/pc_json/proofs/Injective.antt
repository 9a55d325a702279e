-- A value determines what it is the value of.
use Rattle.std.proofs.Common.{◌≡◌, ◌∙◌, ℕ, ℤ, List, [], ◌∷◌, map, refl, sym, ap, ap₂}
use Rattle.std.specs.List.{AllByRecursion}
use Rattle.serde_json.specs.Data.{Num, unsigned, Data, number, string, array, Items, item, no_items}
use Rattle.serde_json.specs.View.{items_of}
use Rattle.pc_text.specs.Numerals.{integer_of}
use Rattle.pc_text.proofs.NumeralTexts.{integer_numeral}
use Rattle.pc_rows.specs.declared.proof.Part.{Part}
use Rattle.pc_json.specs.Values.{of_numeral, of_count, of_part, of_all}

abbrev bytes_in : Data → List ℕ
bytes_in (string s) = s
bytes_in _ = []

abbrev number_in : Num → ℕ
number_in (unsigned n) = n
number_in _ = 0

abbrev count_in : Data → ℕ
count_in (number n) = number_in n
count_in _ = 0

pub same_numeral : (x y : ℤ) → of_numeral x ≡ of_numeral y → x ≡ y
same_numeral x y e = sym (integer_numeral x) ∙ ap (λ d. integer_of (bytes_in d)) e ∙ integer_numeral y

pub same_count : (m n : ℕ) → of_count m ≡ of_count n → m ≡ n
same_count m n e = ap count_in e

abbrev pub list_of : Items → List Data
list_of no_items = []
list_of (item d ds) = d ∷ list_of ds

list_of-items_of : (ds : List Data) → list_of (items_of ds) ≡ ds
list_of-items_of [] = refl
list_of-items_of (d ∷ ds) = ap (λ xs. d ∷ xs) (list_of-items_of ds)

abbrev items_in : Data → Items
items_in (array ds) = ds
items_in _ = no_items

-- an array determines its items
pub same_items : (ds es : List Data) → array (items_of ds) ≡ array (items_of es) → ds ≡ es
same_items ds es e = sym (list_of-items_of ds) ∙ ap (λ d. list_of (items_in d)) e ∙ list_of-items_of es

abbrev pub head_or : Data → List Data → Data
head_or d [] = d
head_or d (x ∷ xs) = x

abbrev pub tail_of : List Data → List Data
tail_of [] = []
tail_of (x ∷ xs) = xs

module _ {X : Type 0} (P : X → Type 0) (f : X → Data) (same : (x y : X) → P x → P y → f x ≡ f y → x ≡ y) where
  pub same_map : (xs ys : List X) → AllByRecursion P xs → AllByRecursion P ys → map f xs ≡ map f ys → xs ≡ ys
  same_map [] [] h g e = refl
  same_map [] (y ∷ ys) h g e = absurd (cc)
  same_map (x ∷ xs) [] h g e = absurd (cc)
  same_map (x ∷ xs) (y ∷ ys) h g e =
      ap₂ (λ z zs. z ∷ zs) (same x y h.0 g.0 (ap (head_or (f x)) e)) (same_map xs ys h.1 g.1 (ap tail_of e))

  -- where the items are determined, the array is
  pub same_all : (xs ys : List X) → AllByRecursion P xs → AllByRecursion P ys → of_all f xs ≡ of_all f ys → xs ≡ ys
  same_all xs ys h g e = same_map xs ys h g (same_items (map f xs) (map f ys) e)

part : ℕ → ℤ → Part
part i m = record { index = i; multiplier = m }

pub same_part : (p q : Part) → of_part p ≡ of_part q → p ≡ q
unfolding part
same_part p q e =
    ap₂ part (same_count p.index q.index (ap (head_or (of_count 0)) e)) (same_numeral p.multiplier q.multiplier (ap (λ ds. head_or (of_count 0) (tail_of ds)) e))
