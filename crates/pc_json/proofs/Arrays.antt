-- Arrays that are read an item at a time.
use Rattle.std.proofs.Common.{◌≡◌, ◌∙◌, ℕ, zero, suc, ◌+◌, ◌<◌, ◌≤◌, length, get_or, drop, append_assoc, arith, List, [], ◌∷◌, ◌++◌, map, refl, sym, ap, subst, Ok, Err}
use Rattle.std.proofs.lemmas.List.{drop_more, map-append, append-nil, length-map}
use Rattle.std.specs.List.{AllByRecursion}
use Rattle.serde_json.specs.Data.{Data, array}
use Rattle.serde_json.specs.View.{view, items_view, items_of}
use Rattle.serde_json.specs.declared.Value.{Value}
use Rattle.pc_rows.proofs.Joining.{each_join}
use Rattle.pc_json.specs.declared.fault.JsonFault.{JsonFault}
use Rattle.pc_json.specs.declared.fault.JsonFault.TheVariants as fault
use Rattle.pc_json.specs.Values.{of_all}
use Rattle.pc_json.specs.Kept.{Each}
use Rattle.pc_json.specs.Exactly.{IsExactly}
use Rattle.pc_json.proofs.Injective.{same_items, head_or, tail_of}

module _ {X : Type 0} (P : X → Type 0) (f : X → Data) where
  -- the items so far have the values up to the i-th
  pub record HasRead (list : List Value) (i : ℕ) (xs : List X) : Type 0 where
    pub each : AllByRecursion P xs
    pub so_far : map f xs ++ map view (drop i list) ≡ map view list

module _ {X : Type 0} (P : X → Type 0) (f : X → Data) where
  pub begins : (list : List Value) → HasRead P f list 0 []
  begins list = record { each = tt; so_far = refl }

  stops_at : (list : List Value) (i : ℕ) (d : Value) → i < length list → ((x : X) → P x → view (get_or list i d) ≡ f x → ⊥) → (xs : List X) → AllByRecursion P xs → map view list ≡ map f xs → ⊥
  stops_at [] i d lt none xs h e = absurd (omega arith)
  stops_at (v ∷ list) i d lt none [] h e = cc
  stops_at (v ∷ list) zero d lt none (x ∷ xs) h e = none x h.0 (ap (head_or (view v)) e)
  stops_at (v ∷ list) (suc i) d lt none (x ∷ xs) h e = stops_at list i d (omega arith) none xs h.1 (ap tail_of e)

  -- where one of the values is that of no item, the array is that of no items
  pub stops : (list : List Value) (i : ℕ) (v : Value) → i < length list → v ≡ get_or list i v → ((x : X) → P x → view v ≡ f x → ⊥)
      → (xs : List X) → AllByRecursion P xs → array (items_view list) ≡ of_all f xs → ⊥
  stops list i v lt at none xs h e =
      stops_at list i v lt (λ x g is. none x g (ap view at ∙ is)) xs h (same_items (map view list) (map f xs) e)

  -- where each of the values so far is that of an item, one more is
  pub goes_on : (list : List Value) (i : ℕ) (v : Value) (x : X) (old new : List X) → i < length list → v ≡ get_or list i v → IsExactly P f (view v) (Ok x) → new ≡ old ++ x ∷ []
      → HasRead P f list i old → HasRead P f list (i + 1) new
  goes_on list i v x old new lt at is e so = record {
    each = subst (AllByRecursion P) (sym e) (each_join P old (x ∷ []) so.each (is.0, tt));
    so_far =
        ap (λ xs. map f xs ++ map view (drop (i + 1) list)) e
        ∙ ap (λ ds. ds ++ map view (drop (i + 1) list)) (map-append f old (x ∷ []))
        ∙ append_assoc (map f old) (f x ∷ []) (map view (drop (i + 1) list))
        ∙ ap (λ d. map f old ++ (d ∷ map view (drop (i + 1) list))) (sym is.1)
        ∙ ap (λ vs. map f old ++ map view vs) (sym (drop_more list i v lt ∙ ap (λ z. z ∷ drop (i + 1) list) (sym at)))
        ∙ so.so_far;
  }

  drop_all : (list : List Value) (i : ℕ) → length list ≤ i → drop i list ≡ []
  drop_all [] zero le = refl
  drop_all [] (suc i) le = refl
  drop_all (v ∷ list) zero le = absurd (omega arith)
  drop_all (v ∷ list) (suc i) le = drop_all list i (omega arith)

  same_length : (list : List Value) (xs : List X) → map view list ≡ map f xs → length list ≡ length xs
  same_length list xs e = sym (length-map list view) ∙ ap length e ∙ length-map xs f

  -- where the values are those of items, the array is theirs
  pub whole : (R : ℕ → Type 0) (list : List Value) (i : ℕ) (xs : List X) → R (length list) → length list ≤ i → HasRead P f list i xs
      → IsExactly (Each R P) (of_all f) (array (items_view list)) (Ok xs)
  whole R list i xs keeps le so =
      let is : map view list ≡ map f xs = sym so.so_far ∙ ap (λ vs. map f xs ++ map view vs) (drop_all list i le) ∙ append-nil (map f xs) in
      ((subst R (same_length list xs is) keeps, so.each), ap (λ ds. array (items_of ds)) is)

  -- where the number of values breaks the rule, the array is that of no items
  pub refused : (R : ℕ → Type 0) (list : List Value) → (R (length list) → ⊥) → (xs : List X) → Each R P xs → array (items_view list) ≡ of_all f xs → ⊥
  refused R list breaks xs h e = breaks (subst R (sym (same_length list xs (same_items (map view list) (map f xs) e))) h.0)

  -- the fault of an item is that of the array
  pub array_err : (R : ℕ → Type 0) (list : List Value) (i : ℕ) (v : Value) (e : JsonFault) → i < length list → v ≡ get_or list i v
      → IsExactly P f (view v) (Err e) → IsExactly (Each R P) (of_all f) (array (items_view list)) (Err e)
  array_err R list i v fault.Json lt at h = h
  array_err R list i v fault.Value lt at h = λ xs g is. stops list i v lt at h xs g.1 is
  array_err R list i v fault.NoMemory lt at h = tt
