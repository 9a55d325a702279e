-- Arrays whose values are taken from the front, one after another.
use Rattle.std.proofs.Common.{◌≡◌, ◌∙◌, ℕ, List, [], ◌∷◌, ◌++◌, length, map, Ok, Err, refl, sym, ap, subst, append_assoc}
use Rattle.std.proofs.lemmas.List.{map-append, append-nil, length-map}
use Rattle.std.specs.List.{AllByRecursion}
use Rattle.serde_json.specs.Data.{Data, array}
use Rattle.serde_json.specs.View.{view, items_view, items_of}
use Rattle.serde_json.specs.declared.Value.{Value}
use Rattle.pc_rows.proofs.Joining.{each_join}
use Rattle.pc_json.specs.declared.fault.JsonFault.{JsonFault}
use Rattle.pc_json.specs.declared.fault.JsonFault.TheVariants as fault
use Rattle.pc_json.specs.Values.{of_all}
use Rattle.pc_json.specs.Kept.{Each}
use Rattle.pc_json.specs.Exactly.{IsExactly}
use Rattle.pc_json.proofs.Injective.{same_items, head_or, tail_of}

module _ {X : Type 0} (P : X → Type 0) (f : X → Data) where
  -- the items so far have the values before those that are left
  pub record HasTaken (list rest : List Value) (xs : List X) : Type 0 where
    pub each : AllByRecursion P xs
    pub so_far : map f xs ++ map view rest ≡ map view list

module _ {X : Type 0} (P : X → Type 0) (f : X → Data) where
  pub begins : (list : List Value) → HasTaken P f list list []
  begins list = record { each = tt; so_far = refl }

  pub goes_on : (list rest more : List Value) (v : Value) (x : X) (old new : List X) → rest ≡ v ∷ more → IsExactly P f (view v) (Ok x) → new ≡ old ++ x ∷ [] → HasTaken P f list rest old → HasTaken P f list more new
  goes_on list rest more v x old new taken is e so = record {
    each = subst (AllByRecursion P) (sym e) (each_join P old (x ∷ []) so.each (is.0, tt));
    so_far =
        ap (λ xs. map f xs ++ map view more) e
        ∙ ap (λ ds. ds ++ map view more) (map-append f old (x ∷ []))
        ∙ append_assoc (map f old) (f x ∷ []) (map view more)
        ∙ ap (λ d. map f old ++ (d ∷ map view more)) (sym is.1)
        ∙ ap (λ vs. map f old ++ map view vs) (sym taken)
        ∙ so.so_far;
  }

  pub whole : (R : ℕ → Type 0) (list : List Value) (xs : List X) → R (length list) → HasTaken P f list [] xs → IsExactly (Each R P) (of_all f) (array (items_view list)) (Ok xs)
  whole R list xs keeps so =
      let is : map view list ≡ map f xs = sym so.so_far ∙ append-nil (map f xs) in
      let long : length list ≡ length xs = sym (length-map list view) ∙ ap length is ∙ length-map xs f in
      ((subst R long keeps, so.each), ap (λ ds. array (items_of ds)) is)

  stops_at : (es : List X) (ds : List Data) (v : Value) → ((x : X) → P x → view v ≡ f x → ⊥) → (xs : List X) → AllByRecursion P xs → map f es ++ view v ∷ ds ≡ map f xs → ⊥
  stops_at [] ds v none [] h e = cc
  stops_at [] ds v none (x ∷ xs) h e = none x h.0 (ap (head_or (view v)) e)
  stops_at (y ∷ es) ds v none [] h e = cc
  stops_at (y ∷ es) ds v none (x ∷ xs) h e = stops_at es ds v none xs h.1 (ap tail_of e)

  -- the fault of an item is that of the array
  pub taken_err : (R : ℕ → Type 0) (list rest more : List Value) (v : Value) (xs : List X) (e : JsonFault) → rest ≡ v ∷ more → HasTaken P f list rest xs
      → IsExactly P f (view v) (Err e) → IsExactly (Each R P) (of_all f) (array (items_view list)) (Err e)
  taken_err R list rest more v xs fault.Json taken so h = h
  taken_err R list rest more v xs fault.Value taken so h = λ ys g is.
      stops_at xs (map view more) v h ys g.1 (ap (λ vs. map f xs ++ map view vs) (sym taken) ∙ so.so_far ∙ same_items (map view list) (map f ys) is)
  taken_err R list rest more v xs fault.NoMemory taken so h = tt
