-- The turns of a loop over a list: what is said of the rest of the list, and what is still said of it one item further on.
use Rattle.std.proofs.Common.{◌≡◌, ℕ, ◌+◌, ◌≤◌, List, Bool, true, false, drop, length, get_or, refl, sym, ap, ◌∙◌, arith, slice_get, Option, Some}
use Rattle.std.specs.Prelude.{◌&&◌}
use Rattle.std.specs.List.{list_all, position_from, zip}
use Rattle.std.proofs.lemmas.List.{drop_all}
use Rattle.std.proofs.lemmas.Option.{slice_get_within, slice_get-get_or, get_or_from_slice_get}
use Rattle.std.proofs.lemmas.Slice.Zip.{length-zip, get_or-zip}
use Rattle.pc_rows.proofs.Adding.{drop_got}
use Rattle.pc_replay.specs.declared.ruling.Ruling.{Ruling}
use Rattle.pc_replay.specs.declared.ruling.Ruling.TheVariants as answer
use Rattle.pc_replay.specs.Rule.{first_refusal, in_order}

pub false_left : (b c : Bool) → b ≡ false → false ≡ (b && c)
false_left b c h = rw h refl

module _ {A : Type 0} (xs : List A) (i : ℕ) (x : A) (got : slice_get xs i ≡ Some x) where
  pub all_fail : (p : A → Bool) (goal : Bool) → p x ≡ false → list_all p (drop i xs) ≡ goal → goal ≡ false
  all_fail p goal h rest = sym rest ∙ ap (list_all p) (drop_got xs i x got) ∙ rw h refl

  pub all_go_on : (p : A → Bool) (goal : Bool) → p x ≡ true → list_all p (drop i xs) ≡ goal → list_all p (drop (i + 1) xs) ≡ goal
  all_go_on p goal h rest = sym (ap (list_all p) (drop_got xs i x got) ∙ rw h refl) ∙ rest

  pub found_here : (p : A → Bool) (goal : Option ℕ) → p x ≡ true → position_from p i (drop i xs) ≡ goal → Some i ≡ goal
  found_here p goal h rest = sym (ap (position_from p i) (drop_got xs i x got) ∙ rw h refl) ∙ rest

  pub found_later : (p : A → Bool) (goal : Option ℕ) → p x ≡ false → position_from p i (drop i xs) ≡ goal → position_from p (i + 1) (drop (i + 1) xs) ≡ goal
  found_later p goal h rest = sym (ap (position_from p i) (drop_got xs i x got) ∙ rw h refl) ∙ rest

  pub refused_here : (f : ℕ → A → Ruling) (goal : Ruling) → (f i x ≡ answer.Accepted → ⊥) → in_order f i (drop i xs) ≡ goal → f i x ≡ goal
  refused_here f goal refuses rest = sym (ap (in_order f i) (drop_got xs i x got) ∙ first_refuses (f i x) (in_order f (i + 1) (drop (i + 1) xs)) refuses) ∙ rest
    where
      first_refuses : (r s : Ruling) → (r ≡ answer.Accepted → ⊥) → first_refusal r s ≡ r
      first_refuses answer.Accepted s h = absurd (h refl)
      first_refuses answer.Shape s h = refl
      first_refuses (answer.Entry a k) s h = refl
      first_refuses (answer.Count a e) s h = refl
      first_refuses (answer.Negative a e k) s h = refl
      first_refuses (answer.Index a e k) s h = refl
      first_refuses (answer.Past a e k) s h = refl
      first_refuses (answer.NotBelow a e k) s h = refl
      first_refuses (answer.Left a e k v) s h = refl

  pub ruling_goes_on : (f : ℕ → A → Ruling) (goal : Ruling) → f i x ≡ answer.Accepted → in_order f i (drop i xs) ≡ goal → in_order f (i + 1) (drop (i + 1) xs) ≡ goal
  ruling_goes_on f goal accepts rest =
      sym (ap (in_order f i) (drop_got xs i x got) ∙ ap (λ r. first_refusal r (in_order f (i + 1) (drop (i + 1) xs))) accepts) ∙ rest

-- nothing was refused
pub ruled_all : {A : Type 0} (f : ℕ → A → Ruling) (xs : List A) (i : ℕ) (goal : Ruling) → length xs ≤ i → in_order f i (drop i xs) ≡ goal → answer.Accepted ≡ goal
ruled_all f xs i goal le rest = ap (in_order f i) (sym (drop_all i xs le)) ∙ rest

-- the pair at a place
pub got_pair : {A B : Type 0} (xs : List A) (ys : List B) (i : ℕ) (x : A) (y : B) → slice_get xs i ≡ Some x → slice_get ys i ≡ Some y → slice_get (zip xs ys) i ≡ Some (x, y)
got_pair xs ys i x y h g =
    let in_xs = slice_get_within xs i x h in
    let in_ys = slice_get_within ys i y g in
    let long = length-zip xs ys in
    slice_get-get_or (zip xs ys) i (x, y) (omega arith)
    ∙ ap Some
    (get_or-zip xs ys i (x, y) in_xs in_ys
    ∙ ap (λ z. (z, get_or ys i y)) (get_or_from_slice_get xs i x x h)
    ∙ ap (λ z. (x, z)) (get_or_from_slice_get ys i y y g))
