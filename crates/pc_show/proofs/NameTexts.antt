-- The text of a list of names, a name at a time.
use Rattle.std.proofs.Common.{◌≡◌, ℕ, ◌+◌, ◌-◌, ◌<◌, ◌≤◌, ap, sym, ◌∙◌, arith, List, [], ◌∷◌, ◌++◌, append_assoc, append-nil, length, get_or, drop, take, Some, codes, length-drop, drop-cons, add-one, suc}
use Rattle.std.specs.Prelude.{slice_get, slice_range}
use Rattle.std.proofs.lemmas.List.{take_more, take_all, get_or-drop}
use Rattle.std.proofs.lemmas.Option.{get_or_from_slice_get}
use Rattle.std.proofs.lemmas.Grind.{flat_map-append}
use Rattle.pc_text.specs.Bytes.{Bytes}
use Rattle.pc_language.specs.declared.terminal.Terminal.TheVariants as terminal
use Rattle.pc_show.specs.Pieces.{Blank, Mark, Name, spelled, bytes_of}
use Rattle.pc_show.specs.Canonical.{further_names, names_pieces}

-- one name more
range_more : (xs : List Bytes) (a b : ℕ) (d : Bytes) → a ≤ b → b < length xs → slice_range xs a (b + 1) ≡ slice_range xs a b ++ get_or xs b d ∷ []
range_more xs a b d order within =
    let count : b + 1 - a ≡ (b - a) + 1 = omega arith in
    let inside : b - a < length (drop a xs) = simp length-drop (omega arith) in
    let at : a + (b - a) ≡ b = omega arith in
    ap (λ (n : ℕ). take n (drop a xs)) count ∙ take_more (drop a xs) (b - a) d inside ∙
    ap (λ (w : Bytes). take (b - a) (drop a xs) ++ w ∷ []) (get_or-drop a xs (b - a) d ∙ ap (λ (n : ℕ). get_or xs n d) at)

range_none : (xs : List Bytes) (a : ℕ) → slice_range xs a a ≡ []
range_none xs a = let none : a - a ≡ 0 = omega arith in ap (λ (n : ℕ). take n (drop a xs)) none

-- behind the old text stand the names from number a up to b, each behind a comma
abbrev pub HoldsNames : List Bytes → ℕ → ℕ → Bytes → Bytes → Type 0
HoldsNames names a b old new = new ≡ old ++ bytes_of (further_names (slice_range names a b))

pub names_start : (names : List Bytes) (a : ℕ) (old : Bytes) → HoldsNames names a a old old
names_start names a old = sym (append-nil old) ∙ ap (λ ws. old ++ bytes_of (further_names ws)) (sym (range_none names a))

further_text : (ws : List Bytes) (w : Bytes) → bytes_of (further_names (ws ++ w ∷ [])) ≡ bytes_of (further_names ws) ++ (codes ", " ++ w)
further_text ws w =
    ap bytes_of (flat_map-append (λ (w : Bytes). Mark terminal.Comma ∷ Blank 1 ∷ Name w ∷ []) ws (w ∷ [])) ∙
    flat_map-append spelled (further_names ws) (Mark terminal.Comma ∷ Blank 1 ∷ Name w ∷ []) ∙ ap (λ z. bytes_of (further_names ws) ++ (codes ", " ++ z)) (append-nil w)

module _ (names : List Bytes) (a b : ℕ) (w : Bytes) (order : a ≤ b) (within : b < length names) (at : slice_get names b ≡ Some w) where
  range_with : slice_range names a (b + 1) ≡ slice_range names a b ++ w ∷ []
  range_with = range_more names a b w order within ∙ ap (λ (v : Bytes). slice_range names a b ++ v ∷ []) (get_or_from_slice_get names b w w at)

  pub names_step : (old t0 t1 t2 : Bytes) → HoldsNames names a b old t0 → t1 ≡ t0 ++ codes ", " → t2 ≡ t1 ++ w → HoldsNames names a (b + 1) old t2
  names_step old t0 t1 t2 h e f =
      let text : t2 ≡ old ++ (bytes_of (further_names (slice_range names a b)) ++ (codes ", " ++ w)) = rw (f, e, h) (simp append_assoc) in
      text ∙ ap (λ z. old ++ z) (sym (further_text (slice_range names a b) w) ∙ ap (λ ws. bytes_of (further_names ws)) (sym range_with))

-- ---- the first name, and those behind it

pub no_names : (names : List Bytes) (a b : ℕ) (old : Bytes) → a ≡ b → old ≡ old ++ bytes_of (names_pieces (slice_range names a b))
no_names names a b old e = sym (append-nil old) ∙ ap (λ ws. old ++ bytes_of (names_pieces ws)) (sym (range_none names a) ∙ ap (slice_range names a) e)

range_first : (xs : List Bytes) (a b : ℕ) (d : Bytes) → a < b → b ≤ length xs → slice_range xs a b ≡ get_or xs a d ∷ slice_range xs (a + 1) b
range_first xs a b d less within =
    let count : b - a ≡ suc (b - (a + 1)) = omega arith in
    let inside : a < length xs = omega arith in
    let tail : drop a xs ≡ get_or xs a d ∷ drop (a + 1) xs = rw add-one (drop-cons xs a d inside) in
    ap (λ (n : ℕ). take n (drop a xs)) count ∙ ap (take (suc (b - (a + 1)))) tail

pub names_done : (names : List Bytes) (a b : ℕ) (w old t1 t2 : Bytes) → a < b → b ≤ length names → slice_get names a ≡ Some w →
    t1 ≡ old ++ w → t2 ≡ t1 ++ bytes_of (further_names (slice_range names (a + 1) b)) → t2 ≡ old ++ bytes_of (names_pieces (slice_range names a b))
names_done names a b w old t1 t2 less within at e f =
    let whole = range_first names a b w less within ∙ ap (λ (v : Bytes). v ∷ slice_range names (a + 1) b) (get_or_from_slice_get names a w w at) in
    f ∙ ap (λ z. z ++ bytes_of (further_names (slice_range names (a + 1) b))) e ∙ append_assoc old w (bytes_of (further_names (slice_range names (a + 1) b))) ∙
    ap (λ ws. old ++ bytes_of (names_pieces ws)) (sym whole)

-- ---- the names of a program

pub params_are : (xs : List Bytes) (n : ℕ) → slice_range xs 0 n ≡ take n xs
params_are xs n = let count : n - 0 ≡ n = omega arith in ap (λ (m : ℕ). take m xs) count

pub locals_are : (xs : List Bytes) (n m : ℕ) → m ≡ length xs → slice_range xs n m ≡ drop n xs
locals_are xs n m e = ap (λ (m : ℕ). slice_range xs n m) e ∙ take_all (length xs - n) (drop n xs) (simp length-drop (omega arith))
