-- Places by counting on, and how large they are.
use Rattle.std.proofs.Common.{◌≡◌, ◌≤◌, ◌<◌, ℕ, ◌+◌, ◌-◌, Bool, true, false, not, cond, [], ◌∷◌, ◌++◌, take, drop, refl, sym, ap, ◌∙◌, arith, append_assoc}
use Rattle.std.specs.List.{count_by}
use Rattle.std.specs.Prelude.{reverse}
use Rattle.std.proofs.lemmas.List.{reverse-append, length-reverse, append-nil, length-take}
use Rattle.std.proofs.lemmas.List.Sums.{count_by-le-length, prefix_len-le-length, sum_by-append}
use Rattle.std.proofs.Math.Seq.{take-add}
use Rattle.pc_text.specs.declared.place.Place.{Place}
use Rattle.pc_text.specs.Bytes.{Bytes}
use Rattle.pc_text.specs.Places.{is_line_feed, last_line, place_behind, place_of, step, behind}

same_place : (l m c d : ℕ) → l ≡ m → c ≡ d → ◌≡◌ {A = Place} (record { line = l; column = c }) (record { line = m; column = d })
same_place l m c d p q = cc

lines_more : (v : Bytes) (c : ℕ) → count_by is_line_feed (v ++ c ∷ []) ≡ count_by is_line_feed v + count_by is_line_feed (c ∷ [])
lines_more v c = sum_by-append (λ x. cond (is_line_feed x) 1 0) v (c ∷ [])

step_by : (v : Bytes) (c : ℕ) (b : Bool) → is_line_feed c ≡ b → step (place_behind v) c ≡ place_behind (v ++ c ∷ [])
step_by v c true e = rw (lines_more v c, reverse-append v (c ∷ []), e) refl
step_by v c false e =
    rw (lines_more v c, reverse-append v (c ∷ []), e)
    (same_place (count_by is_line_feed v + 1) (count_by is_line_feed v + 0 + 1) (last_line v + 1 + 1) (1 + last_line v + 1) (omega arith) (omega arith))

-- counting on from behind a text
pub behind_is : (v w : Bytes) → behind (place_behind v) w ≡ place_behind (v ++ w)
behind_is v [] = ap place_behind (sym (append-nil v))
behind_is v (c ∷ w) =
    ap (λ p. behind p w) (step_by v c (is_line_feed c) refl) ∙ behind_is (v ++ c ∷ []) w ∙ ap place_behind (append_assoc v (c ∷ []) w)

-- counting on from one byte to another
pub place_on : (b : Bytes) (i j : ℕ) → i ≤ j → behind (place_of b i) (take (j - i) (drop i b)) ≡ place_of b j
unfolding place_of
place_on b i j h =
    let sum : i + (j - i) ≡ j = omega arith in
    behind_is (take i b) (take (j - i) (drop i b)) ∙ ap place_behind (sym (take-add i (j - i) b)) ∙ ap (place_of b) sum

pub place_start : (b : Bytes) → place_of b 0 ≡ record { line = 1; column = 1 }
unfolding place_of
place_start b = refl

-- a place is at most as far as its byte
pub place_line : (b : Bytes) (o : ℕ) → (place_of b o).line ≤ o + 1
unfolding place_of
place_line b o = omega (arith, count_by-le-length is_line_feed (take o b), length-take o b)

pub place_column : (b : Bytes) (o : ℕ) → (place_of b o).column ≤ o + 1
unfolding place_of
place_column b o = omega (arith, prefix_len-le-length (λ c. not (is_line_feed c)) (reverse (take o b)), length-reverse (take o b), length-take o b)

pub place_some : (b : Bytes) (o : ℕ) → 0 < (place_of b o).column
unfolding place_of
place_some b o = omega arith
