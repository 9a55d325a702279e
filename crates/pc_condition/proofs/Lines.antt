-- The text of a condition determines its rows.
use Rattle.std.proofs.Common.{◌≡◌, ℕ, ◌≤◌, List, [], ◌∷◌, ◌++◌, drop, get_or, refl, sym, ap, ◌∙◌, append_assoc, arith}
use Rattle.std.specs.Prelude.{All, codes}
use Rattle.std.specs.List.{AllByRecursion, flat_map}
use Rattle.std.proofs.lemmas.List.{append_cancel_left, append_cancel_right, append-nil}
use Rattle.std.proofs.lemmas.List.Elements.{All-head, All-tail}
use Rattle.pc_rows.specs.Linear.{Linear}
use Rattle.pc_text.specs.Bytes.{Bytes}
use Rattle.pc_condition.specs.Conditions.{terms, sum_text, row_text, rows_text, line_text, lines_text, suffices}
use Rattle.pc_condition.specs.Law.{AreNames, IsOverNames, AreOver, LinesDetermineRows, TextDeterminesCondition}
use Rattle.pc_text.proofs.Splits.{Stops, same_cut, each-append, each_weaker}
use Rattle.pc_condition.proofs.Parts.{IsSumByte, is_sum_byte, are_sum_bytes, sum_text_bytes, same_sum}
use Rattle.pc_condition.proofs.RowParts.{parts, parts_text, parts_are_parts, same_parts}

sum_of : List Bytes → Linear → Bytes
sum_of names r = sum_text (parts names r)

sum_of_bytes : (names : List Bytes) (r : Linear) → AreNames names → AllByRecursion IsSumByte (sum_of names r)
unfolding sum_of
sum_of_bytes names r h = sum_text_bytes (parts names r) (parts_are_parts names r h)

same_sum_of :
    (names : List Bytes) (r q : Linear) → AreNames names → IsOverNames names r → IsOverNames names q →
    sum_of names r ≡ sum_of names q → r ≡ q
unfolding sum_of
same_sum_of names r q h over_r over_q e =
    same_parts names r q h over_r over_q (same_sum (parts names r) (parts names q) (parts_are_parts names r h) (parts_are_parts names q h) e)

space_is_sum_byte : AllByRecursion IsSumByte (32 ∷ [])
unfolding is_sum_byte
space_is_sum_byte = are_sum_bytes (codes " ") refl

row_is : (names : List Bytes) (r : Linear) → row_text names r ≡ sum_of names r ++ codes " >= 0"
unfolding sum_of
row_is names r = ap (λ z. z ++ codes " >= 0") (parts_text (terms names r.coefficients) r.constant)

-- the space before `>=` goes on with the sum, and `>` ends it
row_split :
    (names : List Bytes) (r : Linear) (x : Bytes) →
    row_text names r ++ x ≡ (sum_of names r ++ 32 ∷ []) ++ (62 ∷ 61 ∷ 32 ∷ 48 ∷ x)
row_split names r x =
    ap (λ z. z ++ x) (row_is names r)
    ∙ append_assoc (sum_of names r) (codes " >= 0") x
    ∙ sym (append_assoc (sum_of names r) (32 ∷ []) (62 ∷ 61 ∷ 32 ∷ 48 ∷ x))

greater_stops : (x : Bytes) → Stops IsSumByte (62 ∷ x)
greater_stops x = λ h. h.1 refl

with_space :
    (names : List Bytes) (r : Linear) → AreNames names →
    AllByRecursion IsSumByte (sum_of names r ++ 32 ∷ [])
with_space names r h = each-append IsSumByte (sum_of names r) (32 ∷ []) (sum_of_bytes names r h) space_is_sum_byte

same_row :
    (names : List Bytes) (r q : Linear) (x y : Bytes) → AreNames names → IsOverNames names r → IsOverNames names q →
    row_text names r ++ x ≡ row_text names q ++ y → (r ≡ q) × (x ≡ y)
same_row names r q x y h over_r over_q e =
    let split = sym (row_split names r x) ∙ e ∙ row_split names q y in
    let cut =
    same_cut IsSumByte (sum_of names r ++ 32 ∷ []) (sum_of names q ++ 32 ∷ []) _ _
    (with_space names r h) (with_space names q h)
    (greater_stops (61 ∷ 32 ∷ 48 ∷ x)) (greater_stops (61 ∷ 32 ∷ 48 ∷ y)) split in
    let sums = append_cancel_right (sum_of names r) (sum_of names q) (32 ∷ []) cut.0 in
    (same_sum_of names r q h over_r over_q sums, ap (drop 4) cut.1)

-- a text of a sum's bytes is no row
no_row :
    (names : List Bytes) (r : Linear) (w x : Bytes) → AreNames names → AllByRecursion IsSumByte w →
    w ≡ row_text names r ++ x → ⊥
no_row names r w x h in_w e =
    let split = append-nil w ∙ e ∙ row_split names r x in
    let cut =
    same_cut IsSumByte w (sum_of names r ++ 32 ∷ []) [] _ in_w (with_space names r h)
    tt (greater_stops (61 ∷ 32 ∷ 48 ∷ x)) split in
    let apart = cut.1 in
    cc

module _ (names : List Bytes) (h : AreNames names) where
  same_later_rows :
      (rs qs : List Linear) → All (IsOverNames names) rs → All (IsOverNames names) qs →
      flat_map (λ r. codes " && " ++ row_text names r) rs ≡ flat_map (λ r. codes " && " ++ row_text names r) qs →
      rs ≡ qs
  same_later_rows [] [] over_r over_q e = refl
  same_later_rows [] (q ∷ qs) over_r over_q e = absurd (cc)
  same_later_rows (r ∷ rs) [] over_r over_q e = absurd (cc)
  same_later_rows (r ∷ rs) (q ∷ qs) over_r over_q e =
      let first = All-head (IsOverNames names) r rs over_r in
      let second = All-head (IsOverNames names) q qs over_q in
      let same = same_row names r q _ _ h first second (ap (drop 4) e) in
      let head : r ≡ q = same.0 in
      let later = All-tail (IsOverNames names) r rs over_r in
      let others = All-tail (IsOverNames names) q qs over_q in
      let tail : rs ≡ qs = same_later_rows rs qs later others same.1 in
      cc

  true_bytes : AllByRecursion IsSumByte (codes "true")
  unfolding is_sum_byte
  true_bytes = are_sum_bytes (codes "true") refl

  false_bytes : AllByRecursion IsSumByte (codes "false")
  unfolding is_sum_byte
  false_bytes = are_sum_bytes (codes "false") refl

  same_rows :
      (rs qs : List Linear) → All (IsOverNames names) rs → All (IsOverNames names) qs →
      rows_text names rs ≡ rows_text names qs → rs ≡ qs
  same_rows [] [] over_r over_q e = refl
  same_rows [] (q ∷ qs) over_r over_q e = absurd (no_row names q (codes "true") _ h true_bytes e)
  same_rows (r ∷ rs) [] over_r over_q e = absurd (no_row names r (codes "true") _ h true_bytes (sym e))
  same_rows (r ∷ rs) (q ∷ qs) over_r over_q e =
      let first = All-head (IsOverNames names) r rs over_r in
      let second = All-head (IsOverNames names) q qs over_q in
      let same = same_row names r q _ _ h first second e in
      let head : r ≡ q = same.0 in
      let later = All-tail (IsOverNames names) r rs over_r in
      let others = All-tail (IsOverNames names) q qs over_q in
      let tail : rs ≡ qs = same_later_rows rs qs later others same.1 in
      cc

  not_false : (rs : List Linear) → codes "false" ≡ rows_text names rs → ⊥
  not_false [] e = let apart : ◌≡◌ {A = ℕ} 102 116 = ap (λ z. get_or z 0 0) e in absurd (omega arith)
  not_false (r ∷ rs) e = no_row names r (codes "false") _ h false_bytes e

  row_bytes : (r : Linear) → AllByRecursion (λ b. 32 ≤ b) (row_text names r)
  row_bytes r =
      rw (row_is names r)
      (each-append (λ b. 32 ≤ b) (sum_of names r) (codes " >= 0")
      (each_weaker IsSumByte (λ b. 32 ≤ b) (λ b g. g.0) (sum_of names r) (sum_of_bytes names r h))
      (omega arith, (omega arith, (omega arith, (omega arith, (omega arith, tt))))))

  later_rows_bytes :
      (rs : List Linear) →
      AllByRecursion (λ b. 32 ≤ b) (flat_map (λ r. codes " && " ++ row_text names r) rs)
  later_rows_bytes [] = tt
  later_rows_bytes (r ∷ rs) =
      let row = each-append (λ b. 32 ≤ b) (row_text names r) _ (row_bytes r) (later_rows_bytes rs) in
      (omega arith, (omega arith, (omega arith, (omega arith, row))))

  rows_bytes : (rs : List Linear) → AllByRecursion (λ b. 32 ≤ b) (rows_text names rs)
  rows_bytes [] = each_weaker IsSumByte (λ b. 32 ≤ b) (λ b g. g.0) (codes "true") true_bytes
  rows_bytes (r ∷ rs) = each-append (λ b. 32 ≤ b) (row_text names r) _ (row_bytes r) (later_rows_bytes rs)

feed_stops : (x : Bytes) → Stops (λ b. 32 ≤ b) (10 ∷ x)
feed_stops x = λ h. absurd (omega arith)

line_split : (word t x : Bytes) → line_text word t ++ x ≡ word ++ (t ++ 10 ∷ x)
line_split word t x = append_assoc (word ++ t) (10 ∷ []) x ∙ append_assoc word t (10 ∷ x)

same_line :
    (word t u x y : Bytes) → AllByRecursion (λ b. 32 ≤ b) t → AllByRecursion (λ b. 32 ≤ b) u →
    line_text word t ++ x ≡ line_text word u ++ y → (t ≡ u) × (x ≡ y)
same_line word t u x y in_t in_u e =
    let split = append_cancel_left word _ _ (sym (line_split word t x) ∙ e ∙ line_split word u y) in
    let cut = same_cut (λ b. 32 ≤ b) t u (10 ∷ x) (10 ∷ y) in_t in_u (feed_stops x) (feed_stops y) split in
    (cut.0, ap (drop 1) cut.1)

-- a line is not empty
some_line : (word t x : Bytes) → [] ≡ line_text word t ++ x → ⊥
some_line (b ∷ word) t x e = cc
some_line [] (b ∷ t) x e = cc
some_line [] [] x e = cc

module _ (names : List Bytes) (h : AreNames names) where
  same_lines :
      (word : Bytes) (a b : List (List Linear)) → AreOver names a → AreOver names b →
      lines_text word names a ≡ lines_text word names b → a ≡ b
  same_lines word [] [] over_a over_b e = refl
  same_lines word [] (rows ∷ b) over_a over_b e = absurd (some_line word (rows_text names rows) _ e)
  same_lines word (rows ∷ a) [] over_a over_b e = absurd (some_line word (rows_text names rows) _ (sym e))
  same_lines word (rows ∷ a) (others ∷ b) over_a over_b e =
      let bytes_a = rows_bytes names h rows in
      let bytes_b = rows_bytes names h others in
      let same = same_line word (rows_text names rows) (rows_text names others) _ _ bytes_a bytes_b e in
      let first = All-head (All (IsOverNames names)) rows a over_a in
      let second = All-head (All (IsOverNames names)) others b over_b in
      let head : rows ≡ others = same_rows names h rows others first second same.0 in
      let later_a = All-tail (All (IsOverNames names)) rows a over_a in
      let later_b = All-tail (All (IsOverNames names)) others b over_b in
      let tail : a ≡ b = same_lines word a b later_a later_b same.1 in
      cc

  not_none :
      (rows : List Linear) (more : Bytes) →
      line_text suffices (codes "false") ≡ line_text suffices (rows_text names rows) ++ more → ⊥
  not_none rows more e =
      let false_line = each_weaker IsSumByte (λ b. 32 ≤ b) (λ b g. g.0) (codes "false") (false_bytes names h) in
      let split = append-nil (line_text suffices (codes "false")) ∙ e in
      let same = same_line suffices (codes "false") (rows_text names rows) [] more false_line (rows_bytes names h rows) split in
      not_false names h rows same.0

pub lines_determine_rows : LinesDetermineRows
lines_determine_rows word names a b h over_a over_b e = same_lines names h word a b over_a over_b e

pub text_determines_condition : TextDeterminesCondition
text_determines_condition names [] [] h over_a over_b e = refl
text_determines_condition names [] (rows ∷ b) h over_a over_b e = absurd (not_none names h rows _ e)
text_determines_condition names (rows ∷ a) [] h over_a over_b e = absurd (not_none names h rows _ (sym e))
text_determines_condition names (rows ∷ a) (others ∷ b) h over_a over_b e =
    same_lines names h suffices (rows ∷ a) (others ∷ b) over_a over_b e
