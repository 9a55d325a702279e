-- The lines of the text that lines of plain words make.
use Rattle.std.proofs.Common.{◌≡◌, ◌∙◌, refl, ap, sym, ℕ, ◌+◌, List, [], ◌∷◌, ◌++◌, length, map, append_assoc, arith}
use Rattle.std.specs.List.{AllByRecursion, slice_split, count_by, flat_map, join_with_byte}
use Rattle.std.proofs.lemmas.List.{append-nil}
use Rattle.std.proofs.lemmas.List.Folds.{flat_map-map}
use Rattle.std.proofs.lemmas.List.Splits.{join_with_byte-slice_split, length-slice_split}
use Rattle.pc_text.specs.Words.{Words}
use Rattle.pc_text.proofs.PlainWords.{IsPlain, plain_line}
use Rattle.pc_text.proofs.WordLists.{joined}
use Rattle.pc_text.specs.Bytes.{Bytes}
use Rattle.pc_text.specs.Places.{is_line_feed}
use Rattle.pc_rows.proofs.Joining.{each_join}
use Rattle.pc_lines.specs.Faults.{all_but_last, last_of, ended_lines, tail_of}
use Rattle.pc_lines.specs.Texts.{lines_text, numbered}
use Rattle.pc_lines.proofs.EndedLines.{line_on}

-- the lines of the text that lines of plain words make
pub lines_of_text : (ls : List Words) → AllByRecursion (AllByRecursion IsPlain) ls → (ended_lines (lines_text ls) ≡ map joined ls) × (tail_of (lines_text ls) ≡ [])
lines_of_text [] h = (refl, refl)
lines_of_text (ws ∷ ls) h =
    let more = lines_of_text ls h.1 in
    let text : lines_text (ws ∷ ls) ≡ joined ws ++ 10 ∷ lines_text ls = append_assoc (joined ws) (10 ∷ []) (lines_text ls) in
    let first = line_on (joined ws) (lines_text ls) (plain_line ws h.0) in
    (ap ended_lines text ∙ first.0 ∙ ap (λ z. joined ws ∷ z) more.0, ap tail_of text ∙ first.1 ∙ more.1)

-- ---- a text is its lines

feeds : List Bytes → Bytes
feeds ls = flat_map (λ l. l ++ 10 ∷ []) ls

split_is : (ls : List Bytes) (k : ℕ) → length ls ≡ k + 1 → join_with_byte 10 ls ≡ feeds (all_but_last ls) ++ last_of ls
unfolding feeds
split_is [] k h = absurd (omega arith)
split_is (l ∷ []) k h = refl
split_is (l ∷ m ∷ ls) k h =
    ap (λ z. l ++ 10 ∷ z) (split_is (m ∷ ls) (length ls) (omega arith))
    ∙ sym (append_assoc l (10 ∷ []) (feeds (all_but_last (m ∷ ls)) ++ last_of (m ∷ ls)))
    ∙ sym (append_assoc (l ++ 10 ∷ []) (feeds (all_but_last (m ∷ ls))) (last_of (m ∷ ls)))

text_is : (b : Bytes) → b ≡ feeds (ended_lines b) ++ tail_of b
text_is b = sym (join_with_byte-slice_split 10 b) ∙ split_is (slice_split is_line_feed b) (count_by is_line_feed b) (length-slice_split is_line_feed b)

feeds_are : (ls : List Words) → feeds (map joined ls) ≡ lines_text ls
unfolding feeds
feeds_are ls = flat_map-map (λ l. l ++ 10 ∷ []) joined ls

-- the text of lines that all end with a line feed
pub text_of_lines : (b : Bytes) (ls : List Words) → ended_lines b ≡ map joined ls → tail_of b ≡ [] → b ≡ lines_text ls
text_of_lines b ls e t =
    text_is b
    ∙ ap (λ z. feeds (ended_lines b) ++ z) t
    ∙ append-nil (feeds (ended_lines b))
    ∙ ap feeds e
    ∙ feeds_are ls

-- ---- lines of plain words

abbrev pub ArePlainLines : List Words → Type 0
ArePlainLines ls = AllByRecursion (AllByRecursion IsPlain) ls

pub both_plain : (a b : List Words) → ArePlainLines a → ArePlainLines b → ArePlainLines (a ++ b)
both_plain a b h g = each_join (AllByRecursion IsPlain) a b h g

pub map_plain : {A : Type 0} (line : A → Words) → ((x : A) → AllByRecursion IsPlain (line x)) → (xs : List A) → ArePlainLines (map line xs)
map_plain line h [] = tt
map_plain line h (x ∷ xs) = (h x, map_plain line h xs)

pub numbered_plain : {A : Type 0} (lines : ℕ → A → List Words) → ((n : ℕ) (x : A) → ArePlainLines (lines n x)) → (n : ℕ) (xs : List A) → ArePlainLines (numbered lines n xs)
numbered_plain lines h n [] = tt
numbered_plain lines h n (x ∷ xs) = both_plain (lines n x) (numbered lines (n + 1) xs) (h n x) (numbered_plain lines h (n + 1) xs)

pub flat_plain : {A : Type 0} (lines : A → List Words) → ((x : A) → ArePlainLines (lines x)) → (xs : List A) → ArePlainLines (flat_map lines xs)
flat_plain lines h [] = tt
flat_plain lines h (x ∷ xs) = both_plain (lines x) (flat_map lines xs) (h x) (flat_plain lines h xs)
