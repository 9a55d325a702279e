-- Texts of lines, a word, a line or a part more.
use Rattle.std.proofs.Common.{◌≡◌, ◌∙◌, ap, sym, subst, ℕ, ◌+◌, ◌<◌, List, [], ◌∷◌, ◌++◌, length, map, take, get_or, ℤ, pos, append_assoc, Result, Ok, Err, arith}
use Rattle.std.specs.Prelude.{codes, OnOk}
use Rattle.std.specs.List.{AllByRecursion, flat_map}
use Rattle.std.proofs.lemmas.List.{append-nil, map-append, map_more, take_more, length-take-le}
use Rattle.std.proofs.lemmas.List.Concat.{flat_map-append}
use Rattle.pc_text.specs.Bytes.{Bytes}
use Rattle.pc_text.specs.Numerals.{numeral}
use Rattle.pc_rows.specs.declared.proof.Part.{Part}
use Rattle.pc_rows.specs.Linear.{Linear}
use Rattle.pc_rows.proofs.Joining.{each_join}
use Rattle.pc_text.specs.Words.{Words}
use Rattle.pc_lines.specs.Texts.{row_line, line_text, lines_text, numbered}
use Rattle.pc_text.proofs.WordLists.{joined}
use Rattle.pc_lines.proofs.ProofSpelling.{part_line}

-- the words of a proof with these parts
abbrev pub proof_words : ℤ → List Part → Words
proof_words goal parts = numeral goal ∷ flat_map (λ part. numeral (pos part.index) ∷ numeral part.multiplier ∷ []) parts

-- a word more
further : (w : Bytes) (ws vs : Words) → joined (w ∷ (ws ++ vs)) ≡ joined (w ∷ ws) ++ flat_map (λ v. codes " " ++ v) vs
further w ws vs = ap (λ z. w ++ z) (flat_map-append (λ v. codes " " ++ v) ws vs) ∙ sym (append_assoc w (flat_map (λ v. codes " " ++ v) ws) (flat_map (λ v. codes " " ++ v) vs))

one_further : (w : Bytes) (ws : Words) (v : Bytes) → joined (w ∷ (ws ++ v ∷ [])) ≡ joined (w ∷ ws) ++ (codes " " ++ v)
one_further w ws v = further w ws (v ∷ []) ∙ ap (λ z. joined (w ∷ ws) ++ z) (append-nil (codes " " ++ v))

-- a text that grew by one piece and then another
pub grown : (old mid new x y : Bytes) → mid ≡ old ++ x → new ≡ mid ++ y → new ≡ old ++ (x ++ y)
grown old mid new x y e f = f ∙ ap (λ z. z ++ y) e ∙ append_assoc old x y

row_more : (r : Linear) (v : ℕ) → v < length r.coefficients → joined (row_line (v + 1) r) ≡ joined (row_line v r) ++ (codes " " ++ numeral (get_or r.coefficients v (pos 0)))
row_more r v h =
    ap (λ zs. joined (numeral r.constant ∷ map numeral zs)) (take_more r.coefficients v (pos 0) h)
    ∙ ap (λ ws. joined (numeral r.constant ∷ ws)) (map-append numeral (take v r.coefficients) (get_or r.coefficients v (pos 0) ∷ []))
    ∙ one_further (numeral r.constant) (map numeral (take v r.coefficients)) (numeral (get_or r.coefficients v (pos 0)))

-- a coefficient more of a row
pub row_step : (r : Linear) (v : ℕ) (c : ℤ) (old mid new : Bytes) → v < length r.coefficients → c ≡ get_or r.coefficients v (pos 0) →
    mid ≡ old ++ joined (row_line v r) → new ≡ mid ++ (codes " " ++ numeral c) → new ≡ old ++ joined (row_line (v + 1) r)
row_step r v c old mid new h e f g =
    grown old mid new (joined (row_line v r)) (codes " " ++ numeral c) f g
    ∙ ap (λ z. old ++ (joined (row_line v r) ++ (codes " " ++ numeral z))) e
    ∙ ap (λ z. old ++ z) (sym (row_more r v h))

-- the line feed of a line
pub line_end : (ws : Words) (old mid new : Bytes) → mid ≡ old ++ joined ws → new ≡ mid ++ 10 ∷ [] → new ≡ old ++ line_text ws
line_end ws old mid new e f = grown old mid new (joined ws) (10 ∷ []) e f

-- ---- parts

proof_more : (goal : ℤ) (ps : List Part) (p : Part) → joined (proof_words goal (ps ++ p ∷ [])) ≡ joined (proof_words goal ps) ++ (codes " " ++ numeral (pos p.index) ++ (codes " " ++ numeral p.multiplier))
proof_more goal ps p =
    ap (λ ws. joined (numeral goal ∷ ws)) (flat_map-append part_line ps (p ∷ []))
    ∙ further (numeral goal) (flat_map part_line ps) (part_line p)
    ∙ ap (λ z. joined (proof_words goal ps) ++ ((codes " " ++ numeral (pos p.index)) ++ z)) (append-nil (codes " " ++ numeral p.multiplier))

-- a part more of a proof
pub proof_step : (goal : ℤ) (ps : List Part) (i : ℕ) (p : Part) (old mid index new : Bytes) → i < length ps → get_or ps i p ≡ p →
    mid ≡ old ++ joined (proof_words goal (take i ps)) → index ≡ mid ++ (codes " " ++ numeral (pos p.index)) → new ≡ index ++ (codes " " ++ numeral p.multiplier) →
    new ≡ old ++ joined (proof_words goal (take (i + 1) ps))
proof_step goal ps i p old mid index new h e f g k =
    grown old mid new (joined (proof_words goal (take i ps))) ((codes " " ++ numeral (pos p.index)) ++ (codes " " ++ numeral p.multiplier)) f
    (grown mid index new (codes " " ++ numeral (pos p.index)) (codes " " ++ numeral p.multiplier) g k)
    ∙ ap (λ z. old ++ z) (sym (proof_more goal (take i ps) p))
    ∙ ap (λ q. old ++ joined (proof_words goal (take i ps ++ q ∷ []))) (sym e)
    ∙ ap (λ qs. old ++ joined (proof_words goal qs)) (sym (take_more ps i p h))

-- ---- lines

pub lines_on : (a b : List Words) → lines_text (a ++ b) ≡ lines_text a ++ lines_text b
lines_on a b = flat_map-append line_text a b

-- a line more
line_more : {A : Type 0} (line : A → Words) (xs : List A) (i : ℕ) (x : A) → i < length xs → get_or xs i x ≡ x → lines_text (map line (take (i + 1) xs)) ≡ lines_text (map line (take i xs)) ++ line_text (line x)
line_more line xs i x h e =
    ap lines_text (map_more line xs i x h)
    ∙ lines_on (map line (take i xs)) (line (get_or xs i x) ∷ [])
    ∙ ap (λ z. lines_text (map line (take i xs)) ++ z) (append-nil (line_text (line (get_or xs i x))))
    ∙ ap (λ y. lines_text (map line (take i xs)) ++ line_text (line y)) e

pub line_step : {A : Type 0} (line : A → Words) (head : Bytes) (xs : List A) (i : ℕ) (x : A) (old mid new : Bytes) → i < length xs → get_or xs i x ≡ x →
    mid ≡ old ++ (head ++ lines_text (map line (take i xs))) → new ≡ mid ++ line_text (line x) → new ≡ old ++ (head ++ lines_text (map line (take (i + 1) xs)))
line_step line head xs i x old mid new h e f g =
    grown old mid new (head ++ lines_text (map line (take i xs))) (line_text (line x)) f g
    ∙ ap (λ z. old ++ z) (append_assoc head (lines_text (map line (take i xs))) (line_text (line x)) ∙ ap (λ z. head ++ z) (sym (line_more line xs i x h e)))

numbered_on : {A : Type 0} (lines : ℕ → A → List Words) (n : ℕ) (xs ys : List A) → numbered lines n (xs ++ ys) ≡ numbered lines n xs ++ numbered lines (n + length xs) ys
numbered_on lines n [] ys = let all : n ≡ n + 0 = omega arith in ap (λ m. numbered lines m ys) all
numbered_on lines n (x ∷ xs) ys =
    let next : n + 1 + length xs ≡ n + length (x ∷ xs) = omega arith in
    ap (λ ls. lines n x ++ ls) (numbered_on lines (n + 1) xs ys ∙ ap (λ m. numbered lines (n + 1) xs ++ numbered lines m ys) next)
    ∙ sym (append_assoc (lines n x) (numbered lines (n + 1) xs) (numbered lines (n + length (x ∷ xs)) ys))

numbered_more : {A : Type 0} (lines : ℕ → A → List Words) (xs : List A) (i : ℕ) (x : A) → i < length xs → get_or xs i x ≡ x →
    lines_text (numbered lines 0 (take (i + 1) xs)) ≡ lines_text (numbered lines 0 (take i xs)) ++ lines_text (lines i x)
numbered_more lines xs i x h e =
    let place : 0 + length (take i xs) ≡ i = omega (arith, length-take-le i xs (omega arith)) in
    ap (λ ys. lines_text (numbered lines 0 ys)) (take_more xs i x h)
    ∙ ap lines_text (numbered_on lines 0 (take i xs) (get_or xs i x ∷ []))
    ∙ lines_on (numbered lines 0 (take i xs)) (lines (0 + length (take i xs)) (get_or xs i x) ++ [])
    ∙ ap (λ ls. lines_text (numbered lines 0 (take i xs)) ++ lines_text ls) (append-nil (lines (0 + length (take i xs)) (get_or xs i x)))
    ∙ ap (λ n. lines_text (numbered lines 0 (take i xs)) ++ lines_text (lines n (get_or xs i x))) place
    ∙ ap (λ y. lines_text (numbered lines 0 (take i xs)) ++ lines_text (lines i y)) e

-- an item more of numbered ones
pub numbered_step : {A : Type 0} (lines : ℕ → A → List Words) (xs : List A) (i : ℕ) (x : A) (old mid new : Bytes) → i < length xs → get_or xs i x ≡ x →
    mid ≡ old ++ lines_text (numbered lines 0 (take i xs)) → new ≡ mid ++ lines_text (lines i x) → new ≡ old ++ lines_text (numbered lines 0 (take (i + 1) xs))
numbered_step lines xs i x old mid new h e f g =
    grown old mid new (lines_text (numbered lines 0 (take i xs))) (lines_text (lines i x)) f g ∙ ap (λ z. old ++ z) (sym (numbered_more lines xs i x h e))

-- what holds of one item more
pub all_more : {A : Type 0} (P : A → Type 0) (xs : List A) (i : ℕ) (x : A) → i < length xs → get_or xs i x ≡ x → AllByRecursion P (take i xs) → P x → AllByRecursion P (take (i + 1) xs)
all_more P xs i x h e all one =
    subst (AllByRecursion P) (sym (take_more xs i x h)) (each_join P (take i xs) (get_or xs i x ∷ []) all (subst P (sym e) one, tt))

-- ---- the sizes

-- a word more of a line
word_step : (old mid new w : Bytes) (ws : Words) (v : Bytes) → mid ≡ old ++ joined (w ∷ ws) → new ≡ mid ++ (codes " " ++ v) → new ≡ old ++ joined (w ∷ (ws ++ v ∷ []))
word_step old mid new w ws v e f = grown old mid new (joined (w ∷ ws)) (codes " " ++ v) e f ∙ ap (λ z. old ++ z) (sym (one_further w ws v))

pub three_numbers : (old name first second third new : Bytes) (p e v : Bytes) → name ≡ old ++ codes "graph" → first ≡ name ++ (codes " " ++ p) → second ≡ first ++ (codes " " ++ e) →
    third ≡ second ++ (codes " " ++ v) → new ≡ third ++ 10 ∷ [] → new ≡ old ++ line_text (codes "graph" ∷ p ∷ e ∷ v ∷ [])
three_numbers old name first second third new p e v a b c d f =
    let points = word_step old name first (codes "graph") [] p a b in
    let edges = word_step old first second (codes "graph") (p ∷ []) e points c in
    let variables = word_step old second third (codes "graph") (p ∷ e ∷ []) v edges d in
    line_end (codes "graph" ∷ p ∷ e ∷ v ∷ []) old third new variables f

pub added_by : {E : Type 0} (r : Result (Unit {0}) E) (P Q : Type 0) → (P → Q) → OnOk r P → OnOk r Q
added_by (Ok u) P Q f h = f h
added_by (Err e) P Q f h = tt
