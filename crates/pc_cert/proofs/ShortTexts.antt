-- How long the text of a certificate may be.
use Rattle.std.proofs.Common.{◌≡◌, ℕ, suc, ◌+◌, ◌*◌, ◌^◌, ◌≤◌, ◌<◌, nat_le, inl, inr, refl, arith, List, [], ◌∷◌, ◌++◌, length, map, take, length-append, codes, Bool, true, false, cond, ℤ, pos, negsuc, length-take}
use Rattle.std.specs.Prelude.{◌==◌}
use Rattle.std.specs.List.{AllByRecursion, flat_map}
use Rattle.std.specs.Int.Digits.{digits_of}
use Rattle.std.proofs.lemmas.Int.Digits.{length-digits_of-le}
use Rattle.std.proofs.lemmas.List.{length-map}
use Rattle.pc_text.specs.Bytes.{Bytes}
use Rattle.pc_text.specs.Numerals.{numeral, natural_text}
use Rattle.pc_rows.specs.declared.proof.Part.{Part}
use Rattle.pc_rows.specs.declared.row.TheConstants.{VARIABLES}
use Rattle.pc_rows.specs.declared.rows.TheConstants.{ROWS}
use Rattle.pc_rows.specs.declared.system.TheConstants.{PREMISES}
use Rattle.pc_rows.specs.Linear.{Linear, InRange, AllInRange, IsRow}
use Rattle.pc_rows.specs.Joins.{IsRows}
use Rattle.pc_rows.specs.Evidence.{Proof, IsPart, IsProof, IsRising}
use Rattle.pc_certificate.specs.declared.certificate.Annotated.{Annotated}
use Rattle.pc_certificate.specs.declared.certificate.TheConstants.{POINTS}
use Rattle.pc_language.specs.declared.limits.TheConstants.{EDGES}
use Rattle.pc_text.specs.Words.{Words}
use Rattle.pc_certificate.specs.Certificate.{IsAnnotation, IsAnnotated, NamesPremises, IsLean, AreLean}
use Rattle.pc_cert.specs.Lengths.{row_bytes, proof_bytes, point_bytes, edge_bytes, alternative_bytes, text_bytes, TextsAreShort}
use Rattle.pc_lines.specs.Texts.{counts, row_line, proof_line, numbered, line_text, lines_text}
use Rattle.pc_cert.specs.CertificateTexts.{point_lines, edge_lines, alternative_lines}
use Rattle.pc_lines.proofs.RowSpelling.{range_of_front}
use Rattle.pc_lines.proofs.ProofSpelling.{from_zero}
use Rattle.pc_cert.proofs.WholeReading.{part_indices}

-- ---- numerals

-- a text of no more than so many bytes
abbrev IsWithin : ℕ → Bytes → Type 0
IsWithin m w = length w ≤ m

-- the greatest length of a numeral of a number in range: a sign and 39 digits
abbrev IsShort : Bytes → Type 0
IsShort w = IsWithin 40 w

natural_by : (k n : ℕ) (t : Bool) → 0 < k → n < 10 ^ k → length (cond t (48 ∷ []) (map (λ d. 48 + d) (digits_of 10 n))) ≤ k
natural_by k n true some h = omega arith
natural_by k n false some h = omega (arith, length-digits_of-le 10 k n (omega arith) h, length-map (digits_of 10 n) (λ (d : ℕ). 48 + d))

-- a number below a power of ten has no more digits than that
natural_short : (k n : ℕ) → 0 < k → n < 10 ^ k → IsWithin k (natural_text n)
natural_short k n some h = natural_by k n (n == 0) some h

index_short : (n : ℕ) → n < PREMISES → IsWithin 2 (numeral (pos n))
unfolding numeral
index_short n h = natural_short 2 n (omega arith) (omega arith)

numeral_short : (z : ℤ) → InRange z → IsShort (numeral z)
unfolding numeral
numeral_short (pos n) h = let s = natural_short 39 n (omega arith) (omega arith) in omega arith
numeral_short (negsuc n) h = let s = natural_short 39 (suc n) (omega arith) (omega arith) in omega arith

count_short : (n : ℕ) → n < 2 ^ 127 → IsShort (numeral (pos n))
count_short n h = numeral_short (pos n) h

-- ---- lines

-- the words behind the first, each behind a space
abbrev further : Words → Bytes
further ws = flat_map (λ w. codes " " ++ w) ws

further_more : (w : Bytes) (ws : Words) → length (further (w ∷ ws)) ≡ 1 + length w + length (further ws)
further_more w ws = let e = length-append (32 ∷ w) (further ws) in omega arith

line_is : (w : Bytes) (ws : Words) → length (line_text (w ∷ ws)) ≡ length w + length (further ws) + 1
line_is w ws =
    let e : length (line_text (w ∷ ws)) ≡ length (w ++ further ws) + length {A = ℕ} (10 ∷ []) = length-append (w ++ further ws) (10 ∷ []) in
    let f = length-append w (further ws) in
    omega arith

further_short : (ws : Words) → AllByRecursion IsShort ws → length (further ws) ≤ length ws * 41
further_short [] h = omega arith
further_short (w ∷ ws) h = let s = h.0 in let r = further_short ws h.1 in let e = further_more w ws in omega arith

-- a line takes no more than 41 bytes for each word: a word is followed by a space or the line feed
line_short : (w : Bytes) (ws : Words) → IsShort w → AllByRecursion IsShort ws → length (line_text (w ∷ ws)) ≤ suc (length ws) * 41
line_short w ws s h = let r = further_short ws h in let e = line_is w ws in omega arith

lines_join : (xs ys : List Words) → length (lines_text (xs ++ ys)) ≡ length (lines_text xs) + length (lines_text ys)
lines_join [] ys = omega arith
lines_join (x ∷ xs) ys =
    let r = lines_join xs ys in
    omega (arith, length-append (line_text x) (lines_text (xs ++ ys)), length-append (line_text x) (lines_text xs))

-- lines that are made of each item, no more than m bytes for one
made_short : {A : Type 0} (m : ℕ) (f : A → Words) (P : A → Type 0) → ((x : A) → P x → length (line_text (f x)) ≤ m) → (xs : List A) → AllByRecursion P xs → length (lines_text (map f xs)) ≤ length xs * m
made_short m f P short [] h = omega arith
made_short m f P short (x ∷ xs) h =
    let s = short x h.0 in
    let r = made_short m f P short xs h.1 in
    omega (arith, length-append (line_text (f x)) (lines_text (map f xs)))

numbered_short : {A : Type 0} (m top : ℕ) (f : ℕ → A → List Words) (P : A → Type 0) → ((n : ℕ) (x : A) → n < top → P x → length (lines_text (f n x)) ≤ m) →
    (n : ℕ) (xs : List A) → n + length xs ≤ top → AllByRecursion P xs → length (lines_text (numbered f n xs)) ≤ length xs * m
numbered_short m top f P short n [] le h = omega arith
numbered_short m top f P short n (x ∷ xs) le h =
    let s = short n x (omega arith) h.0 in
    let r = numbered_short m top f P short (n + 1) xs (omega arith) h.1 in
    omega (arith, lines_join (f n x) (numbered f (n + 1) xs))

-- a line that tells how many follow it
head_short : (name : Bytes) (n k : ℕ) → length name ≤ 40 → n < 2 ^ 127 → k < 2 ^ 127 → length (line_text (counts name (n ∷ k ∷ []))) ≤ 124
head_short name n k l hn hk = let s = line_short name (numeral (pos n) ∷ numeral (pos k) ∷ []) l (count_short n hn, (count_short k hk, tt)) in omega arith

headed_short : (m : ℕ) (name : Bytes) (n k : ℕ) (more : List Words) → length name ≤ 40 → n < 2 ^ 127 → k < 2 ^ 127 → length (lines_text more) ≤ m → length (lines_text (counts name (n ∷ k ∷ []) ∷ more)) ≤ 124 + m
headed_short m name n k more l hn hk h =
    let s = head_short name n k l hn hk in
    omega (arith, length-append (line_text (counts name (n ∷ k ∷ []))) (lines_text more))

-- ---- rows

numerals_short : (zs : List ℤ) → AllInRange zs → AllByRecursion IsShort (map numeral zs)
numerals_short [] h = tt
numerals_short (z ∷ zs) h = (numeral_short z h.0, numerals_short zs h.1)

row_short : (variables : ℕ) (r : Linear) → IsRow r → length (line_text (row_line variables r)) ≤ row_bytes VARIABLES
row_short variables r h =
    let wide = h.wide in
    let front = take variables r.coefficients in
    let s = line_short (numeral r.constant) (map numeral front) (numeral_short r.constant h.in_range.0) (numerals_short front (range_of_front variables r.coefficients h.in_range.1)) in
    omega (arith, length-map front numeral, length-take variables r.coefficients)

point_short : (variables n : ℕ) (rows : List Linear) → n < POINTS → IsRows rows → length (lines_text (point_lines variables n rows)) ≤ point_bytes VARIABLES ROWS
point_short variables n rows lt h =
    let most = h.most in
    let rest = made_short (row_bytes VARIABLES) (row_line variables) IsRow (row_short variables) rows h.each in
    headed_short (ROWS * row_bytes VARIABLES) (codes "point") n (length rows) (map (row_line variables) rows) (omega arith) (omega arith) (omega arith) (omega arith)

-- ---- proofs

-- indices that rise below a number are no more than it
rising_few : (top k : ℕ) (ps : List Part) → k ≤ top → AllByRecursion (λ q. k ≤ q.index) ps → IsRising ps → AllByRecursion (λ q. q.index < top) ps → length ps + k ≤ top
rising_few top k [] le low rising each = omega arith
rising_few top k (p ∷ ps) le low rising each =
    let lt = each.0 in
    let at = low.0 in
    let r = rising_few top (suc p.index) ps (omega arith) (above ps rising.0) rising.1 each.1 in
    omega arith
  where
    above : (qs : List Part) → AllByRecursion (λ q. p.index < q.index) qs → AllByRecursion (λ q. suc p.index ≤ q.index) qs
    above [] h = tt
    above (q ∷ qs) h = (let l = h.0 in omega arith, above qs h.1)

abbrev pairs : List Part → Words
pairs ps = flat_map (λ part. numeral (pos part.index) ∷ numeral part.multiplier ∷ []) ps

pairs_short : (ps : List Part) → AllByRecursion IsPart ps → length (further (pairs ps)) ≤ length ps * 44
pairs_short [] h = omega arith
pairs_short (p ∷ ps) h =
    let i = index_short p.index h.0.index in
    let m = numeral_short p.multiplier h.0.in_range in
    let r = pairs_short ps h.1 in
    let first = further_more (numeral (pos p.index)) (numeral p.multiplier ∷ pairs ps) in
    let second = further_more (numeral p.multiplier) (pairs ps) in
    omega arith

-- a proof that names no premise from number `top` on
proof_short : (top : ℕ) (p : Proof) → IsProof p × NamesPremises top p → length (line_text (proof_line p)) ≤ proof_bytes top
proof_short top p h =
    let few = rising_few top 0 p.parts (omega arith) (from_zero p.parts) h.0.parts.rising h.1 in
    let goal = numeral_short p.goal h.0.goal in
    let more = pairs_short p.parts h.0.parts.each in
    let e = line_is (numeral p.goal) (pairs p.parts) in
    omega arith

both : {A : Type 0} (P Q : A → Type 0) (xs : List A) → AllByRecursion P xs → AllByRecursion Q xs → AllByRecursion (λ x. P x × Q x) xs
both P Q [] h g = tt
both P Q (x ∷ xs) h g = ((h.0, g.0), both P Q xs h.1 g.1)

-- every proof names only premises that a system may have
names_premises : (proofs : List Proof) → AllByRecursion IsProof proofs → AllByRecursion (NamesPremises PREMISES) proofs
names_premises [] h = tt
names_premises (p ∷ proofs) h = (part_indices p.parts h.0.parts.each, names_premises proofs h.1)

record HasProofs (proofs : List Proof) : Type 0 where
  few : length proofs ≤ PREMISES
  each : AllByRecursion IsProof proofs
  lean : IsLean proofs

proofs_short : (top : ℕ) (proofs : List Proof) → AllByRecursion IsProof proofs → AllByRecursion (NamesPremises top) proofs → length (lines_text (map proof_line proofs)) ≤ length proofs * proof_bytes top
proofs_short top proofs each named = made_short (proof_bytes top) proof_line (λ p. IsProof p × NamesPremises top p) (proof_short top) proofs (both IsProof (NamesPremises top) proofs each named)

lean_short : (proofs : List Proof) → HasProofs proofs → IsLean proofs → length (lines_text (map proof_line proofs)) ≤ PREMISES * proof_bytes ROWS
lean_short proofs h (inl few) = let s = proofs_short PREMISES proofs h.each (names_premises proofs h.each) in omega arith
lean_short proofs h (inr named) = let few = h.few in let s = proofs_short ROWS proofs h.each named in omega arith

edge_short : (n : ℕ) (proofs : List Proof) → n < EDGES → HasProofs proofs → length (lines_text (edge_lines n proofs)) ≤ edge_bytes PREMISES ROWS
edge_short n proofs lt h =
    let few = h.few in
    headed_short (PREMISES * proof_bytes ROWS) (codes "edge") n (length proofs) (map proof_line proofs) (omega arith) (omega arith) (omega arith) (lean_short proofs h h.lean)

have_proofs : (all : List (List Proof)) → AllByRecursion (λ proofs. length proofs ≤ PREMISES) all → AllByRecursion (AllByRecursion IsProof) all → AllByRecursion IsLean all → AllByRecursion HasProofs all
have_proofs [] few each lean = tt
have_proofs (proofs ∷ all) few each lean = (record { few = few.0; each = each.0; lean = lean.0 }, have_proofs all few.1 each.1 lean.1)

-- ---- alternatives

abbrev most_bytes : ℕ
most_bytes = alternative_bytes POINTS EDGES VARIABLES ROWS PREMISES

alternative_short : (points edges variables : ℕ) (a : Annotated) → points ≤ POINTS → edges ≤ EDGES → IsAnnotation points edges variables a → IsAnnotated a → AreLean a →
    length (lines_text (alternative_lines variables a)) ≤ most_bytes
alternative_short points edges variables a hp he is kept lean =
    let rows = is.rows in
    let proofs = is.proofs in
    let points_text = numbered_short (point_bytes VARIABLES ROWS) POINTS (point_lines variables) IsRows (point_short variables) 0 a.rows (omega arith) kept.rows in
    let edges_text = numbered_short (edge_bytes PREMISES ROWS) EDGES edge_lines HasProofs edge_short 0 a.proofs (omega arith) (have_proofs a.proofs is.few kept.proofs lean) in
    omega (
      arith,
      lines_join (numbered (point_lines variables) 0 a.rows) (numbered edge_lines 0 a.proofs),
      length-append (line_text (codes "alternative" ∷ [])) (lines_text (numbered (point_lines variables) 0 a.rows ++ numbered edge_lines 0 a.proofs)),
    )

alternatives_short : (points edges variables : ℕ) (as' : List Annotated) → points ≤ POINTS → edges ≤ EDGES → AllByRecursion (IsAnnotation points edges variables) as' → AllByRecursion IsAnnotated as' → AllByRecursion AreLean as' →
    length (lines_text (flat_map (alternative_lines variables) as')) ≤ length as' * most_bytes
alternatives_short points edges variables [] hp he is kept lean = omega arith
alternatives_short points edges variables (a ∷ as') hp he is kept lean =
    let s = alternative_short points edges variables a hp he is.0 kept.0 lean.0 in
    let r = alternatives_short points edges variables as' hp he is.1 kept.1 lean.1 in
    omega (arith, lines_join (alternative_lines variables a) (flat_map (alternative_lines variables) as'))

pub texts_are_short : TextsAreShort
texts_are_short c is kept lean =
    let h1 = is.points in
    let h2 = is.edges in
    let h3 = is.variables in
    let sizes = numeral (pos c.points) ∷ numeral (pos c.edges) ∷ numeral (pos c.variables) ∷ [] in
    let graph = codes "graph" ∷ sizes in
    let g = line_short (codes "graph") sizes (omega arith) (count_short c.points (omega arith), (count_short c.edges (omega arith), (count_short c.variables (omega arith), tt))) in
    let middle = flat_map (alternative_lines c.variables) c.alternatives in
    let all = alternatives_short c.points c.edges c.variables c.alternatives is.points is.edges is.each kept.each lean in
    omega (
      arith,
      lines_join middle ((codes "end" ∷ []) ∷ []),
      length-append (line_text graph) (lines_text (middle ++ (codes "end" ∷ []) ∷ [])),
      length-append (line_text (codes "precond" ∷ codes "1" ∷ [])) (line_text graph ++ lines_text (middle ++ (codes "end" ∷ []) ∷ [])),
    )

-- ---- nine alternatives, at the limits

nine : nat_le (text_bytes POINTS EDGES VARIABLES ROWS PREMISES 9) 2147483648 ≡ true
nine = refl
