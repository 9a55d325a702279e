-- A line that is read word by word says what its words say, or has their fault.
use Rattle.std.proofs.Common.{◌≡◌, ◌∙◌, refl, ap, sym, ℕ, zero, suc, ◌+◌, ◌-◌, ◌≤◌, Bool, true, false, cond, List, [], ◌∷◌, ◌++◌, length, map, replicate, Some, None, Result, Ok, Err, ℤ, pos, append_assoc, length-append, arith}
use Rattle.std.proofs.Math.Seq.{set-append_seam}
use Rattle.std.proofs.lemmas.List.{append-nil, length-map}
use Rattle.std.specs.Prelude.{◌&&◌}
use Rattle.std.specs.List.{list_all}
use Rattle.std.proofs.lemmas.Bool.{and_parts}
use Rattle.pc_rows.specs.declared.proof.Part.{Part}
use Rattle.pc_rows.specs.declared.row.TheConstants.{VARIABLES}
use Rattle.pc_rows.specs.Linear.{Linear, in_range, of_constant, with_coefficient}
use Rattle.pc_rows.specs.Evidence.{Proof}
use Rattle.pc_text.specs.Bytes.{Bytes}
use Rattle.pc_text.specs.Digits.{natural_of}
use Rattle.pc_text.specs.Numerals.{integer_of}
use Rattle.pc_lines.specs.declared.fault.CertFault.{CertFault}
use Rattle.pc_lines.specs.declared.fault.CertFault.TheVariants as fault
use Rattle.pc_text.specs.declared.numerals.Word.TheVariants as word
use Rattle.pc_text.specs.Words.{Words, is_count, is_numeral, word_of}
use Rattle.pc_lines.specs.Forms.{are_numerals, are_pairs}
use Rattle.pc_lines.specs.Kinds.{row, proof, pairs_keep, part_keeps}
use Rattle.pc_lines.specs.Readers.{◌>>=◌, unless_fault, line_value, row_value, parts_value, proof_value}
use Rattle.pc_lines.proofs.Ranges.{word_is}
use Rattle.pc_lines.specs.LineReaders.{broken, number_by, row_from, row_of, parts_from, proof_of}

-- a value where the form is kept and the rules are, else the fault of line `n`
abbrev judged : {A : Type 0} → Bool → Bool → ℕ → A → Result A CertFault
judged form rules n x = cond form (cond rules (Ok x) (Err (fault.Number n))) (Err (fault.Form n))

judged_broken : {A : Type 0} (form : Bool) (n : ℕ) (x : A) → ◌≡◌ {A = Result A CertFault} (Err (broken form n)) (judged form false n x)
judged_broken true n x = refl
judged_broken false n x = refl

-- a number of a line, before words that are to have a form, and what is made of them
number_by_first : {A : Type 0} (t u form rules : Bool) (z : ℤ) (n : ℕ) (ws : Words) (f : ℤ × Words → Result A CertFault) (x : A) → f (z, ws) ≡ judged form rules n x →
    (number_by (cond t (cond u (word.Number z) word.Past) word.Other) form n ws >>= f) ≡ judged (t && form) (u && rules) n x
number_by_first true true form rules z n ws f x e = e
number_by_first true false form rules z n ws f x e = judged_broken form n x
number_by_first false u form rules z n ws f x e = refl

number_first : {A : Type 0} (w : Bytes) (form rules : Bool) (n : ℕ) (ws : Words) (f : ℤ × Words → Result A CertFault) (x : A) → f (integer_of w, ws) ≡ judged form rules n x →
    (number_by (word_of w) form n ws >>= f) ≡ judged (is_numeral w && form) (in_range (integer_of w) && rules) n x
number_first w form rules n ws f x e =
    ap (λ o. number_by o form n ws >>= f) (word_is w) ∙ number_by_first (is_numeral w) (in_range (integer_of w)) form rules (integer_of w) n ws f x e

-- ---- rows

set_all : ℕ → Linear → List ℤ → Linear
set_all v r [] = r
set_all v r (z ∷ zs) = set_all (v + 1) (with_coefficient r v z) zs

row_from_is : (n v k : ℕ) (r : Linear) (ws : Words) → row_from n v k r ws ≡ judged (are_numerals k ws) (list_all in_range (map integer_of ws)) n (set_all v r (map integer_of ws))
unfolding set_all
row_from_is n v zero r [] = refl
row_from_is n v zero r (w ∷ ws) = refl
row_from_is n v (suc k) r [] = refl
row_from_is n v (suc k) r (w ∷ ws) =
    number_first w (are_numerals k ws) (list_all in_range (map integer_of ws)) n ws (λ x. row_from n (v + 1) k (with_coefficient r v x.0) x.1) _
    (row_from_is n (v + 1) k (with_coefficient r v (integer_of w)) ws)

abbrev pub linear : ℤ → List ℤ → Linear
linear c zs = record { constant = c; coefficients = zs }

set_all_is : (c : ℤ) (front : List ℤ) (zs : List ℤ) (m : ℕ) → length zs ≤ m →
    set_all (length front) (linear c (front ++ replicate m (pos 0))) zs ≡ linear c (front ++ (zs ++ replicate (m - length zs) (pos 0)))
unfolding set_all
set_all_is c front [] m h = let all : m ≡ m - 0 = omega arith in ap (λ n. linear c (front ++ replicate n (pos 0))) all
set_all_is c front (z ∷ zs) zero h = absurd (omega arith)
set_all_is c front (z ∷ zs) (suc m) h =
    let seam = set-append_seam front (pos 0) (replicate m (pos 0)) z in
    let front_on : front ++ z ∷ replicate m (pos 0) ≡ (front ++ z ∷ []) ++ replicate m (pos 0) = sym (append_assoc front (z ∷ []) (replicate m (pos 0))) in
    let long : length front + 1 ≡ length (front ++ z ∷ []) = sym (length-append front (z ∷ [])) in
    let left : m - length zs ≡ suc m - length (z ∷ zs) = omega arith in
    ap (λ cs. set_all (length front + 1) (linear c cs) zs) (seam ∙ front_on)
    ∙ ap (λ v. set_all v (linear c ((front ++ z ∷ []) ++ replicate m (pos 0))) zs) long
    ∙ set_all_is c (front ++ z ∷ []) zs m (omega arith)
    ∙ ap (linear c) (append_assoc front (z ∷ []) (zs ++ replicate (m - length zs) (pos 0)))
    ∙ ap (λ n. linear c (front ++ z ∷ (zs ++ replicate n (pos 0)))) left

numerals_long : (k : ℕ) (ws : Words) → are_numerals k ws ≡ true → length ws ≡ k
numerals_long zero [] h = refl
numerals_long zero (w ∷ ws) h = absurd (cc)
numerals_long (suc k) [] h = absurd (cc)
numerals_long (suc k) (w ∷ ws) h = let more = numerals_long k ws (and_parts (is_numeral w) (are_numerals k ws) h).1 in omega arith

row_set : (v : ℕ) (c : ℤ) (ws : Words) → v ≤ VARIABLES → length ws ≡ v →
    set_all 0 (of_constant c) (map integer_of ws) ≡ linear c (map integer_of ws ++ replicate (VARIABLES - v) (pos 0))
row_set v c ws h l =
    let long : length (map integer_of ws) ≡ v = length-map ws integer_of ∙ l in
    set_all_is c [] (map integer_of ws) VARIABLES (omega arith)
    ∙ ap (λ n. linear c (map integer_of ws ++ replicate (VARIABLES - n) (pos 0))) long

judged_same : {A : Type 0} (form rules : Bool) (n : ℕ) (x y : A) → (form ≡ true → x ≡ y) → judged form rules n x ≡ judged form rules n y
judged_same true rules n x y e = ap (λ z. cond rules (Ok z) (Err (fault.Number n))) (e refl)
judged_same false rules n x y e = refl

judged_is : {A : Type 0} (form rules : Bool) (n : ℕ) (x : A) → judged form rules n x ≡ unless_fault (cond form (cond rules None (Some (fault.Number n))) (Some (fault.Form n))) x
judged_is true true n x = refl
judged_is true false n x = refl
judged_is false rules n x = refl

-- a row that is read is what the line says
pub row_is : (v n : ℕ) (ws : Words) → v ≤ VARIABLES → row_of v n ws ≡ line_value (row v) (row_value v) n ws
row_is v n [] h = refl
row_is v n (w ∷ ws) h =
    number_first w (are_numerals v ws) (list_all in_range (map integer_of ws)) n ws (λ x. row_from n 0 v (of_constant x.0) x.1) _
    (row_from_is n 0 v (of_constant (integer_of w)) ws)
    ∙ judged_same (is_numeral w && are_numerals v ws) (in_range (integer_of w) && list_all in_range (map integer_of ws)) n _ (row_value v (w ∷ ws))
    (λ e. row_set v (integer_of w) ws h (numerals_long v ws (and_parts (is_numeral w) (are_numerals v ws) e).1))
    ∙ judged_is (is_numeral w && are_numerals v ws) (in_range (integer_of w) && list_all in_range (map integer_of ws)) n (row_value v (w ∷ ws))

-- ---- proofs

part : Bytes → Bytes → Part
part i m = record { index = natural_of i; multiplier = integer_of m }

parts_by : (t u form rules : Bool) (n : ℕ) (more : Result (List Part) CertFault) (x : List Part) → more ≡ judged form rules n x →
    cond t (cond u more (Err (broken form n))) (Err (fault.Form n)) ≡ judged (t && form) (u && rules) n x
parts_by true true form rules n more x e = e
parts_by true false form rules n more x e = judged_broken form n x
parts_by false u form rules n more x e = refl

parts_from_is : (premises n least : ℕ) (ps : List Part) (ws : Words) → parts_from premises n least ps ws ≡ judged (are_pairs ws) (pairs_keep premises least ws) n (ps ++ parts_value ws)
unfolding part
parts_from_is premises n least ps [] = ap Ok (sym (append-nil ps))
parts_from_is premises n least ps (i ∷ []) = refl
parts_from_is premises n least ps (i ∷ m ∷ ws) =
    parts_by (is_count i && is_numeral m) (part_keeps premises least i m) (are_pairs ws) (pairs_keep premises (natural_of i + 1) ws) n _ (ps ++ part i m ∷ parts_value ws)
    (parts_from_is premises n (natural_of i + 1) (ps ++ part i m ∷ []) ws
    ∙ ap (judged (are_pairs ws) (pairs_keep premises (natural_of i + 1) ws) n) (append_assoc ps (part i m ∷ []) (parts_value ws)))

abbrev pub proof_with : ℤ → List Part → Proof
proof_with z ps = record { goal = z; parts = ps }

with_goal : (form rules : Bool) (n : ℕ) (z : ℤ) (ps : List Part) → (judged form rules n ps >>= (λ qs. Ok (proof_with z qs))) ≡ judged form rules n (proof_with z ps)
with_goal true true n z ps = refl
with_goal true false n z ps = refl
with_goal false rules n z ps = refl

-- a proof that is read is what the line says
pub proof_is : (premises n : ℕ) (ws : Words) → proof_of premises n ws ≡ line_value (proof premises) proof_value n ws
proof_is premises n [] = refl
proof_is premises n (w ∷ ws) =
    number_first w (are_pairs ws) (pairs_keep premises 0 ws) n ws (λ x. parts_from premises n 0 [] x.1 >>= (λ ps. Ok (proof_with x.0 ps))) (proof_value (w ∷ ws))
    (ap (λ r. r >>= (λ ps. Ok (proof_with (integer_of w) ps))) (parts_from_is premises n 0 [] ws) ∙ with_goal (are_pairs ws) (pairs_keep premises 0 ws) n (integer_of w) (parts_value ws))
    ∙ judged_is (is_numeral w && are_pairs ws) (in_range (integer_of w) && pairs_keep premises 0 ws) n (proof_value (w ∷ ws))
