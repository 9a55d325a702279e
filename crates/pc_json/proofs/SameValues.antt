-- The value of a certificate determines the certificate.
use Rattle.std.proofs.Common.{◌≡◌, ◌∙◌, ℕ, zero, suc, ◌≤◌, ℤ, pos, List, [], ◌∷◌, length, get_or, take, Ok, Err, refl, sym, ap, ap₂, arith, subst}
use Rattle.std.specs.List.{AllByRecursion, flat_map}
use Rattle.serde_json.specs.Data.{Data, null}
use Rattle.pc_rows.specs.declared.proof.Part.{Part}
use Rattle.pc_rows.specs.Linear.{Linear}
use Rattle.pc_rows.specs.Evidence.{Proof}
use Rattle.pc_rows.proofs.Algebra.{same_row}
use Rattle.pc_certificate.specs.declared.certificate.Annotated.{Annotated}
use Rattle.pc_certificate.specs.Certificate.{Certificate}
use Rattle.pc_json.specs.declared.fault.JsonFault.TheVariants as fault
use Rattle.pc_json.specs.Values.{of_numeral, of_all, of_part, of_proof, of_proofs, of_row, of_rows, of_alternative, of_certificate, row_numbers}
use Rattle.pc_json.specs.Kept.{IsRowOver, AreRowsOver, IsAlternative, IsKept}
use Rattle.pc_json.specs.Answers.{ValueDeterminesCertificate, ShownIsReadBack}
use Rattle.pc_json.proofs.Injective.{same_numeral, same_count, same_items, same_part, same_all, head_or, tail_of}
use Rattle.pc_json.proofs.Keeping.{is_kept}
use Rattle.pc_json.proofs.Whole.{one_value, members_in, first, rest}

abbrev Any : {X : Type 0} → X → Type 0
Any x = Unit {0}

all_any : {X : Type 0} (xs : List X) → AllByRecursion Any xs
all_any [] = tt
all_any (x ∷ xs) = (tt, all_any xs)

-- equal fronts, and zeros behind them
same_front : (n : ℕ) (cs ds : List ℤ) → length cs ≡ length ds → ((v : ℕ) → n ≤ v → get_or cs v (pos 0) ≡ pos 0) → ((v : ℕ) → n ≤ v → get_or ds v (pos 0) ≡ pos 0) → take n cs ≡ take n ds → cs ≡ ds
same_front n [] [] long h g e = refl
same_front n [] (d ∷ ds) long h g e = absurd (omega (arith, long))
same_front n (c ∷ cs) [] long h g e = absurd (omega (arith, long))
same_front zero (c ∷ cs) (d ∷ ds) long h g e =
    ap₂ (λ z zs. z ∷ zs) (h 0 (omega arith) ∙ sym (g 0 (omega arith))) (same_front zero cs ds (omega (arith, long)) (λ v le. h (suc v) (omega arith)) (λ v le. g (suc v) (omega arith)) refl)
same_front (suc n) (c ∷ cs) (d ∷ ds) long h g e =
    ap₂ (λ z zs. z ∷ zs) (ap (λ zs. get_or zs 0 (pos 0)) e) (same_front n cs ds (omega (arith, long)) (λ v le. h (suc v) (omega (arith, le))) (λ v le. g (suc v) (omega (arith, le))) (ap tail e))
  where
    tail : List ℤ → List ℤ
    tail [] = []
    tail (x ∷ xs) = xs

abbrev constant_in : List ℤ → ℤ
constant_in [] = pos 0
constant_in (z ∷ zs) = z

abbrev coefficients_in : List ℤ → List ℤ
coefficients_in [] = []
coefficients_in (z ∷ zs) = zs

row_same : (v : ℕ) (r q : Linear) → IsRowOver v r → IsRowOver v q → of_row v r ≡ of_row v q → r ≡ q
row_same v r q h g e =
    let numbers : row_numbers v r ≡ row_numbers v q = same_all Any of_numeral (λ x y _ _ is. same_numeral x y is) (row_numbers v r) (row_numbers v q) (all_any (row_numbers v r)) (all_any (row_numbers v q)) e in
    same_row r q (ap constant_in numbers) (same_front v r.coefficients q.coefficients (h.0.wide ∙ sym g.0.wide) h.1 g.1 (ap coefficients_in numbers))

rows_same : (v : ℕ) (rows others : List Linear) → AreRowsOver v rows → AreRowsOver v others → of_rows v rows ≡ of_rows v others → rows ≡ others
rows_same v rows others h g e = same_all (IsRowOver v) (of_row v) (row_same v) rows others h.1 g.1 e

parts_same : (ps qs : List Part) → flat_map of_part ps ≡ flat_map of_part qs → ps ≡ qs
parts_same [] [] e = refl
parts_same [] (q ∷ qs) e = absurd (cc)
parts_same (p ∷ ps) [] e = absurd (cc)
parts_same (p ∷ ps) (q ∷ qs) e =
    ap₂ (λ z zs. z ∷ zs) (same_part p q (ap₂ (λ a b. a ∷ b ∷ []) (ap (head_or null) e) (ap (λ ds. head_or null (tail_of ds)) e))) (parts_same ps qs (ap (λ ds. tail_of (tail_of ds)) e))

proof : ℤ → List Part → Proof
proof goal parts = record { goal = goal; parts = parts }

proof_same : (p q : Proof) → of_proof p ≡ of_proof q → p ≡ q
unfolding proof
proof_same p q e =
    let items = same_items (of_numeral p.goal ∷ flat_map of_part p.parts) (of_numeral q.goal ∷ flat_map of_part q.parts) e in
    ap₂ proof (same_numeral p.goal q.goal (ap (head_or null) items)) (parts_same p.parts q.parts (ap tail_of items))

proofs_same : (ps qs : List Proof) → of_proofs ps ≡ of_proofs qs → ps ≡ qs
proofs_same ps qs e = same_all Any of_proof (λ p q _ _ is. proof_same p q is) ps qs (all_any ps) (all_any qs) e

annotated : List (List Linear) → List (List Proof) → Annotated
annotated rows proofs = record { rows = rows; proofs = proofs }

module _ (points edges variables : ℕ) where
  alternative_same : (a b : Annotated) → IsAlternative points edges variables a → IsAlternative points edges variables b → of_alternative variables a ≡ of_alternative variables b → a ≡ b
  unfolding annotated
  alternative_same a b h g e =
      ap₂ annotated
      (same_all (AreRowsOver variables) (of_rows variables) (rows_same variables) a.rows b.rows h.0.1 g.0.1 (ap (λ d. first (rest (members_in d))) e))
      (same_all Any of_proofs (λ ps qs _ _ is. proofs_same ps qs is) a.proofs b.proofs (all_any a.proofs) (all_any b.proofs) (ap (λ d. first (members_in d)) e))

certificate : ℕ → ℕ → ℕ → List Annotated → Certificate
certificate p e v all = record { points = p; edges = e; variables = v; alternatives = all }

kept_same : (c d : Certificate) → IsKept c → IsKept d → of_certificate c ≡ of_certificate d → c ≡ d
unfolding certificate
kept_same c d h g e =
    let edges : c.edges ≡ d.edges = same_count c.edges d.edges (ap (λ x. first (rest (members_in x))) e) in
    let points : c.points ≡ d.points = same_count c.points d.points (ap (λ x. first (rest (rest (members_in x)))) e) in
    let variables : c.variables ≡ d.variables = same_count c.variables d.variables (ap (λ x. first (rest (rest (rest (members_in x))))) e) in
    let others : AllByRecursion (IsAlternative c.points c.edges c.variables) d.alternatives =
    subst (λ p. AllByRecursion (IsAlternative p c.edges c.variables) d.alternatives) (sym points)
    (subst (λ p. AllByRecursion (IsAlternative d.points p c.variables) d.alternatives) (sym edges)
    (subst (λ p. AllByRecursion (IsAlternative d.points d.edges p) d.alternatives) (sym variables) g.each.1)) in
    let all : c.alternatives ≡ d.alternatives =
    same_all (IsAlternative c.points c.edges c.variables) (of_alternative c.variables) (alternative_same c.points c.edges c.variables) c.alternatives d.alternatives h.each.1 others
    (ap (λ x. first (members_in x)) e ∙ ap (λ v. array_of v d.alternatives) (sym variables)) in
    ap₂ (λ p q. certificate p q c.variables c.alternatives) points edges ∙ ap₂ (certificate d.points d.edges) variables all
  where
    array_of : ℕ → List Annotated → Data
    array_of v all = of_all (of_alternative v) all

pub value_determines : ValueDeterminesCertificate
value_determines c d kept_c show_c kept_d show_d e = kept_same c d (is_kept c kept_c show_c) (is_kept d kept_d show_d) e

pub read_back : ShownIsReadBack
read_back b c (Ok x) says means = value_determines x c means.kept means.showable says.kept says.showable (one_value b (of_certificate x) (of_certificate c) means.value says.value)
read_back b c (Err fault.Json) says means = absurd (means (of_certificate c) says.value)
read_back b c (Err fault.Value) says means = absurd (means.2 c says.kept says.showable (one_value b means.0 (of_certificate c) means.1 says.value))
read_back b c (Err fault.NoMemory) says means = refl
