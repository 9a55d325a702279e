-- The lines that tell what follows them spell what they tell.
use Rattle.std.proofs.Common.{◌≡◌, ◌∙◌, refl, ap, sym, subst, ℕ, zero, suc, ◌≤◌, leb, eqb, true, List, [], ◌∷◌, length, map, arith, pos}
use Rattle.std.specs.Prelude.{◌&&◌, bytes_eq, codes}
use Rattle.std.specs.List.{AllByRecursion}
use Rattle.std.proofs.lemmas.Bool.{leb-true, le-leb, eqb-true, eq-eqb, and_parts}
use Rattle.std.proofs.lemmas.Slice.Eq.{bytes_eq-Decides}
use Rattle.pc_text.specs.Bytes.{Bytes}
use Rattle.pc_text.specs.Digits.{natural_of}
use Rattle.pc_text.specs.Numerals.{numeral}
use Rattle.pc_lines.specs.declared.sizes.Sizes.{Sizes}
use Rattle.pc_text.specs.Words.{Words, is_count}
use Rattle.pc_lines.specs.Forms.{are_counts, is_named, number_at}
use Rattle.pc_lines.specs.Kinds.{graph, head, sizes_of, are_within}
use Rattle.pc_lines.specs.Texts.{counts, sizes_line}
use Rattle.pc_text.proofs.NumeralWords.{empty_is, count_is, natural_count, natural_integer}
use Rattle.pc_lines.proofs.NamedLines.{named_is}
use Rattle.pc_text.proofs.PlainWords.{IsPlain, ArePlain, numeral_plain}
use Rattle.pc_lines.proofs.Spelled.{IsSpelled}

-- ---- counts

counts_back : (n : ℕ) (ws : Words) → are_counts n ws ≡ true → (map (λ k. numeral (pos k)) (map natural_of ws) ≡ ws) × (length ws ≡ n)
counts_back zero ws h = let none = empty_is ws h in (rw none refl, ap length none)
counts_back (suc n) [] h = absurd (cc)
counts_back (suc n) (w ∷ ws) h =
    let both = and_parts (is_count w) (are_counts n ws) h in
    let first = count_is w both.0 in
    let more = counts_back n ws both.1 in
    let rest = more.0 in
    (cc, omega (arith, more.1))

pub counts_plain : (ns : List ℕ) → AllByRecursion IsPlain (map (λ k. numeral (pos k)) ns)
counts_plain [] = tt
counts_plain (n ∷ ns) = (numeral_plain (pos n), counts_plain ns)

same_name : (name : Bytes) → bytes_eq name name ≡ true
same_name name = (bytes_eq-Decides name name).1 refl

two_form : (name : Bytes) (a b : ℕ) → is_named name (are_counts 2) (counts name (a ∷ b ∷ [])) ≡ true
two_form name a b = rw (same_name name, natural_count a, natural_count b) refl

three_form : (name : Bytes) (a b c : ℕ) → is_named name (are_counts 3) (counts name (a ∷ b ∷ c ∷ [])) ≡ true
three_form name a b c = rw (same_name name, natural_count a, natural_count b, natural_count c) refl

two_by : (name : Bytes) (ws : Words) → length ws ≡ 2 → map (λ k. numeral (pos k)) (map natural_of ws) ≡ ws → counts name (number_at 1 (name ∷ ws) ∷ number_at 2 (name ∷ ws) ∷ []) ≡ name ∷ ws
two_by name [] l e = absurd (omega arith)
two_by name (a ∷ []) l e = absurd (omega arith)
two_by name (a ∷ b ∷ []) l e = ap (λ ws. name ∷ ws) e
two_by name (a ∷ b ∷ c ∷ ws) l e = absurd (omega arith)

two_back : (name : Bytes) (ws : Words) → is_named name (are_counts 2) ws ≡ true → counts name (number_at 1 ws ∷ number_at 2 ws ∷ []) ≡ ws
two_back name ws h =
    let is = named_is name (are_counts 2) ws h in
    let told = counts_back 2 is.0 is.2 in
    subst (λ vs. counts name (number_at 1 vs ∷ number_at 2 vs ∷ []) ≡ vs) (sym is.1) (two_by name is.0 told.1 told.0)

three_by : (name : Bytes) (ws : Words) → length ws ≡ 3 → map (λ k. numeral (pos k)) (map natural_of ws) ≡ ws →
    counts name (number_at 1 (name ∷ ws) ∷ number_at 2 (name ∷ ws) ∷ number_at 3 (name ∷ ws) ∷ []) ≡ name ∷ ws
three_by name [] l e = absurd (omega arith)
three_by name (a ∷ []) l e = absurd (omega arith)
three_by name (a ∷ b ∷ []) l e = absurd (omega arith)
three_by name (a ∷ b ∷ c ∷ []) l e = ap (λ ws. name ∷ ws) e
three_by name (a ∷ b ∷ c ∷ d ∷ ws) l e = absurd (omega arith)

three_back : (name : Bytes) (ws : Words) → is_named name (are_counts 3) ws ≡ true → counts name (number_at 1 ws ∷ number_at 2 ws ∷ number_at 3 ws ∷ []) ≡ ws
three_back name ws h =
    let is = named_is name (are_counts 3) ws h in
    let told = counts_back 3 is.0 is.2 in
    subst (λ vs. counts name (number_at 1 vs ∷ number_at 2 vs ∷ number_at 3 vs ∷ []) ≡ vs) (sym is.1) (three_by name is.0 told.1 told.0)

-- ---- the head of a point or an edge, with its running number

module _ (name : Bytes) (plain : IsPlain name) (running most : ℕ) where
  head_back : (ws : Words) → is_named name (are_counts 2) ws ≡ true → (eqb (number_at 1 ws) running && leb (number_at 2 ws) most) ≡ true →
      (number_at 2 ws ≤ most) × (counts name (running ∷ number_at 2 ws ∷ []) ≡ ws)
  head_back ws h k =
      let rules = and_parts (eqb (number_at 1 ws) running) (leb (number_at 2 ws) most) k in
      let same : running ≡ number_at 1 ws = sym (eqb-true (number_at 1 ws) running rules.0) in
      (leb-true (number_at 2 ws) most rules.1, ap (λ n. counts name (n ∷ number_at 2 ws ∷ [])) same ∙ two_back name ws h)

  head_plain : (n : ℕ) → ArePlain (counts name (running ∷ n ∷ []))
  head_plain n = ((plain, counts_plain (running ∷ n ∷ [])), refl)

  head_rules : (n : ℕ) → n ≤ most → (eqb (number_at 1 (counts name (running ∷ n ∷ []))) running && leb (number_at 2 (counts name (running ∷ n ∷ []))) most) ≡ true
  head_rules n h = rw (natural_integer running, natural_integer n, eq-eqb running running refl, le-leb n most h) refl

  pub head_spelled : IsSpelled (head name running most) (number_at 2) (λ k. counts name (running ∷ k ∷ [])) (λ k. k ≤ most)
  head_spelled = record {
    back = head_back;
    plain = λ k h. head_plain k;
    form = λ k h. two_form name running k;
    rules = head_rules;
    forth = λ k h. natural_integer k;
  }

-- ---- the sizes

pub graph_plain : IsPlain (codes "graph")
graph_plain = (omega arith, (omega arith, (omega arith, (omega arith, (omega arith, tt)))))

-- sizes within the limits
pub record AreWithin (most z : Sizes) : Type 0 where
  pub points : z.points ≤ most.points
  pub edges : z.edges ≤ most.edges
  pub variables : z.variables ≤ most.variables

within_is : (most z : Sizes) → are_within most z ≡ true → AreWithin most z
within_is most z h =
    let two = and_parts (leb z.points most.points && leb z.edges most.edges) (leb z.variables most.variables) h in
    let one = and_parts (leb z.points most.points) (leb z.edges most.edges) two.0 in
    record { points = leb-true z.points most.points one.0; edges = leb-true z.edges most.edges one.1; variables = leb-true z.variables most.variables two.1 }

within_of : (most z : Sizes) → AreWithin most z → are_within most z ≡ true
within_of most z h = rw (le-leb z.points most.points h.points, le-leb z.edges most.edges h.edges, le-leb z.variables most.variables h.variables) refl

sizes_with : ℕ → ℕ → ℕ → Sizes
sizes_with p e v = record { points = p; edges = e; variables = v }

sizes_told : (z : Sizes) → sizes_of (sizes_line z) ≡ z
unfolding sizes_with
sizes_told z =
    ap (λ n. sizes_with n (number_at 2 (sizes_line z)) (number_at 3 (sizes_line z))) (natural_integer z.points)
    ∙ ap (λ n. sizes_with z.points n (number_at 3 (sizes_line z))) (natural_integer z.edges)
    ∙ ap (sizes_with z.points z.edges) (natural_integer z.variables)

pub sizes_spelled : (most : Sizes) → IsSpelled (graph most) sizes_of sizes_line (AreWithin most)
sizes_spelled most = record {
  back = λ ws h k. (within_is most (sizes_of ws) k, three_back (codes "graph") ws h);
  plain = λ z h. ((graph_plain, counts_plain (z.points ∷ z.edges ∷ z.variables ∷ [])), refl);
  form = λ z h. three_form (codes "graph") z.points z.edges z.variables;
  rules = λ z h. ap (are_within most) (sizes_told z) ∙ within_of most z h;
  forth = λ z h. sizes_told z;
}
