-- The counts behind a name are read exactly where the line has them.
use Rattle.std.proofs.Common.{◌≡◌, ◌∙◌, refl, ap, sym, ℕ, ◌-◌, ◌^◌, ◌<◌, ◌≤◌, min, Bool, true, false, cond, leb, eqb, [], ◌∷◌, Option, Some, None, Ok, Err, arith}
use Rattle.std.specs.Prelude.{◌&&◌, bytes_eq, option_map, codes}
use Rattle.std.proofs.lemmas.Bool.{le-leb, leb-true, eq-eqb, and_parts}
use Rattle.std.proofs.lemmas.Bool.Decides.{nat_tests}
use Rattle.pc_text.specs.Bytes.{Bytes}
use Rattle.pc_lines.specs.declared.fault.CertFault.TheVariants as fault
use Rattle.pc_text.specs.Words.{Words, is_empty, is_count}
use Rattle.pc_lines.specs.Forms.{are_counts, is_named, number_at}
use Rattle.pc_lines.specs.declared.sizes.Sizes.{Sizes}
use Rattle.pc_lines.specs.Kinds.{Kind, AreSmall, graph, head, sizes_of, are_within}
use Rattle.pc_lines.specs.Readers.{line_value}
use Rattle.pc_lines.specs.Counts.{◌>>=◌, next_count, two_counts, three_counts}

-- the number of a word, or the greatest of the code where that is less
abbrev pub capped : ℕ → Words → ℕ
capped i ws = min (number_at i ws) (2 ^ 32 - 1)

and_then : {X : Type 0} (t u : Bool) (x : Option X) → cond t (cond u x None) None ≡ cond (t && u) x None
and_then true u x = refl
and_then false u x = refl

next_by : {X : Type 0} (t : Bool) (m : ℕ) (ws : Words) (f : ℕ × Words → Option X) →
    (option_map (λ n. (n, ws)) (cond t (Some m) None) >>= f) ≡ cond t (f (m, ws)) None
next_by true m ws f = refl
next_by false m ws f = refl

-- so many counts, and no word behind them
one_is : {X : Type 0} (ws : Words) (f : ℕ → X) →
    (next_count ws >>= (λ a. cond (is_empty a.1) (Some (f a.0)) None)) ≡ cond (are_counts 1 ws) (Some (f (capped 0 ws))) None
one_is [] f = refl
one_is (w ∷ ws) f = next_by (is_count w) (capped 0 (w ∷ ws)) ws _ ∙ and_then (is_count w) (is_empty ws) _

two_is : {X : Type 0} (ws : Words) (f : ℕ → ℕ → X) →
    (next_count ws >>= (λ a. next_count a.1 >>= (λ b. cond (is_empty b.1) (Some (f a.0 b.0)) None))) ≡ cond (are_counts 2 ws) (Some (f (capped 0 ws) (capped 1 ws))) None
two_is [] f = refl
two_is (w ∷ ws) f =
    next_by (is_count w) (capped 0 (w ∷ ws)) ws _
    ∙ ap (λ x. cond (is_count w) x None) (one_is ws (f (capped 0 (w ∷ ws))))
    ∙ and_then (is_count w) (are_counts 1 ws) _

three_is : {X : Type 0} (ws : Words) (f : ℕ → ℕ → ℕ → X) →
    (next_count ws >>= (λ a. next_count a.1 >>= (λ b. next_count b.1 >>= (λ c. cond (is_empty c.1) (Some (f a.0 b.0 c.0)) None)))) ≡ cond (are_counts 3 ws) (Some (f (capped 0 ws) (capped 1 ws) (capped 2 ws))) None
three_is [] f = refl
three_is (w ∷ ws) f =
    next_by (is_count w) (capped 0 (w ∷ ws)) ws _
    ∙ ap (λ x. cond (is_count w) x None) (two_is ws (f (capped 0 (w ∷ ws))))
    ∙ and_then (is_count w) (are_counts 2 ws) _

behind_by : {X : Type 0} (t : Bool) (ws : Words) (f : Words → Option X) → (cond t (Some ws) None >>= f) ≡ cond t (f ws) None
behind_by true ws f = refl
behind_by false ws f = refl

pub two_counts_are : (name : Bytes) (ws : Words) → two_counts name ws ≡ cond (is_named name (are_counts 2) ws) (Some (capped 1 ws, capped 2 ws)) None
two_counts_are name [] = refl
two_counts_are name (w ∷ ws) =
    behind_by (bytes_eq w name) ws _
    ∙ ap (λ x. cond (bytes_eq w name) x None) (two_is ws (λ a b. (a, b)))
    ∙ and_then (bytes_eq w name) (are_counts 2 ws) _

pub three_counts_are : (name : Bytes) (ws : Words) → three_counts name ws ≡ cond (is_named name (are_counts 3) ws) (Some (capped 1 ws, capped 2 ws, capped 3 ws)) None
three_counts_are name [] = refl
three_counts_are name (w ∷ ws) =
    behind_by (bytes_eq w name) ws _
    ∙ ap (λ x. cond (bytes_eq w name) x None) (three_is ws (λ a b c. (a, b, c)))
    ∙ and_then (bytes_eq w name) (are_counts 3 ws) _

-- ---- numbers that were capped

capped_le : (n most : ℕ) → most < 2 ^ 32 - 1 → leb (min n (2 ^ 32 - 1)) most ≡ leb n most
capped_le n most h = grind (arith, nat_tests)

capped_eq : (n running : ℕ) → running < 2 ^ 32 - 1 → eqb (min n (2 ^ 32 - 1)) running ≡ eqb n running
capped_eq n running h = grind (arith, nat_tests)

capped_same : (n most : ℕ) → most < 2 ^ 32 - 1 → min n (2 ^ 32 - 1) ≤ most → min n (2 ^ 32 - 1) ≡ n
capped_same n most h g = omega arith

-- ---- what a line says, by whether it has its form and keeps the rules

module _ {A : Type 0} (kind : Kind) (value : Words → A) (n : ℕ) (ws : Words) where
  pub value_is : kind.has_form ws ≡ true → kind.keeps_rules ws ≡ true → line_value kind value n ws ≡ Ok (value ws)
  value_is h k = rw (h, k) refl

  pub number_is : kind.has_form ws ≡ true → kind.keeps_rules ws ≡ false → line_value kind value n ws ≡ Err (fault.Number n)
  number_is h k = rw (h, k) refl

  pub form_is : kind.has_form ws ≡ false → line_value kind value n ws ≡ Err (fault.Form n)
  form_is h = rw h refl

some_by : {X : Type 0} (t : Bool) (x y : X) → cond t (Some x) None ≡ Some y → (t ≡ true) × (y ≡ x)
some_by true x y e = (refl, cc)
some_by false x y e = absurd (cc)

capped_within : (n most : ℕ) → most < 2 ^ 32 - 1 → n ≤ most → min n (2 ^ 32 - 1) ≡ n
capped_within n most h g = omega arith

sizes_with : ℕ → ℕ → ℕ → Sizes
sizes_with p e v = record { points = p; edges = e; variables = v }

module _ (most : Sizes) (small : AreSmall most) (ws : Words) (n points edges variables : ℕ) (e : Some (points, edges, variables) ≡ three_counts (codes "graph") ws) where
  found : (is_named (codes "graph") (are_counts 3) ws ≡ true) × ◌≡◌ {A = ℕ × ℕ × ℕ} (points, edges, variables) (capped 1 ws, capped 2 ws, capped 3 ws)
  found = some_by _ _ (points, edges, variables) (sym (three_counts_are (codes "graph") ws) ∙ sym e)

  sizes_capped : sizes_with points edges variables ≡ sizes_with (capped 1 ws) (capped 2 ws) (capped 3 ws)
  sizes_capped = ap (λ (x : ℕ × ℕ × ℕ). sizes_with x.0 x.1 x.2) found.1

  within_same : are_within most (sizes_with points edges variables) ≡ are_within most (sizes_of ws)
  unfolding sizes_with
  within_same =
      ap (are_within most) sizes_capped
      ∙ rw (capped_le (number_at 1 ws) most.points small.points, capped_le (number_at 2 ws) most.edges small.edges, capped_le (number_at 3 ws) most.variables small.variables) refl

  -- sizes past the limits
  pub sizes_past : are_within most (record { points = points; edges = edges; variables = variables }) ≡ false → line_value (graph most) sizes_of n ws ≡ Err (fault.Number n)
  unfolding sizes_with
  sizes_past past = number_is (graph most) sizes_of n ws found.0 (sym within_same ∙ past)

  -- sizes within the limits
  pub sizes_are : are_within most (record { points = points; edges = edges; variables = variables }) ≡ true → line_value (graph most) sizes_of n ws ≡ Ok (record { points = points; edges = edges; variables = variables })
  unfolding sizes_with
  sizes_are kept =
      let within = sym within_same ∙ kept in
      let two = and_parts (leb (number_at 1 ws) most.points && leb (number_at 2 ws) most.edges) (leb (number_at 3 ws) most.variables) within in
      let one = and_parts (leb (number_at 1 ws) most.points) (leb (number_at 2 ws) most.edges) two.0 in
      let at_1 = capped_within (number_at 1 ws) most.points small.points (leb-true (number_at 1 ws) most.points one.0) in
      let at_2 = capped_within (number_at 2 ws) most.edges small.edges (leb-true (number_at 2 ws) most.edges one.1) in
      let at_3 = capped_within (number_at 3 ws) most.variables small.variables (leb-true (number_at 3 ws) most.variables two.1) in
      value_is (graph most) sizes_of n ws found.0 within
      ∙ ap Ok (sym (sizes_capped ∙ ap (λ k. sizes_with k (capped 2 ws) (capped 3 ws)) at_1 ∙ ap (λ k. sizes_with (number_at 1 ws) k (capped 3 ws)) at_2 ∙ ap (sizes_with (number_at 1 ws) (number_at 2 ws)) at_3))

-- the number behind a name and a running number
pub head_is : (name : Bytes) (ws : Words) (n running most first count : ℕ) → Some (first, count) ≡ two_counts name ws → running < 2 ^ 32 - 1 → most < 2 ^ 32 - 1 →
    first ≡ running → count ≤ most → Ok count ≡ line_value (head name running most) (number_at 2) n ws
head_is name ws n running most first count e r m same few =
    let found = some_by _ _ (first, count) (sym (two_counts_are name ws) ∙ sym e) in
    let at_1 : first ≡ capped 1 ws = ap (λ (x : ℕ × ℕ). x.0) found.1 in
    let at_2 : count ≡ capped 2 ws = ap (λ (x : ℕ × ℕ). x.1) found.1 in
    let running_is : eqb (number_at 1 ws) running ≡ true = sym (capped_eq (number_at 1 ws) running r) ∙ eq-eqb (capped 1 ws) running (sym at_1 ∙ same) in
    let count_is : count ≡ number_at 2 ws = at_2 ∙ capped_same (number_at 2 ws) most m (omega arith) in
    let few_is : leb (number_at 2 ws) most ≡ true = le-leb (number_at 2 ws) most (omega arith) in
    rw (found.0, running_is, few_is) (ap Ok count_is)
