-- The tests for the shape of a certificate say what is meant.
use Rattle.std.proofs.Common.{◌≡◌, ℕ, zero, suc, ◌+◌, ◌≤◌, ℤ, pos, List, [], ◌∷◌, Bool, true, false, not, drop, get_or, length, cond, refl, ◌∙◌, arith, ◌==◌, Option, Some, None}
use Rattle.std.specs.Prelude.{◌&&◌}
use Rattle.std.specs.List.{AllByRecursion, list_all, position_from}
use Rattle.std.specs.Option.{is_some}
use Rattle.std.proofs.lemmas.Bool.{eqb-true, and_from, not-false, not_from_true, and_parts}
use Rattle.std.proofs.lemmas.Bool.Decides.{Decides-eqb}
use Rattle.pc_rows.specs.Linear.{Linear, IsOver, is_zero}
use Rattle.pc_rows.proofs.Lists.{zero_is}
use Rattle.pc_flow.specs.Flow.{Flow}
use Rattle.pc_certificate.specs.declared.certificate.Annotated.{Annotated}
use Rattle.pc_certificate.specs.Certificate.{Certificate}
use Rattle.pc_flow.proofs.Lists.{each_more}
use Rattle.pc_replay.specs.Shape.{IsShaped, HasShape, is_over, are_over, is_shaped, has_shape, first_beyond}
use Rattle.pc_replay.proofs.Alls.{each_if, if_each, none_passes, passes_none, zero_test}

zeros_if : (n : ℕ) (cs : List ℤ) → list_all is_zero (drop n cs) ≡ true → (v : ℕ) → n ≤ v → get_or cs v (pos 0) ≡ pos 0
zeros_if n [] h v le = refl
zeros_if zero (c ∷ cs) h zero le = zero_is c (and_parts (is_zero c) (list_all is_zero cs) h).0
zeros_if zero (c ∷ cs) h (suc v) le = zeros_if zero cs (and_parts (is_zero c) (list_all is_zero cs) h).1 v (omega arith)
zeros_if (suc n) (c ∷ cs) h zero le = absurd (omega arith)
zeros_if (suc n) (c ∷ cs) h (suc v) le = zeros_if n cs h v (omega arith)

if_zeros : (n : ℕ) (cs : List ℤ) → ((v : ℕ) → n ≤ v → get_or cs v (pos 0) ≡ pos 0) → list_all is_zero (drop n cs) ≡ true
if_zeros zero [] h = refl
if_zeros (suc n) [] h = refl
if_zeros zero (c ∷ cs) h = and_from (is_zero c) (list_all is_zero cs) (zero_test c (h zero (omega arith))) (if_zeros zero cs (λ v le. h (suc v) (omega arith)))
if_zeros (suc n) (c ∷ cs) h = if_zeros n cs (λ v le. h (suc v) (omega arith))

pub over_if : (n : ℕ) (r : Linear) → is_over n r ≡ true → IsOver n r
over_if n r h = zeros_if n r.coefficients h

pub if_over : (n : ℕ) (r : Linear) → IsOver n r → is_over n r ≡ true
if_over n r h = if_zeros n r.coefficients h

-- no row goes beyond exactly where all are over the variables
pub none_beyond_if : (n : ℕ) (rows : List Linear) → first_beyond n rows ≡ None → AllByRecursion (IsOver n) rows
none_beyond_if n rows h =
    each_more (λ r. not (is_over n r) ≡ false) (IsOver n) (λ r e. over_if n r (not-false (is_over n r) e)) rows (none_passes (λ r. not (is_over n r)) 0 rows h)

pub if_none_beyond : (n : ℕ) (rows : List Linear) → AllByRecursion (IsOver n) rows → first_beyond n rows ≡ None
if_none_beyond n rows h =
    passes_none (λ r. not (is_over n r)) 0 rows (each_more (IsOver n) (λ r. not (is_over n r) ≡ false) (λ r over. not_from_true (is_over n r) (if_over n r over)) rows h)

equal : (a b : ℕ) → a ≡ b → (a == b) ≡ true
equal a b e = (Decides-eqb a b).1 e

shaped_if : (points edges variables : ℕ) (a : Annotated) → is_shaped points edges variables a ≡ true → IsShaped points edges variables a
shaped_if points edges variables a h =
    let all = and_parts ((length a.rows == points) && (length a.proofs == edges)) (list_all (are_over variables) a.rows) h in
    let lengths = and_parts (length a.rows == points) (length a.proofs == edges) all.0 in
    record {
      rows = eqb-true (length a.rows) points lengths.0;
      proofs = eqb-true (length a.proofs) edges lengths.1;
      over = each_if (are_over variables) (AllByRecursion (IsOver variables)) (λ rows. each_if (is_over variables) (IsOver variables) (over_if variables) rows) a.rows all.1;
    }

if_shaped : (points edges variables : ℕ) (a : Annotated) → IsShaped points edges variables a → is_shaped points edges variables a ≡ true
if_shaped points edges variables a h =
    and_from ((length a.rows == points) && (length a.proofs == edges)) (list_all (are_over variables) a.rows)
    (and_from (length a.rows == points) (length a.proofs == edges) (equal (length a.rows) points h.rows) (equal (length a.proofs) edges h.proofs))
    (if_each (are_over variables) (AllByRecursion (IsOver variables)) (λ rows. if_each (is_over variables) (IsOver variables) (if_over variables) rows) a.rows h.over)

pub shape_if : (g : Flow) (c : Certificate) → has_shape g c ≡ true → HasShape g c
shape_if g c h =
    let points = c.points == length g.points in
    let edges = c.edges == length g.edges in
    let variables = c.variables == g.variables in
    let each = list_all (is_shaped c.points c.edges c.variables) c.alternatives in
    let all = and_parts (points && edges && variables) each h in
    let three = and_parts (points && edges) variables all.0 in
    let two = and_parts points edges three.0 in
    record {
      points = eqb-true c.points (length g.points) two.0;
      edges = eqb-true c.edges (length g.edges) two.1;
      variables = eqb-true c.variables g.variables three.1;
      each = each_if (is_shaped c.points c.edges c.variables) (IsShaped c.points c.edges c.variables) (shaped_if c.points c.edges c.variables) c.alternatives all.1;
    }

pub if_shape : (g : Flow) (c : Certificate) → HasShape g c → has_shape g c ≡ true
if_shape g c h =
    let points = c.points == length g.points in
    let edges = c.edges == length g.edges in
    let variables = c.variables == g.variables in
    and_from (points && edges && variables) (list_all (is_shaped c.points c.edges c.variables) c.alternatives)
    (and_from (points && edges) variables (and_from points edges (equal c.points (length g.points) h.points) (equal c.edges (length g.edges) h.edges)) (equal c.variables g.variables h.variables))
    (if_each (is_shaped c.points c.edges c.variables) (IsShaped c.points c.edges c.variables) (if_shaped c.points c.edges c.variables) c.alternatives h.each)

by_first : (b c : Bool) (k : ℕ) (rest : Option ℕ) → is_some rest ≡ not c → is_some (cond (not b) (Some k) rest) ≡ not (b && c)
by_first true c k rest h = h
by_first false c k rest h = refl

some_beyond : (n k : ℕ) (rows : List Linear) → is_some (position_from (λ r. not (is_over n r)) k rows) ≡ not (are_over n rows)
some_beyond n k [] = refl
some_beyond n k (r ∷ rows) = by_first (is_over n r) (are_over n rows) k (position_from (λ r. not (is_over n r)) (k + 1) rows) (some_beyond n (k + 1) rows)

same_turned : (b c : Bool) → not b ≡ not c → b ≡ c
same_turned true true e = refl
same_turned true false e = absurd (cc)
same_turned false true e = absurd (cc)
same_turned false false e = refl

-- whether no row goes beyond
pub none_beyond : (b : Bool) (n : ℕ) (rows : List Linear) → not b ≡ is_some (first_beyond n rows) → b ≡ are_over n rows
none_beyond b n rows h = same_turned b (are_over n rows) (h ∙ some_beyond n 0 rows)
