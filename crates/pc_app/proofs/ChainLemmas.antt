-- The graph of a program of assertions and assumptions alone is a chain.
use Rattle.std.proofs.Common.{◌≡◌, ◌∙◌, ℕ, ◌+◌, ◌≤◌, List, [], ◌∷◌, length, Bool, true, refl, sym, ap, subst}
use Rattle.std.proofs.lemmas.Bool.{and_parts}
use Rattle.pc_text.specs.declared.place.Place.{Place}
use Rattle.pc_rows.specs.declared.rows.TheConstants.{ROWS}
use Rattle.pc_program.specs.Forms.{rows_all}
use Rattle.pc_program.specs.declared.program.Program.{Program}
use Rattle.pc_program.specs.declared.tree.Stmt.{Stmt, fold-roll-Stmt}
use Rattle.pc_program.specs.declared.tree.Stmt.TheOpen as stmt
use Rattle.pc_program.specs.Loops.{whiles, whiles_step, whiles_of}
use Rattle.pc_program.proofs.Stmts.{by_stmt}
use Rattle.pc_flow.specs.declared.what.What.{What}
use Rattle.pc_flow.specs.declared.what.What.TheVariants.{Test, Check}
use Rattle.pc_flow.proofs.Lists.{none_joined}
use Rattle.pc_graph.specs.Lowering.{Piece, Rule, after, one, rule, rule_step, rules, graph}
use Rattle.pc_poly.specs.Chains.{IsTest, tests_of, Follows, tests_count, IsChain}
use Rattle.pc_app.specs.Checks.{check_step, is_check, are_checks, rows_step, rows_of, rows_count, AreChecks}

-- a rule that makes one edge, a test or an assertion with so many rows
record IsOne (l : Rule) (count : ℕ) : Type 0 where
  place : Place
  what : What
  is : l ≡ one place what
  test : IsTest what
  rows : length (tests_of what) ≡ count

abbrev OneBy : Bool → Rule → ℕ → Type 0
OneBy b l count = b ≡ true → IsOne l count

one_by : (b c : Bool) (l m : Rule) (k n : ℕ) → b ≡ c → l ≡ m → k ≡ n → OneBy c m n → OneBy b l k
one_by b c l m k n eb el ek h e =
    let f = h (sym eb ∙ e) in
    record { place = f.place; what = f.what; is = el ∙ f.is; test = f.test; rows = f.rows ∙ sym ek }

one_of : (x : Stmt) → OneBy (is_check x) (rule x) (rows_of x)
one_of x = by_stmt (λ x. OneBy (is_check x) (rule x) (rows_of x))
    (λ place v r e. let f = fold-roll-Stmt Bool check_step (stmt.Set place v r) in absurd (cc))
    (λ place t xs ys hx hy e. let f = fold-roll-Stmt Bool check_step (stmt.If place t xs ys) in absurd (cc))
    (λ place t tried xs hx e. let f = fold-roll-Stmt Bool check_step (stmt.While place t tried xs) in absurd (cc))
    (λ place cs. one_by _ true _ (one place (Check (rows_all cs))) _ (length (rows_all cs)) (fold-roll-Stmt Bool check_step (stmt.Assert place cs))
    (fold-roll-Stmt Rule rule_step (stmt.Assert place cs)) (fold-roll-Stmt ℕ rows_step (stmt.Assert place cs))
    (λ e. record { place = place; what = Check (rows_all cs); is = refl; test = tt; rows = refl }))
    (λ place cs. one_by _ true _ (one place (Test (rows_all cs))) _ (length (rows_all cs)) (fold-roll-Stmt Bool check_step (stmt.Assume place cs))
    (fold-roll-Stmt Rule rule_step (stmt.Assume place cs)) (fold-roll-Stmt ℕ rows_step (stmt.Assume place cs))
    (λ e. record { place = place; what = Test (rows_all cs); is = refl; test = tt; rows = refl }))
    x

record IsLine (p count : ℕ) (a : Piece) : Type 0 where
  follows : Follows p a.edges
  rows : tests_count a.edges ≡ count

-- what a rule makes before the rules of statements
abbrev before_rules : Rule → ℕ → ℕ → List Stmt → Piece
before_rules l p n xs = after (l p n) (rules xs (l p n).last (l p n).next)

line_of : (xs : List Stmt) (p n : ℕ) → are_checks xs ≡ true → n ≡ p + 1 → IsLine p (rows_count xs) (rules xs p n)
line_of [] p n ok e = record { follows = tt; rows = refl }
line_of (x ∷ xs) p n ok e =
    let both = and_parts (is_check x) (are_checks xs) ok in
    let f = one_of x both.0 in
    let rest = line_of xs n (n + 1) both.1 refl in
    let more : Follows (p + 1) (rules xs n (n + 1)).edges = subst (λ (k : ℕ). Follows k (rules xs n (n + 1)).edges) e rest.follows in
    let here : IsLine p (length (tests_of f.what) + rows_count xs) (before_rules (one f.place f.what) p n xs) =
    record { follows = (refl, e, f.test, more); rows = ap (λ (k : ℕ). length (tests_of f.what) + k) rest.rows } in
    let counted : IsLine p (rows_of x + rows_count xs) (before_rules (one f.place f.what) p n xs) =
    subst (λ (k : ℕ). IsLine p (k + rows_count xs) (before_rules (one f.place f.what) p n xs)) f.rows here in
    subst (λ (l : Rule). IsLine p (rows_of x + rows_count xs) (before_rules l p n xs)) (sym f.is) counted

pub checks_are_chains : (p : Program) → AreChecks p → IsChain (graph p)
checks_are_chains p h =
    let line = line_of p.body 1 2 h.checks refl in
    record {
      parameters = h.locals;
      follows = line.follows;
      few = subst (λ (k : ℕ). k ≤ ROWS) (sym line.rows) h.few;
    }

-- ---- no loops

abbrev FreeBy : Bool → List Place → Type 0
FreeBy b places = b ≡ true → places ≡ []

free_by : (b : Bool) (ps : List Place) → ps ≡ [] → FreeBy b ps
free_by b ps e ok = e

free_of : (x : Stmt) → FreeBy (is_check x) (whiles x)
free_of x = by_stmt (λ x. FreeBy (is_check x) (whiles x))
    (λ place v r. free_by _ _ (fold-roll-Stmt (List Place) whiles_step (stmt.Set place v r)))
    (λ place t xs ys hx hy e. let f = fold-roll-Stmt Bool check_step (stmt.If place t xs ys) in absurd (cc))
    (λ place t tried xs hx e. let f = fold-roll-Stmt Bool check_step (stmt.While place t tried xs) in absurd (cc))
    (λ place cs. free_by _ _ (fold-roll-Stmt (List Place) whiles_step (stmt.Assert place cs)))
    (λ place cs. free_by _ _ (fold-roll-Stmt (List Place) whiles_step (stmt.Assume place cs)))
    x

list_free : (xs : List Stmt) → are_checks xs ≡ true → whiles_of xs ≡ []
list_free [] ok = refl
list_free (x ∷ xs) ok =
    let both = and_parts (is_check x) (are_checks xs) ok in
    none_joined (whiles x) (whiles_of xs) (free_of x both.0) (list_free xs both.1)

pub checks_are_free : (p : Program) → AreChecks p → whiles_of p.body ≡ []
checks_are_free p h = list_free p.body h.checks
