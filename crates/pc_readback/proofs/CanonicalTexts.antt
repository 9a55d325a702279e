-- The pieces of a canonical text stand apart.
use Rattle.std.proofs.Common.{◌≡◌, ◌<◌, ℕ, zero, suc, ◌+◌, ℤ, pos, negsuc, Bool, true, false, nat_lt, List, [], ◌∷◌, ◌++◌, length, map, take, drop, Option, Some, None, refl, sym, ap, ◌∙◌, subst, arith, append_assoc, get_or}
use Rattle.std.specs.Prelude.{◌&&◌, not, nat_le, int_le}
use Rattle.std.specs.List.{list_all, AllByRecursion}
use Rattle.std.proofs.lemmas.Bool.{ltb-true}
use Rattle.pc_text.specs.Bytes.{Bytes}
use Rattle.pc_text.specs.Named.{Named}
use Rattle.pc_text.specs.Lexemes.{class}
use Rattle.pc_rows.specs.Linear.{in_range}
use Rattle.pc_rows.specs.declared.row.TheConstants.{VARIABLES}
use Rattle.pc_language.specs.declared.terminal.Terminal.{Terminal}
use Rattle.pc_language.specs.declared.terminal.Terminal.TheVariants as terminal
use Rattle.pc_language.specs.declared.limits.TheConstants.{COMPARISONS, SIGNS}
use Rattle.pc_language.specs.declared.operator.Op.{Op}
use Rattle.pc_language.specs.declared.operator.Op.TheVariants as op
use Rattle.pc_language.specs.declared.choice.Bound.{Bound}
use Rattle.pc_language.specs.declared.choice.Bound.TheVariants as bound
use Rattle.pc_language.specs.declared.choice.Choice.{Choice}
use Rattle.pc_language.specs.Ends.{end_of}
use Rattle.pc_language.specs.declared.limits.TheConstants.{EDGES}
use Rattle.pc_program.specs.declared.tree.Expr.{Expr, Expr-F, map-Expr, roll-Expr, fold-roll-Expr}
use Rattle.pc_program.specs.declared.tree.Expr.TheOpen as expr
use Rattle.pc_program.specs.declared.tree.Compare.{Compare}
use Rattle.pc_program.specs.declared.tree.Test.{Test}
use Rattle.pc_program.specs.declared.tree.Test.TheVariants as test
use Rattle.pc_program.specs.declared.tree.Right.{Right}
use Rattle.pc_program.specs.declared.tree.Stmt.{Stmt, Stmt-F, map-Stmt, roll-Stmt, fold-roll-Stmt}
use Rattle.pc_program.specs.declared.tree.Stmt.TheOpen as stmt
use Rattle.pc_show.specs.declared.showing.level.Level.{Level}
use Rattle.pc_show.specs.declared.showing.level.Level.TheVariants as level
use Rattle.pc_readback.specs.CutTexts.{CanonicalTextsAreCut}
use Rattle.pc_show.specs.Pieces.{Piece, Blank, LineEnd, Mark, Name, Number, spelled, bytes_of}
use Rattle.pc_show.specs.Canonical as text
use Rattle.pc_show.specs.Canonical.{wraps_sum, wraps_product, wraps_negation, wrapped, spaced, joined, name_at, expr_pieces, sign_of, compare_pieces, further_pieces, all_pieces, test_pieces, bound_pieces, choice_pieces, right_pieces, opened, lines, block, else_part, tried_pieces, stmt_pieces, stmts_pieces, further_names, names_pieces, locals_pieces, program_pieces}
use Rattle.pc_program.specs.Sane as sane
use Rattle.pc_program.specs.Sane.{all_true, below_step, names_below, sane_expr, is_sane}
use Rattle.pc_program.specs.Forms.{is_affine, is_unequal}
use Rattle.pc_readback.specs.Showable as shown
use Rattle.pc_readback.specs.Showable.{is_name, is_literal, has_literals, literal_step, shown_expr, is_showable}
use Rattle.pc_program.proofs.Exprs.{by_cases}
use Rattle.pc_readback.proofs.PieceLexemes.{is_stop, IsStop, is_mark, is_open, IsApart, AreApart}
use Rattle.pc_readback.proofs.PieceSymbols.{lexes}
use Rattle.pc_program.proofs.Results.{and_is, and_of}
use Rattle.pc_program.proofs.Stmts.{by_stmt, all_by}

-- ---- pieces that are put together

-- they stand apart before what stops
abbrev IsNice : List Piece → Type 0
IsNice ps = (r : Bytes) → IsStop r → AreApart ps r

-- they stand apart before anything
abbrev IsClosed : List Piece → Type 0
IsClosed ps = (r : Bytes) → AreApart ps r

-- what stops stands at their front, or they are nothing
abbrev Stops : List Piece → Type 0
Stops ps = (r : Bytes) → IsStop r → IsStop (bytes_of ps ++ r)

bytes_join : (ps qs : List Piece) → bytes_of (ps ++ qs) ≡ bytes_of ps ++ bytes_of qs
bytes_join [] qs = refl
bytes_join (p ∷ ps) qs = ap (λ z. spelled p ++ z) (bytes_join ps qs) ∙ sym (append_assoc (spelled p) (bytes_of ps) (bytes_of qs))

apart_join : (ps qs : List Piece) (r : Bytes) → AreApart ps (bytes_of qs ++ r) → AreApart qs r → AreApart (ps ++ qs) r
apart_join [] qs r h g = g
apart_join (p ∷ ps) qs r h g =
    let same : bytes_of ps ++ (bytes_of qs ++ r) ≡ bytes_of (ps ++ qs) ++ r = sym (append_assoc (bytes_of ps) (bytes_of qs) r) ∙ ap (λ z. z ++ r) (sym (bytes_join ps qs)) in
    (subst (λ (z : Bytes). IsApart p z) same h.0, apart_join ps qs r h.1 g)

nice_join : (ps qs : List Piece) → IsNice ps → Stops qs → IsNice qs → IsNice (ps ++ qs)
nice_join ps qs h s g r stop = apart_join ps qs r (h (bytes_of qs ++ r) (s r stop)) (g r stop)

-- pieces that stop at their front and are something, so that what stands behind them does not matter
abbrev StopsFirst : List Piece → Type 0
StopsFirst ps = (r : Bytes) → IsStop (bytes_of ps ++ r)

closed_join : (ps qs : List Piece) → IsNice ps → StopsFirst qs → IsClosed qs → IsClosed (ps ++ qs)
closed_join ps qs h s g r = apart_join ps qs r (h (bytes_of qs ++ r) (s r)) (g r)

closed_both : (ps qs : List Piece) → IsClosed ps → IsClosed qs → IsClosed (ps ++ qs)
closed_both ps qs h g r = apart_join ps qs r (h (bytes_of qs ++ r)) (g r)

-- ---- what stops

space : is_stop 32 ≡ true
unfolding class
space = refl

line_feed : is_stop 10 ≡ true
unfolding class
line_feed = refl

close_paren : is_stop 41 ≡ true
unfolding class
close_paren = refl

close_bracket : is_stop 93 ≡ true
unfolding class
close_bracket = refl

comma : is_stop 44 ≡ true
unfolding class
comma = refl

semicolon : is_stop 59 ≡ true
unfolding class
semicolon = refl

-- ---- marks

-- a sign that nothing lengthens
sign : (t : Terminal) (ps : List Piece) (r : Bytes) → is_mark t ≡ true → is_open t ≡ false → AreApart ps r → AreApart (Mark t ∷ ps) r
sign t ps r m o h = ((m, λ e. absurd (cc)), h)

-- a mark with a space behind it
before_space : (t : Terminal) (ps : List Piece) (r : Bytes) → is_mark t ≡ true → AreApart ps r → AreApart (Mark t ∷ Blank 1 ∷ ps) r
before_space t ps r m h = ((m, λ e. space), (tt, h))

nice_wrapped : (w : Bool) (ps : List Piece) → IsNice ps → IsNice (wrapped w ps)
nice_wrapped false ps h r stop = h r stop
nice_wrapped true ps h r stop =
    sign terminal.OpenParen (ps ++ Mark terminal.CloseParen ∷ []) r refl refl
    (apart_join ps (Mark terminal.CloseParen ∷ []) r (h (41 ∷ r) close_paren) (sign terminal.CloseParen [] r refl refl tt))

nice_joined : (ps qs : List Piece) (t : Terminal) → is_mark t ≡ true → IsNice ps → IsNice qs → IsNice (joined ps t qs)
nice_joined ps qs t m h g = nice_join ps (spaced t ++ qs) h (λ r stop. space) (λ r stop. (tt, before_space t qs r m (g r stop)))

-- ---- expressions

each_at : (w : Bytes) (names : List Bytes) (v : ℕ) → list_all is_name names ≡ true → v < length names → is_name (get_or names v w) ≡ true
each_at w [] v h l = absurd (omega arith)
each_at w (x ∷ names) zero h l = (and_is (is_name x) (list_all is_name names) h).0
each_at w (x ∷ names) (suc v) h l = each_at w names v (and_is (is_name x) (list_all is_name names) h).1 (omega arith)

module _ (names : List Bytes) (each : list_all is_name names ≡ true) where
  n : ℕ
  n = length names

  named : (v : ℕ) → v < length names → is_name (name_at names v) ≡ true
  named v l = each_at [] names v each l

  abbrev IsGood : Expr → Type 0
  IsGood e = has_literals e ≡ true → names_below (length names) e ≡ true → (l : Level) → IsNice (expr_pieces names e l)

  literals_at : (x : Expr-F Expr) → has_literals (roll-Expr x) ≡ literal_step (map-Expr Expr Bool has_literals x)
  literals_at x = fold-roll-Expr Bool literal_step x

  below_at : (x : Expr-F Expr) → names_below (length names) (roll-Expr x) ≡ below_step (length names) (map-Expr Expr Bool (names_below (length names)) x)
  below_at x = fold-roll-Expr Bool (below_step (length names)) x

  pieces_at : (x : Expr-F Expr) (l : Level) → expr_pieces names (roll-Expr x) l ≡ text.expr_step names (map-Expr Expr (Level → List Piece) (expr_pieces names) x) l
  pieces_at x l = ap (λ (f : Level → List Piece). f l) (fold-roll-Expr (Level → List Piece) (text.expr_step names) x)

  -- an expression, by its first layer
  good_by : (x : Expr-F Expr) →
      (literal_step (map-Expr Expr Bool has_literals x) ≡ true → below_step (length names) (map-Expr Expr Bool (names_below (length names)) x) ≡ true → (l : Level) →
      IsNice (text.expr_step names (map-Expr Expr (Level → List Piece) (expr_pieces names) x) l)) → IsGood (roll-Expr x)
  good_by x f h b l = subst IsNice (sym (pieces_at x l)) (f (sym (literals_at x) ∙ h) (sym (below_at x) ∙ b) l)

  good_two : (a b : Expr) (t : Terminal) (w : Level → Bool) (left right : Level) → is_mark t ≡ true → IsGood a → IsGood b →
      (has_literals a && has_literals b) ≡ true → (names_below (length names) a && names_below (length names) b) ≡ true → (l : Level) →
      IsNice (wrapped (w l) (joined (expr_pieces names a left) t (expr_pieces names b right)))
  good_two a b t w left right m ga gb h g l =
      let lits = and_is (has_literals a) (has_literals b) h in
      let lows = and_is (names_below (length names) a) (names_below (length names) b) g in
      nice_wrapped (w l) (joined (expr_pieces names a left) t (expr_pieces names b right)) (nice_joined (expr_pieces names a left) (expr_pieces names b right) t m (ga lits.0 lows.0 left) (gb lits.1 lows.1 right))

  good : (e : Expr) → IsGood e
  good e = by_cases IsGood
      (λ z. good_by (expr.Num z) (λ h b l r stop. ((h, stop), tt)))
      (λ v. good_by (expr.Name v) (λ h b l r stop. ((named v (ltb-true v (length names) b), stop), tt)))
      (λ a p g. good_by (expr.Neg a p) (λ h b l.
      nice_wrapped (wraps_negation l) (Mark terminal.Minus ∷ expr_pieces names a level.Atom) (λ r stop. sign terminal.Minus (expr_pieces names a level.Atom) r refl refl (g h b level.Atom r stop))))
      (λ a b p ga gb. good_by (expr.Add a b p) (λ h g l. good_two a b terminal.Plus wraps_sum level.Expression level.Addend refl ga gb h g l))
      (λ a b p ga gb. good_by (expr.Sub a b p) (λ h g l. good_two a b terminal.Minus wraps_sum level.Expression level.Addend refl ga gb h g l))
      (λ a b p ga gb. good_by (expr.Mul a b p) (λ h g l. good_two a b terminal.Star wraps_product level.Addend level.Factor refl ga gb h g l))
      e

  -- an expression that is sane and can be read
  nice_expr : (e : Expr) → shown_expr names e ≡ true → sane_expr (length names) e ≡ true → IsNice (expr_pieces names e level.Expression)
  nice_expr e h g =
      good e (and_is (has_literals e) (nat_le (shown.signs_of names e) SIGNS) h).0 (and_is (is_affine e) (names_below (length names) e) g).1 level.Expression

  -- ---- comparisons and tests

  op_mark : (o : Op) → is_mark (sign_of o) ≡ true
  op_mark op.Less = refl
  op_mark o = refl

  nice_compare : (c : Compare) → shown.shown_compare names c ≡ true → sane.sane_compare (length names) c ≡ true → IsNice (compare_pieces names c)
  nice_compare c h g =
      let s = and_is (shown_expr names c.left) (shown_expr names c.right) h in
      let a = and_is (sane_expr (length names) c.left) _ g in
      let b = and_is (sane_expr (length names) c.right) _ a.1 in
      nice_joined (expr_pieces names c.left level.Expression) (expr_pieces names c.right level.Expression) (sign_of c.op) (op_mark c.op) (nice_expr c.left s.0 a.0) (nice_expr c.right s.1 b.0)

  abbrev AreSane : List Compare → Type 0
  AreSane cs = AllByRecursion (λ c. (shown.shown_compare names c ≡ true) × (sane.sane_compare (length names) c ≡ true)) cs

  stops_further : (cs : List Compare) → Stops (further_pieces names cs)
  stops_further [] r stop = stop
  stops_further (c ∷ cs) r stop = space

  nice_further : (cs : List Compare) → AreSane cs → IsNice (further_pieces names cs)
  nice_further [] h r stop = tt
  nice_further (c ∷ cs) h r stop =
      nice_join (spaced terminal.And ++ compare_pieces names c) (further_pieces names cs)
      (λ r stop. (tt, before_space terminal.And (compare_pieces names c) r refl (nice_compare c h.0.0 h.0.1 r stop)))
      (stops_further cs) (nice_further cs h.1) r stop

  nice_all : (cs : List Compare) → AreSane cs → IsNice (all_pieces names cs)
  nice_all [] h r stop = tt
  nice_all (c ∷ cs) h r stop = nice_join (compare_pieces names c) (further_pieces names cs) (nice_compare c h.0.0 h.0.1) (stops_further cs) (nice_further cs h.1) r stop

  two_facts : (cs : List Compare) → list_all (shown.shown_compare names) cs ≡ true → list_all (λ c. not (is_unequal c.op) && sane.sane_compare (length names) c) cs ≡ true → AreSane cs
  two_facts [] h g = tt
  two_facts (c ∷ cs) h g =
      let a = and_is (shown.shown_compare names c) (list_all (shown.shown_compare names) cs) h in
      let b = and_is (not (is_unequal c.op) && sane.sane_compare (length names) c) _ g in
      ((a.0, (and_is (not (is_unequal c.op)) (sane.sane_compare (length names) c) b.0).1), two_facts cs a.1 b.1)

  sane_each_is : (cs : List Compare) → list_all (shown.shown_compare names) cs ≡ true → sane.sane_each (length names) cs ≡ true → AreSane cs
  sane_each_is cs h g = two_facts cs h (and_is (nat_le (length cs) COMPARISONS) _ g).1

  sane_all_is : (cs : List Compare) → list_all (shown.shown_compare names) cs ≡ true → sane.sane_all (length names) cs ≡ true → AreSane cs
  sane_all_is [] h g = tt
  sane_all_is (c ∷ cs) h g = sane_each_is (c ∷ cs) h g

  sane_test_is : (cs : List Compare) → list_all (shown.shown_compare names) cs ≡ true → sane.sane_test (length names) (test.All cs) ≡ true → AreSane cs
  sane_test_is [] h g = tt
  sane_test_is (c ∷ []) h g = (((and_is (shown.shown_compare names c) true h).0, g), tt)
  sane_test_is (c ∷ d ∷ cs) h g = sane_each_is (c ∷ d ∷ cs) h g

  nice_test : (t : Test) → shown.shown_test names t ≡ true → sane.sane_test (length names) t ≡ true → IsNice (test_pieces names t)
  nice_test test.Any h g r stop = sign terminal.Star [] r refl refl tt
  nice_test (test.All cs) h g r stop = nice_all cs (sane_test_is cs h g) r stop

  -- a keyword, and what stands behind it in parentheses
  closed_opened : (t : Terminal) (ps : List Piece) → is_mark t ≡ true → IsNice ps → IsClosed (opened t ps)
  closed_opened t ps m h r =
      before_space t (Mark terminal.OpenParen ∷ ps ++ Mark terminal.CloseParen ∷ []) r m
      (sign terminal.OpenParen (ps ++ Mark terminal.CloseParen ∷ []) r refl refl
      (apart_join ps (Mark terminal.CloseParen ∷ []) r (h (41 ∷ r) close_paren) (sign terminal.CloseParen [] r refl refl tt)))

  -- ---- right sides

  natural_literal : (k : ℕ) → in_range (pos k) ≡ true → is_literal (pos k) ≡ true
  natural_literal k h = rw h refl

  opposite_literal : (k : ℕ) → in_range (negsuc k) ≡ true → is_literal (pos (suc k)) ≡ true
  opposite_literal k h = rw h refl

  nice_number : (z : ℤ) → in_range z ≡ true → IsNice (bound_pieces (bound.At z))
  nice_number (pos k) h r stop = ((natural_literal k h, stop), tt)
  nice_number (negsuc k) h r stop = sign terminal.Minus (Number (pos (suc k)) ∷ []) r refl refl ((opposite_literal k h, stop), tt)

  nice_open : IsNice (bound_pieces bound.Open)
  nice_open r stop = sign terminal.Star [] r refl refl tt

  nice_ends : (lo hi : Bound) → sane.in_order (end_of lo) (end_of hi) ≡ true → IsNice (bound_pieces lo) × IsNice (bound_pieces hi)
  nice_ends (bound.At lo) (bound.At hi) h =
      let a = and_is (in_range lo) (in_range hi && int_le lo hi) h in (nice_number lo a.0, nice_number hi (and_is (in_range hi) (int_le lo hi) a.1).0)
  nice_ends (bound.At lo) bound.Open h = (nice_number lo h, nice_open)
  nice_ends bound.Open (bound.At hi) h = (nice_open, nice_number hi h)
  nice_ends bound.Open bound.Open h = (nice_open, nice_open)

  closed_choice : (c : Choice) → sane.in_order (end_of c.lo) (end_of c.hi) ≡ true → IsClosed (choice_pieces (Some c))
  closed_choice c h r =
      let nice = nice_ends c.lo c.hi h in
      let last : AreApart (bound_pieces c.hi ++ Mark terminal.CloseBracket ∷ []) r =
      apart_join (bound_pieces c.hi) (Mark terminal.CloseBracket ∷ []) r (nice.1 (93 ∷ r) close_bracket) (sign terminal.CloseBracket [] r refl refl tt) in
      let rest : List Piece = Mark terminal.Comma ∷ Blank 1 ∷ bound_pieces c.hi ++ Mark terminal.CloseBracket ∷ [] in (
        tt,
        before_space terminal.Plus (Mark terminal.OpenBracket ∷ bound_pieces c.lo ++ rest) r refl
            (sign terminal.OpenBracket (bound_pieces c.lo ++ rest) r refl refl
            (apart_join (bound_pieces c.lo) rest r (nice.0 (bytes_of rest ++ r) comma) (before_space terminal.Comma (bound_pieces c.hi ++ Mark terminal.CloseBracket ∷ []) r refl last))),
      )

  nice_choice : (c : Option Choice) → sane.sane_choice c ≡ true → IsNice (choice_pieces c)
  nice_choice None h r stop = tt
  nice_choice (Some c) h r stop = closed_choice c h r

  stops_choice : (c : Option Choice) → Stops (choice_pieces c)
  stops_choice None r stop = stop
  stops_choice (Some c) r stop = space

  nice_right : (x : Right) → shown_expr names x.expr ≡ true → sane.sane_right (length names) x ≡ true → IsNice (right_pieces names x)
  nice_right x h g =
      let a = and_is (sane_expr (length names) x.expr) (sane.sane_choice x.choice) g in
      nice_join (expr_pieces names x.expr level.Expression) (choice_pieces x.choice) (nice_expr x.expr h a.0) (stops_choice x.choice) (nice_choice x.choice a.1)

  -- ---- statements

  abbrev Closes : Stmt → Type 0
  Closes s = shown.shown_stmt names s ≡ true → sane.sane_stmt (length names) s ≡ true → (k : ℕ) → IsClosed (stmt_pieces names s k)

  shown_at : (x : Stmt-F Stmt) → shown.shown_stmt names (roll-Stmt x) ≡ shown.shown_step names (map-Stmt Stmt Bool (shown.shown_stmt names) x)
  shown_at x = fold-roll-Stmt Bool (shown.shown_step names) x

  sane_at : (x : Stmt-F Stmt) → sane.sane_stmt (length names) (roll-Stmt x) ≡ sane.sane_step (length names) (map-Stmt Stmt Bool (sane.sane_stmt (length names)) x)
  sane_at x = fold-roll-Stmt Bool (sane.sane_step (length names)) x

  stmt_at : (x : Stmt-F Stmt) (k : ℕ) → stmt_pieces names (roll-Stmt x) k ≡ text.stmt_step names (map-Stmt Stmt (ℕ → List Piece) (stmt_pieces names) x) k
  stmt_at x k = ap (λ (f : ℕ → List Piece). f k) (fold-roll-Stmt (ℕ → List Piece) (text.stmt_step names) x)

  closes_by : (x : Stmt-F Stmt) →
      (shown.shown_step names (map-Stmt Stmt Bool (shown.shown_stmt names) x) ≡ true → sane.sane_step (length names) (map-Stmt Stmt Bool (sane.sane_stmt (length names)) x) ≡ true → (k : ℕ) →
      IsClosed (text.stmt_step names (map-Stmt Stmt (ℕ → List Piece) (stmt_pieces names) x) k)) → Closes (roll-Stmt x)
  closes_by x f h g k = subst IsClosed (sym (stmt_at x k)) (f (sym (shown_at x) ∙ h) (sym (sane_at x) ∙ g) k)

  closed_lines : (ss : List Stmt) → AllByRecursion Closes ss → all_true (map (shown.shown_stmt names) ss) ≡ true → all_true (map (sane.sane_stmt (length names)) ss) ≡ true → (k : ℕ) →
      IsClosed (lines (map (stmt_pieces names) ss) k)
  closed_lines [] all h g k r = tt
  closed_lines (s ∷ ss) all h g k r =
      let a = and_is (shown.shown_stmt names s) _ h in
      let b = and_is (sane.sane_stmt (length names) s) _ g in
      closed_both (stmt_pieces names s k) (lines (map (stmt_pieces names) ss) k) (all.0 a.0 b.0 k) (closed_lines ss all.1 a.1 b.1 k) r

  closed_end : (k : ℕ) → IsClosed (Blank k ∷ Mark terminal.CloseBrace ∷ [])
  closed_end k r = (tt, sign terminal.CloseBrace [] r refl refl tt)

  closed_block : (ss : List Stmt) → AllByRecursion Closes ss → all_true (map (shown.shown_stmt names) ss) ≡ true → all_true (map (sane.sane_stmt (length names)) ss) ≡ true → (k : ℕ) →
      IsClosed (block (map (stmt_pieces names) ss) k)
  closed_block ss all h g k r = (
    tt,
    sign terminal.OpenBrace (LineEnd ∷ lines (map (stmt_pieces names) ss) (k + 2) ++ Blank k ∷ Mark terminal.CloseBrace ∷ []) r refl refl
        (tt, closed_both (lines (map (stmt_pieces names) ss) (k + 2)) (Blank k ∷ Mark terminal.CloseBrace ∷ []) (closed_lines ss all h g (k + 2)) (closed_end k) r),
  )

  closed_else : (ss : List Stmt) → AllByRecursion Closes ss → all_true (map (shown.shown_stmt names) ss) ≡ true → all_true (map (sane.sane_stmt (length names)) ss) ≡ true → (k : ℕ) →
      IsClosed (else_part (map (stmt_pieces names) ss) k)
  closed_else [] all h g k r = tt
  closed_else (s ∷ ss) all h g k r = (tt, ((refl, λ e. space), closed_block (s ∷ ss) all h g k r))

  closed_feed : IsClosed (LineEnd ∷ [])
  closed_feed r = (tt, tt)

  closed_stop : IsClosed (Mark terminal.Semicolon ∷ LineEnd ∷ [])
  closed_stop r = sign terminal.Semicolon (LineEnd ∷ []) r refl refl (tt, tt)

  closed_tried : (cs : List Compare) → AreSane cs → IsClosed (tried_pieces names cs)
  closed_tried [] h r = tt
  closed_tried (c ∷ cs) h r = (tt, closed_opened terminal.Try (all_pieces names (c ∷ cs)) refl (nice_all (c ∷ cs) h) r)

  closes_set : (v : ℕ) (x : Right) → shown_expr names x.expr ≡ true → (nat_lt v (length names) && sane.sane_right (length names) x) ≡ true → (k : ℕ) →
      IsClosed (Blank k ∷ Name (name_at names v) ∷ spaced terminal.Assign ++ (right_pieces names x ++ Mark terminal.Semicolon ∷ LineEnd ∷ []))
  closes_set v x h g k r =
      let a = and_is (nat_lt v (length names)) (sane.sane_right (length names) x) g in
      let end : List Piece = Mark terminal.Semicolon ∷ LineEnd ∷ [] in (
        tt,
        (
          (named v (ltb-true v (length names) a.0), space),
          (
            tt,
            before_space terminal.Assign (right_pieces names x ++ end) r refl
                (closed_join (right_pieces names x) end (nice_right x h a.1) (λ r. semicolon) closed_stop r),
          ),
        ),
      )

  closes_check : (t : Terminal) (cs : List Compare) → is_mark t ≡ true → AreSane cs → (k : ℕ) → IsClosed (Blank k ∷ opened t (all_pieces names cs) ++ Mark terminal.Semicolon ∷ LineEnd ∷ [])
  closes_check t cs m h k r =
      (tt, closed_both (opened t (all_pieces names cs)) (Mark terminal.Semicolon ∷ LineEnd ∷ []) (closed_opened t (all_pieces names cs) m (nice_all cs h)) closed_stop r)

  closes_if : (t : Test) (xs ys : List Stmt) → AllByRecursion Closes xs → AllByRecursion Closes ys →
      (shown.shown_test names t && (all_true (map (shown.shown_stmt names) xs) && all_true (map (shown.shown_stmt names) ys))) ≡ true →
      (sane.sane_test (length names) t && (all_true (map (sane.sane_stmt (length names)) xs) && all_true (map (sane.sane_stmt (length names)) ys))) ≡ true → (k : ℕ) →
      IsClosed (Blank k ∷ opened terminal.If (test_pieces names t) ++ (block (map (stmt_pieces names) xs) k ++ (else_part (map (stmt_pieces names) ys) k ++ LineEnd ∷ [])))
  closes_if t xs ys hx hy h g k r =
      let a = and_is (shown.shown_test names t) _ h in
      let a2 = and_is (all_true (map (shown.shown_stmt names) xs)) (all_true (map (shown.shown_stmt names) ys)) a.1 in
      let b = and_is (sane.sane_test (length names) t) _ g in
      let b2 = and_is (all_true (map (sane.sane_stmt (length names)) xs)) (all_true (map (sane.sane_stmt (length names)) ys)) b.1 in
      let last : List Piece = else_part (map (stmt_pieces names) ys) k ++ LineEnd ∷ [] in (
        tt,
        closed_both (opened terminal.If (test_pieces names t)) (block (map (stmt_pieces names) xs) k ++ last)
            (closed_opened terminal.If (test_pieces names t) refl (nice_test t a.0 b.0))
            (closed_both (block (map (stmt_pieces names) xs) k) last (closed_block xs hx a2.0 b2.0 k)
            (closed_both (else_part (map (stmt_pieces names) ys) k) (LineEnd ∷ []) (closed_else ys hy a2.1 b2.1 k) closed_feed)) r,
      )

  closes_while : (t : Test) (tried : List Compare) (xs : List Stmt) → AllByRecursion Closes xs →
      (shown.shown_test names t && (list_all (shown.shown_compare names) tried && all_true (map (shown.shown_stmt names) xs))) ≡ true →
      (sane.sane_test (length names) t && (sane.sane_each (length names) tried && all_true (map (sane.sane_stmt (length names)) xs))) ≡ true → (k : ℕ) →
      IsClosed (Blank k ∷ opened terminal.While (test_pieces names t) ++ (tried_pieces names tried ++ (block (map (stmt_pieces names) xs) k ++ LineEnd ∷ [])))
  closes_while t tried xs hx h g k r =
      let a = and_is (shown.shown_test names t) _ h in
      let a2 = and_is (list_all (shown.shown_compare names) tried) (all_true (map (shown.shown_stmt names) xs)) a.1 in
      let b = and_is (sane.sane_test (length names) t) _ g in
      let b2 = and_is (sane.sane_each (length names) tried) (all_true (map (sane.sane_stmt (length names)) xs)) b.1 in
      let last : List Piece = block (map (stmt_pieces names) xs) k ++ LineEnd ∷ [] in (
        tt,
        closed_both (opened terminal.While (test_pieces names t)) (tried_pieces names tried ++ last)
            (closed_opened terminal.While (test_pieces names t) refl (nice_test t a.0 b.0))
            (closed_both (tried_pieces names tried) last (closed_tried tried (sane_each_is tried a2.0 b2.0))
            (closed_both (block (map (stmt_pieces names) xs) k) (LineEnd ∷ []) (closed_block xs hx a2.1 b2.1 k) closed_feed)) r,
      )

  closes : (s : Stmt) → Closes s
  closes s = by_stmt Closes
      (λ p v x. closes_by (stmt.Set p v x) (λ h g k. closes_set v x h g k))
      (λ p t xs ys hx hy. closes_by (stmt.If p t xs ys) (λ h g k. closes_if t xs ys hx hy h g k))
      (λ p t tried xs hx. closes_by (stmt.While p t tried xs) (λ h g k. closes_while t tried xs hx h g k))
      (λ p cs. closes_by (stmt.Assert p cs) (λ h g k. closes_check terminal.Assert cs refl (sane_all_is cs h g) k))
      (λ p cs. closes_by (stmt.Assume p cs) (λ h g k. closes_check terminal.Assume cs refl (sane_all_is cs h g) k))
      s

  closed_body : (ss : List Stmt) → shown.shown_stmts names ss ≡ true → sane.sane_stmts (length names) ss ≡ true → (k : ℕ) → IsClosed (stmts_pieces names ss k)
  closed_body ss h g k = closed_lines ss (all_by Closes closes ss) h g k

-- ---- programs

stops_names : (ws : List Bytes) → Stops (further_names ws)
stops_names [] r stop = stop
stops_names (w ∷ ws) r stop = comma

nice_further_names : (ws : List Bytes) → list_all is_name ws ≡ true → IsNice (further_names ws)
nice_further_names [] h r stop = tt
nice_further_names (w ∷ ws) h r stop =
    let a = and_is (is_name w) (list_all is_name ws) h in
    before_space terminal.Comma (Name w ∷ further_names ws) r refl ((a.0, stops_names ws r stop), nice_further_names ws a.1 r stop)

nice_names : (ws : List Bytes) → list_all is_name ws ≡ true → IsNice (names_pieces ws)
nice_names [] h r stop = tt
nice_names (w ∷ ws) h r stop = let a = and_is (is_name w) (list_all is_name ws) h in ((a.0, stops_names ws r stop), nice_further_names ws a.1 r stop)

closed_locals : (ws : List Bytes) → list_all is_name ws ≡ true → IsClosed (locals_pieces ws)
closed_locals [] h r = tt
closed_locals (w ∷ ws) h r =
    let end : List Piece = Mark terminal.Semicolon ∷ LineEnd ∷ [] in (
      tt,
      before_space terminal.Var (names_pieces (w ∷ ws) ++ end) r refl
          (closed_join (names_pieces (w ∷ ws)) end (nice_names (w ∷ ws) h) (λ r. semicolon) (λ r. sign terminal.Semicolon (LineEnd ∷ []) r refl refl (tt, tt)) r),
    )

names_first : (k : ℕ) (ws : List Bytes) → list_all is_name ws ≡ true → list_all is_name (take k ws) ≡ true
names_first zero ws h = refl
names_first (suc k) [] h = refl
names_first (suc k) (w ∷ ws) h = let a = and_is (is_name w) (list_all is_name ws) h in and_of (is_name w) (list_all is_name (take k ws)) a.0 (names_first k ws a.1)

names_rest : (k : ℕ) (ws : List Bytes) → list_all is_name ws ≡ true → list_all is_name (drop k ws) ≡ true
names_rest zero ws h = h
names_rest (suc k) [] h = refl
names_rest (suc k) (w ∷ ws) h = names_rest k ws (and_is (is_name w) (list_all is_name ws) h).1

closed_program : (names : Named) (body : List Stmt) → is_sane names body ≡ true → is_showable names body ≡ true → IsClosed (program_pieces names body)
closed_program names body h g r =
    let a = and_is (list_all is_name names.names) _ g in
    let b = and_is (shown.all_differ names.names) _ a.1 in
    let c = and_is (shown.shown_stmts names.names body) _ b.1 in
    let d = and_is (nat_le names.params (length names.names)) _ h in
    let e = and_is (nat_le (length names.names) VARIABLES) _ d.1 in
    let f = and_is (sane.sane_stmts (length names.names) body) (nat_le (sane.edges_of body) EDGES) e.1 in
    let last : List Piece = Mark terminal.CloseBrace ∷ LineEnd ∷ [] in
    let statements : List Piece = stmts_pieces names.names body 2 ++ last in
    let locals : List Piece = locals_pieces (drop names.params names.names) in
    let params : List Piece = names_pieces (take names.params names.names) in
    closed_both (opened terminal.Entry params) (Blank 1 ∷ Mark terminal.OpenBrace ∷ LineEnd ∷ locals ++ statements)
    (closed_opened names.names a.0 terminal.Entry params refl (nice_names (take names.params names.names) (names_first names.params names.names a.0)))
    (λ r. (
      tt,
      sign terminal.OpenBrace (LineEnd ∷ locals ++ statements) r refl refl (
        tt,
        closed_both locals statements (closed_locals (drop names.params names.names) (names_rest names.params names.names a.0))
            (closed_both (stmts_pieces names.names body 2) last (closed_body names.names a.0 body c.0 f.0 2) (λ r. sign terminal.CloseBrace (LineEnd ∷ []) r refl refl (tt, tt))) r,
      ),
    ))
    r

pub canonical_texts_are_cut : CanonicalTextsAreCut
canonical_texts_are_cut p shown =
    let cut = lexes (program_pieces p.names p.body) (closed_program p.names p.body p.sane shown []) in
    record { found = cut.0; means = cut.1; are = cut.2 }
