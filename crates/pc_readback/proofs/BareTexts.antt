-- A program has the canonical text of the program without its places.
use Rattle.std.proofs.Common.{◌≡◌, ℕ, refl, sym, ap, ◌∙◌, List, [], ◌∷◌, ◌++◌, map, take, drop, Option, Some, None}
use Rattle.std.specs.List.{AllByRecursion}
use Rattle.pc_text.specs.Bytes.{Bytes}
use Rattle.pc_text.specs.Named.{Named}
use Rattle.pc_text.specs.declared.place.Place.{Place}
use Rattle.pc_language.specs.declared.terminal.Terminal.{Terminal}
use Rattle.pc_language.specs.declared.terminal.Terminal.TheVariants as terminal
use Rattle.pc_language.specs.declared.choice.Choice.{Choice}
use Rattle.pc_program.specs.declared.tree.Expr.{Expr, Expr-F, fold-Expr, fold-roll-Expr}
use Rattle.pc_program.specs.declared.tree.Expr.TheOpen as expr
use Rattle.pc_program.specs.declared.tree.Expr.TheVariants as e
use Rattle.pc_program.specs.declared.tree.Compare.{Compare}
use Rattle.pc_program.specs.declared.tree.Test.{Test}
use Rattle.pc_program.specs.declared.tree.Test.TheVariants as test
use Rattle.pc_program.specs.declared.tree.Right.{Right}
use Rattle.pc_program.specs.declared.tree.Stmt.{Stmt, Stmt-F, roll-Stmt, fold-roll-Stmt}
use Rattle.pc_program.specs.declared.tree.Stmt.TheOpen as stmt
use Rattle.pc_show.specs.declared.showing.level.Level.{Level}
use Rattle.pc_show.specs.declared.showing.level.Level.TheVariants as level
use Rattle.pc_show.specs.Pieces.{Piece, Blank, LineEnd, Mark, Name, bytes_of}
use Rattle.pc_show.specs.Canonical.{spaced, joined, name_at, expr_step, expr_pieces, sign_of, compare_pieces, further_pieces, all_pieces, test_pieces, choice_pieces, right_pieces, opened, block, else_part, tried_pieces, stmt_step, stmt_pieces, lines, names_pieces, locals_pieces, program_text}
use Rattle.pc_readback.specs.Bare.{nowhere, bare_expr_step, bare_expr, bare_compare, bare_all, bare_test, bare_choice, bare_right, bare_stmt_step, bare_stmt, bare}
use Rattle.pc_readback.specs.ReadsBack.{TextsLeaveOutPlaces}
use Rattle.pc_program.proofs.Exprs.{by_cases}
use Rattle.pc_program.proofs.Stmts.{by_stmt, all_by}
use Rattle.pc_program.proofs.Folds.{fold-neg, fold-add, fold-sub, fold-mul, fold-set, fold-if, fold-while, fold-assert, fold-assume}

-- ---- expressions

-- a fold that looks at no place gives the same without places
module _ (A : Type 0) (step : Expr-F A → A)
    (neg : (a : A) (p q : Place) → step (expr.Neg a p) ≡ step (expr.Neg a q))
    (add : (a b : A) (p q : Place) → step (expr.Add a b p) ≡ step (expr.Add a b q))
    (sub : (a b : A) (p q : Place) → step (expr.Sub a b p) ≡ step (expr.Sub a b q))
    (mul : (a b : A) (p q : Place) → step (expr.Mul a b p) ≡ step (expr.Mul a b q)) where
  abbrev worth : Expr → A
  worth x = fold-Expr A step x

  abbrev Same : Expr → Type 0
  Same x = worth (bare_expr x) ≡ worth x

  fold_bare : (x : Expr) → Same x
  fold_bare =
      by_cases Same (λ n. ap worth (fold-roll-Expr Expr bare_expr_step (expr.Num n) ∙ sym (e.rolls-Num n))) (λ v. ap worth (fold-roll-Expr Expr bare_expr_step (expr.Name v) ∙ sym (e.rolls-Name v)))
      (λ a p h. ap worth (fold-roll-Expr Expr bare_expr_step (expr.Neg a p)) ∙ fold-neg A step (bare_expr a) nowhere ∙ ap (λ x. step (expr.Neg x nowhere)) h ∙ neg (worth a) nowhere p
      ∙ sym (fold-roll-Expr A step (expr.Neg a p)))
      (λ a b p h k. ap worth (fold-roll-Expr Expr bare_expr_step (expr.Add a b p)) ∙ fold-add A step (bare_expr a) (bare_expr b) nowhere ∙ ap (λ x. step (expr.Add x (worth (bare_expr b)) nowhere)) h
      ∙ ap (λ y. step (expr.Add (worth a) y nowhere)) k ∙ add (worth a) (worth b) nowhere p ∙ sym (fold-roll-Expr A step (expr.Add a b p)))
      (λ a b p h k. ap worth (fold-roll-Expr Expr bare_expr_step (expr.Sub a b p)) ∙ fold-sub A step (bare_expr a) (bare_expr b) nowhere ∙ ap (λ x. step (expr.Sub x (worth (bare_expr b)) nowhere)) h
      ∙ ap (λ y. step (expr.Sub (worth a) y nowhere)) k ∙ sub (worth a) (worth b) nowhere p ∙ sym (fold-roll-Expr A step (expr.Sub a b p)))
      (λ a b p h k. ap worth (fold-roll-Expr Expr bare_expr_step (expr.Mul a b p)) ∙ fold-mul A step (bare_expr a) (bare_expr b) nowhere ∙ ap (λ x. step (expr.Mul x (worth (bare_expr b)) nowhere)) h
      ∙ ap (λ y. step (expr.Mul (worth a) y nowhere)) k ∙ mul (worth a) (worth b) nowhere p ∙ sym (fold-roll-Expr A step (expr.Mul a b p)))

choice_bare : (c : Option Choice) → choice_pieces (bare_choice c) ≡ choice_pieces c
choice_bare None = refl
choice_bare (Some c) = refl

module _ (names : List Bytes) where
  expr_bare : (x : Expr) (l : Level) → expr_pieces names (bare_expr x) l ≡ expr_pieces names x l
  expr_bare x l = ap (λ (f : Level → List Piece). f l) (fold_bare (Level → List Piece) (expr_step names) (λ a p q. refl) (λ a b p q. refl) (λ a b p q. refl) (λ a b p q. refl) x)

  right_bare : (r : Right) → right_pieces names (bare_right r) ≡ right_pieces names r
  right_bare r = ap (λ ps. ps ++ choice_pieces (bare_choice r.choice)) (expr_bare r.expr level.Expression) ∙ ap (λ ps. expr_pieces names r.expr level.Expression ++ ps) (choice_bare r.choice)

  -- ---- comparisons

  compare_bare : (c : Compare) → compare_pieces names (bare_compare c) ≡ compare_pieces names c
  compare_bare c =
      ap (λ ps. joined ps (sign_of c.op) (expr_pieces names (bare_expr c.right) level.Expression)) (expr_bare c.left level.Expression)
      ∙ ap (λ ps. joined (expr_pieces names c.left level.Expression) (sign_of c.op) ps) (expr_bare c.right level.Expression)

  further_bare : (cs : List Compare) → further_pieces names (bare_all cs) ≡ further_pieces names cs
  further_bare [] = refl
  further_bare (c ∷ cs) =
      ap (λ ps. (spaced terminal.And ++ ps) ++ further_pieces names (bare_all cs)) (compare_bare c) ∙ ap (λ ps. (spaced terminal.And ++ compare_pieces names c) ++ ps) (further_bare cs)

  all_bare : (cs : List Compare) → all_pieces names (bare_all cs) ≡ all_pieces names cs
  all_bare [] = refl
  all_bare (c ∷ cs) = ap (λ ps. ps ++ further_pieces names (bare_all cs)) (compare_bare c) ∙ ap (λ ps. compare_pieces names c ++ ps) (further_bare cs)

  test_bare : (t : Test) → test_pieces names (bare_test t) ≡ test_pieces names t
  test_bare test.Any = refl
  test_bare (test.All cs) = all_bare cs

  tried_bare : (cs : List Compare) → tried_pieces names (bare_all cs) ≡ tried_pieces names cs
  tried_bare [] = refl
  tried_bare (c ∷ cs) = ap (λ ps. Blank 1 ∷ opened terminal.Try ps) (all_bare (c ∷ cs))

  -- ---- statements

  abbrev Lines : Type 0
  Lines = ℕ → List Piece

  abbrev set_lines : ℕ → List Piece → Lines
  set_lines v ps n = Blank n ∷ Name (name_at names v) ∷ spaced terminal.Assign ++ (ps ++ Mark terminal.Semicolon ∷ LineEnd ∷ [])

  abbrev if_lines : List Piece → List Lines → List Lines → Lines
  if_lines ps xs ys n = Blank n ∷ opened terminal.If ps ++ (block xs n ++ (else_part ys n ++ LineEnd ∷ []))

  abbrev while_lines : List Piece → List Piece → List Lines → Lines
  while_lines ps qs xs n = Blank n ∷ opened terminal.While ps ++ (qs ++ (block xs n ++ LineEnd ∷ []))

  abbrev check_lines : Terminal → List Piece → Lines
  check_lines k ps n = Blank n ∷ opened k ps ++ Mark terminal.Semicolon ∷ LineEnd ∷ []

  abbrev SameLines : Stmt → Type 0
  SameLines x = stmt_pieces names (bare_stmt x) ≡ stmt_pieces names x

  each_bare : (xs : List Stmt) → AllByRecursion SameLines xs → map (stmt_pieces names) (map bare_stmt xs) ≡ map (stmt_pieces names) xs
  each_bare [] h = refl
  each_bare (x ∷ xs) h = ap (λ (f : Lines). f ∷ map (stmt_pieces names) (map bare_stmt xs)) h.0 ∙ ap (λ (fs : List Lines). stmt_pieces names x ∷ fs) (each_bare xs h.1)

  -- from the statement without places to its pieces, and from pieces to the statement
  module _ (x : Stmt-F Stmt) (y : Stmt) (bare_is : bare_stmt (roll-Stmt x) ≡ y) (f g : Lines) (there : stmt_pieces names y ≡ f) (same : f ≡ g) (back : stmt_pieces names (roll-Stmt x) ≡ g) where
    layer_bare : SameLines (roll-Stmt x)
    layer_bare = ap (stmt_pieces names) bare_is ∙ there ∙ same ∙ sym back

  stmt_bare : (x : Stmt) → SameLines x
  stmt_bare = by_stmt SameLines
      (λ p v r. layer_bare (stmt.Set p v r) _ (fold-roll-Stmt Stmt bare_stmt_step (stmt.Set p v r)) (set_lines v (right_pieces names (bare_right r))) (set_lines v (right_pieces names r))
      (fold-set Lines (stmt_step names) nowhere v (bare_right r)) (ap (set_lines v) (right_bare r)) (fold-roll-Stmt Lines (stmt_step names) (stmt.Set p v r)))
      (λ p t xs ys h k. layer_bare (stmt.If p t xs ys) _ (fold-roll-Stmt Stmt bare_stmt_step (stmt.If p t xs ys))
      (if_lines (test_pieces names (bare_test t)) (map (stmt_pieces names) (map bare_stmt xs)) (map (stmt_pieces names) (map bare_stmt ys)))
      (if_lines (test_pieces names t) (map (stmt_pieces names) xs) (map (stmt_pieces names) ys))
      (fold-if Lines (stmt_step names) nowhere (bare_test t) (map bare_stmt xs) (map bare_stmt ys))
      (ap (λ ps. if_lines ps (map (stmt_pieces names) (map bare_stmt xs)) (map (stmt_pieces names) (map bare_stmt ys))) (test_bare t)
      ∙ ap (λ (fs : List Lines). if_lines (test_pieces names t) fs (map (stmt_pieces names) (map bare_stmt ys))) (each_bare xs h)
      ∙ ap (λ (fs : List Lines). if_lines (test_pieces names t) (map (stmt_pieces names) xs) fs) (each_bare ys k))
      (fold-roll-Stmt Lines (stmt_step names) (stmt.If p t xs ys)))
      (λ p t tried xs h. layer_bare (stmt.While p t tried xs) _ (fold-roll-Stmt Stmt bare_stmt_step (stmt.While p t tried xs))
      (while_lines (test_pieces names (bare_test t)) (tried_pieces names (bare_all tried)) (map (stmt_pieces names) (map bare_stmt xs)))
      (while_lines (test_pieces names t) (tried_pieces names tried) (map (stmt_pieces names) xs))
      (fold-while Lines (stmt_step names) nowhere (bare_test t) (bare_all tried) (map bare_stmt xs))
      (ap (λ ps. while_lines ps (tried_pieces names (bare_all tried)) (map (stmt_pieces names) (map bare_stmt xs))) (test_bare t)
      ∙ ap (λ ps. while_lines (test_pieces names t) ps (map (stmt_pieces names) (map bare_stmt xs))) (tried_bare tried)
      ∙ ap (λ (fs : List Lines). while_lines (test_pieces names t) (tried_pieces names tried) fs) (each_bare xs h))
      (fold-roll-Stmt Lines (stmt_step names) (stmt.While p t tried xs)))
      (λ p cs. layer_bare (stmt.Assert p cs) _ (fold-roll-Stmt Stmt bare_stmt_step (stmt.Assert p cs)) (check_lines terminal.Assert (all_pieces names (bare_all cs))) (check_lines terminal.Assert (all_pieces names cs))
      (fold-assert Lines (stmt_step names) nowhere (bare_all cs)) (ap (check_lines terminal.Assert) (all_bare cs)) (fold-roll-Stmt Lines (stmt_step names) (stmt.Assert p cs)))
      (λ p cs. layer_bare (stmt.Assume p cs) _ (fold-roll-Stmt Stmt bare_stmt_step (stmt.Assume p cs)) (check_lines terminal.Assume (all_pieces names (bare_all cs))) (check_lines terminal.Assume (all_pieces names cs))
      (fold-assume Lines (stmt_step names) nowhere (bare_all cs)) (ap (check_lines terminal.Assume) (all_bare cs)) (fold-roll-Stmt Lines (stmt_step names) (stmt.Assume p cs)))

-- ---- programs

-- the text of a program whose statements have these pieces
abbrev text_of : Named → List (ℕ → List Piece) → Bytes
text_of names fs =
    let body = lines fs 2 ++ Mark terminal.CloseBrace ∷ LineEnd ∷ [] in
    bytes_of (opened terminal.Entry (names_pieces (take names.params names.names)) ++ (Blank 1 ∷ Mark terminal.OpenBrace ∷ LineEnd ∷ locals_pieces (drop names.params names.names) ++ body))

text_bare : (names : Named) (body : List Stmt) → program_text names (bare body) ≡ program_text names body
text_bare names body = ap (text_of names) (each_bare names.names body (all_by (SameLines names.names) (stmt_bare names.names) body))

pub texts_leave_out_places : TextsLeaveOutPlaces
texts_leave_out_places p q same =
    sym (text_bare p.names p.body) ∙ ap (program_text p.names) same.body ∙ text_bare p.names q.body ∙ ap (λ (names : Named). program_text names q.body) same.names
