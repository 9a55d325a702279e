-- The symbols of the pieces of a right side derive a tree, of which the walk makes it again.
use Rattle.std.proofs.Common.{◌≡◌, ℕ, suc, refl, ap, arith, ℤ, pos, negsuc, List, [], ◌∷◌, ◌++◌, length, true, false, Option, Some, None, Ok}
use Rattle.std.specs.Prelude.{◌&&◌, int_lt, int_le}
use Rattle.std.proofs.lemmas.Int.{ints}
use Rattle.pc_text.specs.Bytes.{Bytes}
use Rattle.pc_text.specs.Named.{AreDistinct}
use Rattle.pc_rows.specs.Linear.{in_range}
use Rattle.pc_grammar.specs.declared.symbol.Symbol.{Symbol}
use Rattle.pc_language.specs.declared.terminal.Terminal.TheVariants as terminal
use Rattle.pc_grammar.specs.declared.tree.ExprTree.{ExprTree}
use Rattle.pc_language.specs.declared.choice.Bound.{Bound}
use Rattle.pc_language.specs.declared.choice.Bound.TheVariants as end
use Rattle.pc_language.specs.declared.choice.Choice.{Choice}
use Rattle.pc_grammar.specs.declared.tree.RightTree.{RightTree}
use Rattle.pc_grammar.specs.Combinators.{Lang, is_map, is_both, is_maybe}
use Rattle.pc_grammar.specs.Terminals.{is_one}
use Rattle.pc_grammar.specs.Expressions.{is_expr_in, is_paren}
use Rattle.pc_grammar.specs.Rights as grammar
use Rattle.pc_program.specs.declared.tree.Right.{Right}
use Rattle.pc_show.specs.declared.showing.level.Level.TheVariants as level
use Rattle.pc_show.specs.Pieces.{Blank, Mark, Number}
use Rattle.pc_show.specs.Canonical.{spaced, expr_pieces, bound_pieces, choice_pieces, right_pieces}
use Rattle.pc_language.specs.Ends.{end_of}
use Rattle.pc_program.specs.Forms.{bind, form}
use Rattle.pc_program.specs.Sane.{sane_expr, in_order, sane_choice, sane_right}
use Rattle.pc_syntax.specs.Context.{checked_ends, checked_choice, checked_right}
use Rattle.pc_readback.specs.Bare.{bare_expr, bare_right}
use Rattle.pc_program.proofs.Results.{and_is}
use Rattle.pc_readback.proofs.Derived.{Derive, Derivable, Given, derive_map, derive_both, derive_left, derive_right, derive_one, derive_number, derive_none, derive_some}
use Rattle.pc_readback.proofs.WalkedAgain.{IsExpr}
use Rattle.pc_readback.proofs.DerivedTests.{sane_shown}

-- ---- choices

-- the same ends
abbrev HasEnds : Choice → Choice → Type 0
HasEnds c x = (x.lo ≡ c.lo) × (x.hi ≡ c.hi)

not_less : (a b : ℤ) → int_le a b ≡ true → int_lt b a ≡ false
not_less a b h = grind (arith, ints)

ends_stand : (x : Choice) (lo hi : Bound) → in_order (end_of lo) (end_of hi) ≡ true → checked_ends x (end_of lo) (end_of hi) ≡ Ok x
ends_stand x (end.At a) (end.At b) h = let stands = not_less a b (and_is (in_range b) (int_le a b) (and_is (in_range a) (in_range b && int_le a b) h).1).1 in rw stands refl
ends_stand x (end.At a) end.Open h = refl
ends_stand x end.Open (end.At b) h = refl
ends_stand x end.Open end.Open h = refl

choice_stands : (c x : Choice) → sane_choice (Some c) ≡ true → HasEnds c x → checked_choice (Some x) ≡ Ok (Some x)
choice_stands c x h (lo, hi) = let ordered : in_order (end_of x.lo) (end_of x.hi) ≡ true = rw (lo, hi) h in ap (λ r. bind r (λ d. Ok (Some d))) (ends_stand x x.lo x.hi ordered)

module _ (src : Bytes) where
  number_derives : (z : ℤ) → Derive src (bound_pieces (end.At z)) grammar.is_closed_bound (λ x. x ≡ end.At z)
  number_derives (pos n) = derive_map src grammar.bound_of _ _ _ (Number (pos n) ∷ []) (λ x h. by x.0 x.1 h.0 h.1) (derive_both src _ _ _ _ [] (Number (pos n) ∷ []) (derive_none src (is_one terminal.Minus)) (derive_number src (pos n)))
    where
      by : (o : Option Symbol) (s : Symbol) → o ≡ None → s.number ≡ pos n → grammar.bound_of (o, s) ≡ end.At (pos n)
      by o s h k = rw h (ap end.At k)
  number_derives (negsuc n) = derive_map src grammar.bound_of _ _ _ (Mark terminal.Minus ∷ Number (pos (suc n)) ∷ []) (λ x h. by x.0 x.1 h.0 h.1)
      (derive_both src _ _ (Given src (λ s. s.terminal ≡ terminal.Minus)) _ (Mark terminal.Minus ∷ []) (Number (pos (suc n)) ∷ [])
      (derive_some src _ _ (Mark terminal.Minus ∷ []) (derive_one src terminal.Minus refl)) (derive_number src (pos (suc n))))
    where
      by : (o : Option Symbol) (s : Symbol) → Given src (λ s. s.terminal ≡ terminal.Minus) o → s.number ≡ pos (suc n) → grammar.bound_of (o, s) ≡ end.At (negsuc n)
      by None s h k = absurd h
      by (Some m) s h k = ap (λ z. end.At (grammar.opposite z)) k

  bound_derives : (b : Bound) → Derive src (bound_pieces b) grammar.is_bound (λ x. x ≡ b)
  bound_derives (end.At z) = derive_right src _ grammar.is_closed_bound (λ x. x ≡ end.At z) (bound_pieces (end.At z)) (number_derives z)
  bound_derives end.Open = derive_left src _ grammar.is_closed_bound (λ x. x ≡ end.Open) (bound_pieces end.Open) (derive_map src grammar.open_bound _ _ (λ x. x ≡ end.Open) (Mark terminal.Star ∷ []) (λ s h. refl) (derive_one src terminal.Star refl))

  choice_derives : (c : Choice) →
      Derive src (Mark terminal.OpenBracket ∷ bound_pieces c.lo ++ (Mark terminal.Comma ∷ Blank 1 ∷ bound_pieces c.hi ++ Mark terminal.CloseBracket ∷ [])) grammar.is_choice (HasEnds c)
  choice_derives c =
      let high = derive_both src grammar.is_bound _ _ _ (bound_pieces c.hi) (Mark terminal.CloseBracket ∷ []) (bound_derives c.hi) (derive_one src terminal.CloseBracket refl) in
      let comma = derive_both src _ _ _ _ (Mark terminal.Comma ∷ Blank 1 ∷ []) (bound_pieces c.hi ++ Mark terminal.CloseBracket ∷ [])
      (derive_one src terminal.Comma refl) high in
      let low = derive_both src grammar.is_bound _ _ _
      (bound_pieces c.lo) (Mark terminal.Comma ∷ Blank 1 ∷ bound_pieces c.hi ++ Mark terminal.CloseBracket ∷ []) (bound_derives c.lo) comma in
      derive_map src grammar.choice_of (is_both (is_one terminal.OpenBracket) (is_both grammar.is_bound (is_both (is_one terminal.Comma) (is_both grammar.is_bound (is_one terminal.CloseBracket))))) _ (HasEnds c)
      (Mark terminal.OpenBracket ∷ bound_pieces c.lo ++ (Mark terminal.Comma ∷ Blank 1 ∷ bound_pieces c.hi ++ Mark terminal.CloseBracket ∷ []))
      (λ x h. (h.1.0, h.1.1.1.0))
      (derive_both src _ _ _ _ (Mark terminal.OpenBracket ∷ [])
      (bound_pieces c.lo ++ (Mark terminal.Comma ∷ Blank 1 ∷ bound_pieces c.hi ++ Mark terminal.CloseBracket ∷ [])) (derive_one src terminal.OpenBracket refl) low)

-- ---- right sides

module _ (src : Bytes) (names : List Bytes) where
  -- the walk makes this right side of a tree, apart from places
  pub record IsRight (r : Right) (t : RightTree) : Type 0 where
    pub right : Right
    pub walked : checked_right src names t ≡ Ok right
    pub same : bare_right right ≡ bare_right r

  abbrev IsTail : Option Choice → Option (Symbol × Choice) → Type 0
  IsTail None o = o ≡ None
  IsTail (Some c) o = Given src (λ x. (x.0.terminal ≡ terminal.Plus) × HasEnds c x.1) o

  abbrev is_tail : Lang (Option (Symbol × Choice))
  is_tail = is_maybe (is_both (is_one terminal.Plus) grammar.is_choice)

  tail_derives : (o : Option Choice) → Derive src (choice_pieces o) is_tail (IsTail o)
  tail_derives None = derive_none src (is_both (is_one terminal.Plus) grammar.is_choice)
  tail_derives (Some c) = derive_some src _ _ (choice_pieces (Some c)) (derive_both src _ grammar.is_choice _ (HasEnds c) (spaced terminal.Plus)
      (Mark terminal.OpenBracket ∷ bound_pieces c.lo ++ (Mark terminal.Comma ∷ Blank 1 ∷ bound_pieces c.hi ++ Mark terminal.CloseBracket ∷ [])) (derive_one src terminal.Plus refl) (choice_derives src c))

  right_again : (r : Right) (x : ExprTree) (o : Option (Symbol × Choice)) → sane_choice r.choice ≡ true → IsExpr src names (bare_expr r.expr) (form r.expr) x → IsTail r.choice o →
      IsRight r (grammar.right_of (x, o))
  right_again r x o h i j = by r.choice o refl h j
    where
      by : (c : Option Choice) (o : Option (Symbol × Choice)) → c ≡ r.choice → sane_choice c ≡ true → IsTail c o → IsRight r (grammar.right_of (x, o))
      by None (Some y) e h j = absurd (cc)
      by None None e h j = record { right = record { expr = i.expr; choice = None }; walked = rw (i.walked) refl; same = rw (i.same, ← e) refl }
      by (Some c) None e h j = absurd j
      by (Some c) (Some y) e h j = record {
        right = record { expr = i.expr; choice = Some y.1 };
        walked = rw (i.walked, choice_stands c y.1 h j.1) refl;
        same = rw (i.same, ← e, j.1.0, j.1.1) refl;
      }

  right_derives : (n : ℕ) (r : Right) → sane_choice r.choice ≡ true → Derive src (expr_pieces names r.expr level.Expression) (is_expr_in (is_paren n)) (IsExpr src names (bare_expr r.expr) (form r.expr)) →
      Derive src (right_pieces names r) (grammar.is_right (is_paren n)) (IsRight r)
  right_derives n r h d = derive_right src _ _ (IsRight r) (right_pieces names r) (derive_map src grammar.right_of _ _ (IsRight r) (right_pieces names r) (λ x k. right_again r x.0 x.1 h k.0 k.1)
      (derive_both src _ is_tail (IsExpr src names (bare_expr r.expr) (form r.expr)) (IsTail r.choice) (expr_pieces names r.expr level.Expression) (choice_pieces r.choice) d (tail_derives r.choice)))

  pub shown_right : AreDistinct names → (r : Right) → sane_right (length names) r ≡ true → Derivable src (right_pieces names r) (λ n. grammar.is_right (is_paren n)) (IsRight r)
  shown_right distinct r h =
      let p = and_is (sane_expr (length names) r.expr) (sane_choice r.choice) h in
      let x = sane_shown src names distinct r.expr p.0 in
      (x.0, λ n i. right_derives n r p.1 (x.1 n i))
