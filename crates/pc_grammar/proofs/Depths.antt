-- Nesting takes symbols: a parser that is given more levels of nesting than a text has symbols never runs out of them.
use Rattle.std.proofs.Common.{◌≡◌, ℕ, zero, suc, ◌+◌, ◌≤◌, Bool, true, false, cond, List, [], ◌∷◌, length, Some, None, subst, arith}
use Rattle.pc_grammar.specs.declared.symbol.Symbol.{Symbol}
use Rattle.pc_language.specs.declared.terminal.Terminal.{Terminal}
use Rattle.pc_language.specs.declared.terminal.Terminal.TheVariants as terminal
use Rattle.pc_grammar.specs.declared.tree.ExprTree.{ExprTree}
use Rattle.pc_grammar.specs.declared.tree.StmtTree.{StmtTree}
use Rattle.pc_grammar.specs.Combinators.{Text, Parser, Class, Out, Got, Stops, Syntax, Deep, starts, token_if, token, and_then, map_out, both, map_parser, either, maybe, many_from, many, Part, More, Last, goes_on, series_from, series, shut, shut_if}
use Rattle.pc_grammar.specs.Terminals.{among, the, one}
use Rattle.pc_grammar.specs.Expressions.{signs, inner, number, name, signed, all_products, all_sums, atom, factor, addend, expr_in, paren_in, paren}
use Rattle.pc_grammar.specs.Rights.{bound_of, open_bound, choice_of, alone, more, more_or_last, joined, bound, choice, part, right}
use Rattle.pc_grammar.specs.Statements.{operators, begins_stmt, all_items, separated, optional, after, enclosed, compare_of, any, holds, set_of, if_of, while_of, assert_of, assume_of, compare, all, test, set_stmt, assert_stmt, assume_stmt, if_stmt, while_stmt, stmts_in, block_in, block}
use Rattle.pc_grammar.specs.Programs.{given, var_names, flat, program_of, names, locals, source, program}
use Rattle.pc_grammar.specs.Parallels.{processes_of, parallel_of, parallel}

-- a fault of nesting stands behind at least `n` symbols, and nothing is left that was not there
abbrev BoundedAt : {A : Type 0} → ℕ → Text → Out A → Type 0
BoundedAt n i (Got a r) = length r ≤ length i
BoundedAt n i (Stops Syntax r) = Unit {0}
BoundedAt n i (Stops Deep r) = n + length r ≤ length i

abbrev pub Bounded : {A : Type 0} → ℕ → Parser A → Type 0
Bounded n p = (i : Text) → BoundedAt n i (p i)

mapped : {A B : Type 0} (g : A → B) (n : ℕ) (i : Text) (o : Out A) → BoundedAt n i o → BoundedAt n i (map_out g o)
mapped g n i (Got a r) h = h
mapped g n i (Stops Syntax r) h = h
mapped g n i (Stops Deep r) h = h

-- what is bounded behind `k` symbols is bounded by `k` more
behind : {A : Type 0} (k n : ℕ) (i r : Text) → k + length r ≤ length i → (o : Out A) → BoundedAt n r o → BoundedAt (n + k) i o
behind k n i r l (Got a s) h = omega arith
behind k n i r l (Stops Syntax s) h = h
behind k n i r l (Stops Deep s) h = omega arith

weaker : {A : Type 0} (n : ℕ) (i : Text) (o : Out A) → BoundedAt (n + 0) i o → BoundedAt n i o
weaker n i (Got a r) h = h
weaker n i (Stops Syntax r) h = h
weaker n i (Stops Deep r) h = omega arith

token_bounded : (f : Class) (n : ℕ) → Bounded n (token f)
token_bounded f n [] = tt
token_bounded f n (s ∷ r) = by (f s)
  where
    by : (b : Bool) → BoundedAt n (s ∷ r) (token_if b s r)
    by true = omega arith
    by false = tt

map_bounded : {A B : Type 0} (g : A → B) (n : ℕ) (p : Parser A) → Bounded n p → Bounded n (map_parser g p)
map_bounded g n p h i = mapped g n i (p i) (h i)

both_at : {A B : Type 0} (n : ℕ) (q : Parser B) → Bounded n q → (i : Text) (o : Out A) → BoundedAt n i o → BoundedAt {A = A × B} n i (and_then o (λ a r. map_out (λ b. (a, b)) (q r)))
both_at n q h i (Got a r) l = weaker n i (map_out (λ b. (a, b)) (q r)) (behind 0 n i r (omega arith) (map_out (λ b. (a, b)) (q r)) (mapped (λ b. (a, b)) n r (q r) (h r)))
both_at n q h i (Stops Syntax r) l = l
both_at n q h i (Stops Deep r) l = l

both_bounded : {A B : Type 0} (n : ℕ) (p : Parser A) (q : Parser B) → Bounded n p → Bounded n q → Bounded n (both p q)
both_bounded n p q g h i = both_at n q h i (p i) (g i)

-- a symbol in front raises the bound
then_bounded : {B : Type 0} (f : Class) (n : ℕ) (q : Parser B) → Bounded n q → Bounded (n + 1) (both (token f) q)
then_bounded f n q h [] = tt
then_bounded {B = B} f n q h (s ∷ r) = by (f s)
  where
    by : (b : Bool) → BoundedAt {A = Symbol × B} (n + 1) (s ∷ r) (and_then (token_if b s r) (λ a r. map_out (λ b. (a, b)) (q r)))
    by true = behind 1 n (s ∷ r) r (omega arith) (map_out (λ b. (s, b)) (q r)) (mapped (λ b. (s, b)) n r (q r) (h r))
    by false = tt

either_bounded : {A : Type 0} (f : Class) (n : ℕ) (p q : Parser A) → Bounded n p → Bounded n q → Bounded n (either f p q)
either_bounded f n p q g h i = by (starts f i)
  where
    by : (b : Bool) → BoundedAt n i (cond b (p i) (q i))
    by true = g i
    by false = h i

maybe_bounded : {A : Type 0} (f : Class) (n : ℕ) (p : Parser A) → Bounded n p → Bounded n (maybe f p)
maybe_bounded f n p h i = by (starts f i)
  where
    by : (b : Bool) → BoundedAt n i (cond b (map_out Some (p i)) (Got None i))
    by true = mapped Some n i (p i) (h i)
    by false = omega arith

module _ {A : Type 0} (f : Class) (n : ℕ) (p : Parser A) (h : Bounded n p) where
  many_at : (k : ℕ) → Bounded n (many_from k f p) → (i : Text) (o : Out A) → BoundedAt n i o → BoundedAt n i (and_then o (λ a r. map_out (λ xs. a ∷ xs) (many_from k f p r)))
  many_at k again i (Got a r) l =
      weaker n i (map_out (λ xs. a ∷ xs) (many_from k f p r)) (behind 0 n i r (omega arith) (map_out (λ xs. a ∷ xs) (many_from k f p r)) (mapped (λ xs. a ∷ xs) n r (many_from k f p r) (again r)))
  many_at k again i (Stops Syntax r) l = l
  many_at k again i (Stops Deep r) l = l

  many_by : (k : ℕ) → Bounded n (many_from k f p) → (i : Text) (b : Bool) → BoundedAt n i (cond b (and_then (p i) (λ a r. map_out (λ xs. a ∷ xs) (many_from k f p r))) (Got [] i))
  many_by k again i true = many_at k again i (p i) (h i)
  many_by k again i false = omega arith

  many_all : (k : ℕ) → Bounded n (many_from k f p)
  many_all zero i = omega arith
  many_all (suc k) i = many_by k (many_all k) i (starts f i)

  many_bounded : Bounded n (many f p)
  many_bounded i = many_all (length i) i

module _ {A Z : Type 0} (f : Class) (n : ℕ) (p : Parser (Part A Z)) (h : Bounded n p) where
  series_at : (k : ℕ) → Bounded n (series_from k f p) → (i : Text) (o : Out (Part A Z)) → BoundedAt n i o → BoundedAt n i (and_then o (goes_on (series_from k f p)))
  series_at k again i (Got (More a) r) l =
      weaker n i (map_out (λ x. (a ∷ x.0, x.1)) (series_from k f p r)) (behind 0 n i r (omega arith) (map_out (λ x. (a ∷ x.0, x.1)) (series_from k f p r)) (mapped (λ x. (a ∷ x.0, x.1)) n r (series_from k f p r) (again r)))
  series_at k again i (Got (Last z) r) l = l
  series_at k again i (Stops Syntax r) l = l
  series_at k again i (Stops Deep r) l = l

  series_by : (k : ℕ) → Bounded n (series_from k f p) → (i : Text) (b : Bool) → BoundedAt n i (cond b (and_then (p i) (goes_on (series_from k f p))) (Got ([], None) i))
  series_by k again i true = series_at k again i (p i) (h i)
  series_by k again i false = omega arith

  series_all : (k : ℕ) → Bounded n (series_from k f p)
  series_all zero i = omega arith
  series_all (suc k) i = series_by k (series_all k) i (starts f i)

  series_bounded : Bounded n (series f p)
  series_bounded i = series_all (length i) i

shut_bounded : (A : Type 0) (f : Class) → Bounded {A = A} 0 (shut f)
shut_bounded A f i = by (starts f i)
  where
    by : (b : Bool) → BoundedAt {A = A} 0 i (shut_if b i)
    by true = omega arith
    by false = tt

one_bounded : (k : Terminal) (n : ℕ) → Bounded n (one k)
one_bounded k n = token_bounded (the k) n

-- ---- the productions

module _ (n : ℕ) (p : Parser ExprTree) (h : Bounded n p) where
  atom_bounded : Bounded n (atom p)
  atom_bounded = either_bounded (the terminal.Number) n _ _ (map_bounded number n _ (one_bounded terminal.Number n)) (either_bounded (the terminal.Name) n _ _ (map_bounded name n _ (one_bounded terminal.Name n)) h)

  factor_bounded : Bounded n (factor p)
  factor_bounded = map_bounded signed n _ (both_bounded n _ _ (maybe_bounded (the terminal.Minus) n _ (one_bounded terminal.Minus n)) atom_bounded)

  addend_bounded : Bounded n (addend p)
  addend_bounded = map_bounded all_products n _ (both_bounded n _ _ factor_bounded (many_bounded (the terminal.Star) n _ (both_bounded n _ _ (one_bounded terminal.Star n) factor_bounded)))

  expr_bounded : Bounded n (expr_in p)
  expr_bounded = map_bounded all_sums n _ (both_bounded n _ _ addend_bounded (many_bounded (among signs) n _ (both_bounded n _ _ (token_bounded (among signs) n) addend_bounded)))

  paren_in_bounded : Bounded (n + 1) (paren_in p)
  paren_in_bounded = map_bounded inner (n + 1) _ (then_bounded (the terminal.OpenParen) n _ (both_bounded n _ _ expr_bounded (one_bounded terminal.CloseParen n)))

  bound_bounded : Bounded n bound
  bound_bounded = either_bounded (the terminal.Star) n _ _ (map_bounded open_bound n _ (one_bounded terminal.Star n))
      (map_bounded bound_of n _ (both_bounded n _ _ (maybe_bounded (the terminal.Minus) n _ (one_bounded terminal.Minus n)) (one_bounded terminal.Number n)))

  choice_bounded : Bounded n choice
  choice_bounded = map_bounded choice_of n _ (both_bounded n _ _ (one_bounded terminal.OpenBracket n) (both_bounded n _ _ bound_bounded (both_bounded n _ _ (one_bounded terminal.Comma n)
      (both_bounded n _ _ bound_bounded (one_bounded terminal.CloseBracket n)))))

  part_bounded : Bounded n (part p)
  part_bounded = either_bounded (the terminal.Minus) n _ _ (map_bounded more n _ (both_bounded n _ _ (one_bounded terminal.Minus n) addend_bounded))
      (map_bounded more_or_last n _ (both_bounded n _ _ (one_bounded terminal.Plus n) (either_bounded (the terminal.OpenBracket) n _ _ (map_bounded Last n _ choice_bounded) (map_bounded More n _ addend_bounded))))

  right_bounded : Bounded n (right p)
  right_bounded = either_bounded (the terminal.OpenBracket) n _ _ (map_bounded alone n _ choice_bounded) (map_bounded joined n _ (both_bounded n _ _ addend_bounded (series_bounded (among signs) n _ part_bounded)))

separated_bounded : {A : Type 0} (k : Terminal) (n : ℕ) (p : Parser A) → Bounded n p → Bounded n (separated k p)
separated_bounded k n p h = map_bounded all_items n _ (both_bounded n _ _ h (many_bounded (the k) n _ (both_bounded n _ _ (one_bounded k n) h)))

enclosed_bounded : {A : Type 0} (n : ℕ) (p : Parser A) → Bounded n p → Bounded n (enclosed p)
enclosed_bounded n p h = map_bounded inner n _ (both_bounded n _ _ (one_bounded terminal.OpenParen n) (both_bounded n _ _ h (one_bounded terminal.CloseParen n)))

after_bounded : {A : Type 0} (k : Terminal) (n : ℕ) (p : Parser (List A)) → Bounded n p → Bounded n (after k p)
after_bounded k n p h = map_bounded optional n _ (maybe_bounded (the k) n _ (both_bounded n _ _ (one_bounded k n) h))

module _ (n : ℕ) (p : Parser ExprTree) (h : Bounded n p) where
  compare_bounded : Bounded n (compare p)
  compare_bounded = map_bounded compare_of n _ (both_bounded n _ _ (expr_bounded n p h) (both_bounded n _ _ (token_bounded (among operators) n) (expr_bounded n p h)))

  all_bounded : Bounded n (enclosed (all p))
  all_bounded = enclosed_bounded n _ (separated_bounded terminal.And n _ compare_bounded)

  test_bounded : Bounded n (enclosed (test p))
  test_bounded = enclosed_bounded n _ (either_bounded (the terminal.Star) n _ _ (map_bounded any n _ (one_bounded terminal.Star n)) (map_bounded holds n _ (separated_bounded terminal.And n _ compare_bounded)))

  set_bounded : Bounded n (set_stmt p)
  set_bounded = map_bounded set_of n _ (both_bounded n _ _ (one_bounded terminal.Name n) (both_bounded n _ _ (one_bounded terminal.Assign n) (both_bounded n _ _ (right_bounded n p h) (one_bounded terminal.Semicolon n))))

  assert_bounded : Bounded n (assert_stmt p)
  assert_bounded = map_bounded assert_of n _ (both_bounded n _ _ (one_bounded terminal.Assert n) (both_bounded n _ _ all_bounded (one_bounded terminal.Semicolon n)))

  assume_bounded : Bounded n (assume_stmt p)
  assume_bounded = map_bounded assume_of n _ (both_bounded n _ _ (one_bounded terminal.Assume n) (both_bounded n _ _ all_bounded (one_bounded terminal.Semicolon n)))

module _ (n : ℕ) (p : Parser ExprTree) (h : Bounded n p) (b : Parser (List StmtTree)) (g : Bounded n b) where
  if_bounded : Bounded n (if_stmt p b)
  if_bounded = map_bounded if_of n _ (both_bounded n _ _ (one_bounded terminal.If n) (both_bounded n _ _ (test_bounded n p h) (both_bounded n _ _ g (after_bounded terminal.Else n _ g))))

  while_bounded : Bounded n (while_stmt p b)
  while_bounded = map_bounded while_of n _ (both_bounded n _ _ (one_bounded terminal.While n) (both_bounded n _ _ (test_bounded n p h) (both_bounded n _ _ (after_bounded terminal.Try n _ (all_bounded n p h)) g)))

  stmts_in_bounded : Bounded n (stmts_in p b)
  stmts_in_bounded = many_bounded (among begins_stmt) n _ (either_bounded (the terminal.Name) n _ _ (set_bounded n p h) (either_bounded (the terminal.If) n _ _ if_bounded
      (either_bounded (the terminal.While) n _ _ while_bounded (either_bounded (the terminal.Assert) n _ _ (assert_bounded n p h) (assume_bounded n p h)))))

  block_in_bounded : Bounded (n + 1) (block_in p b)
  block_in_bounded = map_bounded inner (n + 1) _ (then_bounded (the terminal.OpenBrace) n _ (both_bounded n _ _ stmts_in_bounded (one_bounded terminal.CloseBrace n)))

-- ---- at every depth

paren_bounded : (n : ℕ) → Bounded n (paren n)
paren_bounded zero = shut_bounded ExprTree (the terminal.OpenParen)
paren_bounded (suc n) = let e : n + 1 ≡ suc n = omega arith in rw e at (paren_in_bounded n (paren n) (paren_bounded n))

block_bounded : (n : ℕ) → Bounded n (block n)
block_bounded zero = shut_bounded (List StmtTree) (the terminal.OpenBrace)
block_bounded (suc n) = let e : n + 1 ≡ suc n = omega arith in rw e at (block_in_bounded n (paren n) (paren_bounded n) (block n) (block_bounded n))

names_bounded : (n : ℕ) → Bounded n names
names_bounded n = separated_bounded terminal.Comma n _ (one_bounded terminal.Name n)

locals_bounded : (n : ℕ) → Bounded n locals
locals_bounded n = map_bounded flat n _ (many_bounded (the terminal.Var) n _ (map_bounded var_names n _ (both_bounded n _ _ (one_bounded terminal.Var n) (both_bounded n _ _ (names_bounded n) (one_bounded terminal.Semicolon n)))))

source_bounded : {A : Type 0} (n : ℕ) (q : Parser A) → Bounded n q → Bounded n (source q)
source_bounded n q h = both_bounded n _ _ (one_bounded terminal.Entry n)
    (both_bounded n _ _ (enclosed_bounded n _ (map_bounded given n _ (maybe_bounded (the terminal.Name) n _ (names_bounded n))))
    (both_bounded n _ _ (one_bounded terminal.OpenBrace n) (both_bounded n _ _ (locals_bounded n) (both_bounded n _ _ h (one_bounded terminal.CloseBrace n)))))

pub program_bounded : (n : ℕ) → Bounded n (program n)
program_bounded n = map_bounded program_of n _ (source_bounded n _ (stmts_in_bounded n (paren n) (paren_bounded n) (block n) (block_bounded n)))

pub parallel_bounded : (n : ℕ) → Bounded n (parallel n)
parallel_bounded n = map_bounded parallel_of n _ (source_bounded n _
    (map_bounded processes_of n _ (both_bounded n _ _ (block_bounded n) (both_bounded n _ _ (block_bounded n) (many_bounded (the terminal.OpenBrace) n _ (block_bounded n))))))

-- a parser that is given more levels of nesting than there are symbols
pub never_deep : {A : Type 0} (p : ℕ → Parser A) → ((n : ℕ) → Bounded n (p n)) → (i r : Text) → p (length i + 1) i ≡ Stops Deep r → ⊥
never_deep p bounded i r e = at (subst (λ o. BoundedAt (length i + 1) i o) e (bounded (length i + 1) i))
  where
    at : length i + 1 + length r ≤ length i → ⊥
    at h = absurd (omega arith)
