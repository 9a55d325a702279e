-- Expressions, as parsers and as languages:
--   expr = addend { ( "+" | "-" ) addend }    addend = factor { "*" factor }    factor = [ "-" ] atom    atom = number | name | "(" expr ")"
-- Sums and products associate to the left. A level of nesting is a pair of parentheses.
use Rattle.std.specs.Prelude.{ℕ, zero, suc, Bool, true, false, List, [], ◌∷◌, Option, Some, None}
use Rattle.pc_grammar.specs.declared.symbol.Symbol.{Symbol}
use Rattle.pc_language.specs.declared.terminal.Terminal.{Terminal}
use Rattle.pc_language.specs.declared.terminal.Terminal.TheVariants as terminal
use Rattle.pc_grammar.specs.declared.tree.ExprTree.{ExprTree}
use Rattle.pc_grammar.specs.declared.tree.ExprTree.TheVariants as expr_is
use Rattle.pc_grammar.specs.Combinators.{Parser, Lang, both, is_both, map_parser, is_map, either, is_either, maybe, is_maybe, many, is_many, shut, is_dead}
use Rattle.pc_grammar.specs.Terminals.{among, the, one, is_one, one_of, is_one_of}

abbrev pub signs : List Terminal
signs = terminal.Plus ∷ terminal.Minus ∷ []

-- ---- the trees

abbrev pub number : Symbol → ExprTree
number s = expr_is.Num s.number

abbrev pub name : Symbol → ExprTree
name s = expr_is.Name s

abbrev pub signed : Option Symbol × ExprTree → ExprTree
signed (None, x) = x
signed (Some s, x) = expr_is.Neg x s.place

abbrev pub product : ExprTree → Symbol × ExprTree → ExprTree
product x y = expr_is.Mul x y.1 y.0.place

abbrev pub products : ExprTree → List (Symbol × ExprTree) → ExprTree
products x [] = x
products x (y ∷ ys) = products (product x y) ys

abbrev pub sum_if : Bool → ExprTree → Symbol × ExprTree → ExprTree
sum_if true x y = expr_is.Sub x y.1 y.0.place
sum_if false x y = expr_is.Add x y.1 y.0.place

-- the sum, or at a minus sign the difference
abbrev pub sum : ExprTree → Symbol × ExprTree → ExprTree
sum x y = sum_if (the terminal.Minus y.0) x y

abbrev pub sums : ExprTree → List (Symbol × ExprTree) → ExprTree
sums x [] = x
sums x (y ∷ ys) = sums (sum x y) ys

abbrev pub all_products : ExprTree × List (Symbol × ExprTree) → ExprTree
all_products x = products x.0 x.1

abbrev pub all_sums : ExprTree × List (Symbol × ExprTree) → ExprTree
all_sums x = sums x.0 x.1

-- what stands between two symbols
abbrev pub inner : {A : Type 0} → Symbol × (A × Symbol) → A
inner x = x.1.0

-- ---- the parsers, given that of an expression in parentheses

module _ (paren : Parser ExprTree) where
  abbrev pub atom : Parser ExprTree
  atom = either (the terminal.Number) (map_parser number (one terminal.Number)) (either (the terminal.Name) (map_parser name (one terminal.Name)) paren)

  abbrev pub factor : Parser ExprTree
  factor = map_parser signed (both (maybe (the terminal.Minus) (one terminal.Minus)) atom)

  abbrev pub star_factor : Parser (Symbol × ExprTree)
  star_factor = both (one terminal.Star) factor

  abbrev pub addend : Parser ExprTree
  addend = map_parser all_products (both factor (many (the terminal.Star) star_factor))

  abbrev pub sign_addend : Parser (Symbol × ExprTree)
  sign_addend = both (one_of signs) addend

  abbrev pub expr_in : Parser ExprTree
  expr_in = map_parser all_sums (both addend (many (among signs) sign_addend))

  abbrev pub paren_in : Parser ExprTree
  paren_in = map_parser inner (both (one terminal.OpenParen) (both expr_in (one terminal.CloseParen)))

abbrev pub paren : ℕ → Parser ExprTree
paren zero = shut (the terminal.OpenParen)
paren (suc n) = paren_in (paren n)

abbrev pub expr : ℕ → Parser ExprTree
expr n = expr_in (paren n)

-- ---- the languages

module _ (P : Lang ExprTree) where
  abbrev pub is_atom : Lang ExprTree
  is_atom = is_either (is_map number (is_one terminal.Number)) (is_either (is_map name (is_one terminal.Name)) P)

  abbrev pub is_factor : Lang ExprTree
  is_factor = is_map signed (is_both (is_maybe (is_one terminal.Minus)) is_atom)

  abbrev pub is_star_factor : Lang (Symbol × ExprTree)
  is_star_factor = is_both (is_one terminal.Star) is_factor

  abbrev pub is_addend : Lang ExprTree
  is_addend = is_map all_products (is_both is_factor (is_many is_star_factor))

  abbrev pub is_sign_addend : Lang (Symbol × ExprTree)
  is_sign_addend = is_both (is_one_of signs) is_addend

  abbrev pub is_expr_in : Lang ExprTree
  is_expr_in = is_map all_sums (is_both is_addend (is_many is_sign_addend))

  abbrev pub is_paren_in : Lang ExprTree
  is_paren_in = is_map inner (is_both (is_one terminal.OpenParen) (is_both is_expr_in (is_one terminal.CloseParen)))

abbrev pub is_paren : ℕ → Lang ExprTree
is_paren zero = is_dead
is_paren (suc n) = is_paren_in (is_paren n)

abbrev pub is_expr : ℕ → Lang ExprTree
is_expr n = is_expr_in (is_paren n)
