-- Tests, statements and blocks, as parsers and as languages:
--   stmt = name "=" right ";" | "if" "(" test ")" block [ "else" block ] | "while" "(" test ")" [ "try" "(" all ")" ] block
--        | "assert" "(" all ")" ";" | "assume" "(" all ")" ";"
--   block = "{" { stmt } "}"    test = "*" | all    all = compare { "&&" compare }    compare = expr op expr    op = "<" | "<=" | ">" | ">=" | "==" | "!="
-- A missing "else" is an empty list, and where "try" is missing no comparisons are tried. A level of nesting is a block.
use Rattle.std.specs.Prelude.{ℕ, zero, suc, List, [], ◌∷◌, Option, Some, None}
use Rattle.pc_grammar.specs.declared.symbol.Symbol.{Symbol}
use Rattle.pc_language.specs.declared.terminal.Terminal.{Terminal}
use Rattle.pc_language.specs.declared.terminal.Terminal.TheVariants as terminal
use Rattle.pc_grammar.specs.declared.tree.ExprTree.{ExprTree}
use Rattle.pc_language.specs.declared.operator.Op.{Op}
use Rattle.pc_language.specs.declared.operator.Op.TheVariants as op_is
use Rattle.pc_grammar.specs.declared.tree.CompareTree.{CompareTree}
use Rattle.pc_grammar.specs.declared.tree.TestTree.{TestTree}
use Rattle.pc_grammar.specs.declared.tree.TestTree.TheVariants as test_is
use Rattle.pc_grammar.specs.declared.tree.RightTree.{RightTree}
use Rattle.pc_grammar.specs.declared.tree.StmtTree.{StmtTree}
use Rattle.pc_grammar.specs.declared.tree.StmtTree.TheVariants as stmt_is
use Rattle.pc_grammar.specs.Combinators.{Parser, Lang, both, is_both, map_parser, is_map, either, is_either, maybe, is_maybe, many, is_many, shut, is_dead}
use Rattle.pc_grammar.specs.Terminals.{among, the, one, is_one, one_of, is_one_of}
use Rattle.pc_grammar.specs.Expressions.{inner, expr_in, is_expr_in, paren, is_paren}
use Rattle.pc_grammar.specs.Rights.{right, is_right}

abbrev pub operators : List Terminal
operators = terminal.Less ∷ terminal.AtMost ∷ terminal.Greater ∷ terminal.AtLeast ∷ terminal.Equal ∷ terminal.Unequal ∷ []

abbrev pub begins_stmt : List Terminal
begins_stmt = terminal.Name ∷ terminal.If ∷ terminal.While ∷ terminal.Assert ∷ terminal.Assume ∷ []

-- ---- lists whose items are parted by one terminal

abbrev pub seconds : {A : Type 0} → List (Symbol × A) → List A
seconds [] = []
seconds (y ∷ ys) = y.1 ∷ seconds ys

abbrev pub all_items : {A : Type 0} → A × List (Symbol × A) → List A
all_items x = x.0 ∷ seconds x.1

abbrev pub separated : {A : Type 0} → Terminal → Parser A → Parser (List A)
separated k p = map_parser all_items (both p (many (the k) (both (one k) p)))

abbrev pub is_separated : {A : Type 0} → Terminal → Lang A → Lang (List A)
is_separated k L = is_map all_items (is_both L (is_many (is_both (is_one k) L)))

-- ---- a list behind a keyword; where the keyword is missing the list is empty

abbrev pub optional : {A : Type 0} → Option (Symbol × List A) → List A
optional None = []
optional (Some x) = x.1

abbrev pub after : {A : Type 0} → Terminal → Parser (List A) → Parser (List A)
after k q = map_parser optional (maybe (the k) (both (one k) q))

abbrev pub is_after : {A : Type 0} → Terminal → Lang (List A) → Lang (List A)
is_after k L = is_map optional (is_maybe (is_both (is_one k) L))

-- ---- what stands in parentheses

abbrev pub enclosed : {A : Type 0} → Parser A → Parser A
enclosed q = map_parser inner (both (one terminal.OpenParen) (both q (one terminal.CloseParen)))

abbrev pub is_enclosed : {A : Type 0} → Lang A → Lang A
is_enclosed L = is_map inner (is_both (is_one terminal.OpenParen) (is_both L (is_one terminal.CloseParen)))

-- ---- the trees

-- what one of the operators asks
abbrev pub op_of : Terminal → Op
op_of terminal.AtMost = op_is.AtMost
op_of terminal.Greater = op_is.Greater
op_of terminal.AtLeast = op_is.AtLeast
op_of terminal.Equal = op_is.Equal
op_of terminal.Unequal = op_is.Unequal
op_of _ = op_is.Less

abbrev pub compare_of : ExprTree × (Symbol × ExprTree) → CompareTree
compare_of x = record { op = op_of x.1.0.terminal; left = x.0; right = x.1.1; place = x.1.0.place }

abbrev pub any : Symbol → TestTree
any s = test_is.Any

abbrev pub holds : List CompareTree → TestTree
holds xs = test_is.All xs

abbrev pub set_of : Symbol × (Symbol × (RightTree × Symbol)) → StmtTree
set_of x = stmt_is.Set x.0 x.1.1.0

abbrev pub if_of : Symbol × (TestTree × (List StmtTree × List StmtTree)) → StmtTree
if_of x = stmt_is.If x.0.place x.1.0 x.1.1.0 x.1.1.1

abbrev pub while_of : Symbol × (TestTree × (List CompareTree × List StmtTree)) → StmtTree
while_of x = stmt_is.While x.0.place x.1.0 x.1.1.0 x.1.1.1

abbrev pub assert_of : Symbol × (List CompareTree × Symbol) → StmtTree
assert_of x = stmt_is.Assert x.0.place x.1.0

abbrev pub assume_of : Symbol × (List CompareTree × Symbol) → StmtTree
assume_of x = stmt_is.Assume x.0.place x.1.0

-- ---- comparisons and tests, given the parser of an expression in parentheses

module _ (p : Parser ExprTree) where
  abbrev pub compare : Parser CompareTree
  compare = map_parser compare_of (both (expr_in p) (both (one_of operators) (expr_in p)))

  abbrev pub all : Parser (List CompareTree)
  all = separated terminal.And compare

  abbrev pub test : Parser TestTree
  test = either (the terminal.Star) (map_parser any (one terminal.Star)) (map_parser holds all)

module _ (P : Lang ExprTree) where
  abbrev pub is_compare : Lang CompareTree
  is_compare = is_map compare_of (is_both (is_expr_in P) (is_both (is_one_of operators) (is_expr_in P)))

  abbrev pub is_all : Lang (List CompareTree)
  is_all = is_separated terminal.And is_compare

  abbrev pub is_test : Lang TestTree
  is_test = is_either (is_map any (is_one terminal.Star)) (is_map holds is_all)

-- ---- statements, given the parser of a block too

module _ (p : Parser ExprTree) where
  abbrev pub set_stmt : Parser StmtTree
  set_stmt = map_parser set_of (both (one terminal.Name) (both (one terminal.Assign) (both (right p) (one terminal.Semicolon))))

  abbrev pub tried : Parser (List CompareTree)
  tried = after terminal.Try (enclosed (all p))

  abbrev pub assert_stmt : Parser StmtTree
  assert_stmt = map_parser assert_of (both (one terminal.Assert) (both (enclosed (all p)) (one terminal.Semicolon)))

  abbrev pub assume_stmt : Parser StmtTree
  assume_stmt = map_parser assume_of (both (one terminal.Assume) (both (enclosed (all p)) (one terminal.Semicolon)))

module _ (p : Parser ExprTree) (b : Parser (List StmtTree)) where
  abbrev pub if_stmt : Parser StmtTree
  if_stmt = map_parser if_of (both (one terminal.If) (both (enclosed (test p)) (both b (after terminal.Else b))))

  abbrev pub while_stmt : Parser StmtTree
  while_stmt = map_parser while_of (both (one terminal.While) (both (enclosed (test p)) (both (tried p) b)))

  abbrev pub stmt : Parser StmtTree
  stmt = either (the terminal.Name) (set_stmt p) (either (the terminal.If) if_stmt (either (the terminal.While) while_stmt (either (the terminal.Assert) (assert_stmt p) (assume_stmt p))))

  abbrev pub stmts_in : Parser (List StmtTree)
  stmts_in = many (among begins_stmt) stmt

  abbrev pub block_in : Parser (List StmtTree)
  block_in = map_parser inner (both (one terminal.OpenBrace) (both stmts_in (one terminal.CloseBrace)))

abbrev pub block : ℕ → Parser (List StmtTree)
block zero = shut (the terminal.OpenBrace)
block (suc n) = block_in (paren n) (block n)

abbrev pub stmts : ℕ → Parser (List StmtTree)
stmts n = stmts_in (paren n) (block n)

module _ (P : Lang ExprTree) where
  abbrev pub is_set_stmt : Lang StmtTree
  is_set_stmt = is_map set_of (is_both (is_one terminal.Name) (is_both (is_one terminal.Assign) (is_both (is_right P) (is_one terminal.Semicolon))))

  abbrev pub is_tried : Lang (List CompareTree)
  is_tried = is_after terminal.Try (is_enclosed (is_all P))

  abbrev pub is_assert_stmt : Lang StmtTree
  is_assert_stmt = is_map assert_of (is_both (is_one terminal.Assert) (is_both (is_enclosed (is_all P)) (is_one terminal.Semicolon)))

  abbrev pub is_assume_stmt : Lang StmtTree
  is_assume_stmt = is_map assume_of (is_both (is_one terminal.Assume) (is_both (is_enclosed (is_all P)) (is_one terminal.Semicolon)))

module _ (P : Lang ExprTree) (B : Lang (List StmtTree)) where
  abbrev pub is_if_stmt : Lang StmtTree
  is_if_stmt = is_map if_of (is_both (is_one terminal.If) (is_both (is_enclosed (is_test P)) (is_both B (is_after terminal.Else B))))

  abbrev pub is_while_stmt : Lang StmtTree
  is_while_stmt = is_map while_of (is_both (is_one terminal.While) (is_both (is_enclosed (is_test P)) (is_both (is_tried P) B)))

  abbrev pub is_stmt : Lang StmtTree
  is_stmt = is_either (is_set_stmt P) (is_either is_if_stmt (is_either is_while_stmt (is_either (is_assert_stmt P) (is_assume_stmt P))))

  abbrev pub is_stmts_in : Lang (List StmtTree)
  is_stmts_in = is_many is_stmt

  abbrev pub is_block_in : Lang (List StmtTree)
  is_block_in = is_map inner (is_both (is_one terminal.OpenBrace) (is_both is_stmts_in (is_one terminal.CloseBrace)))

abbrev pub is_block : ℕ → Lang (List StmtTree)
is_block zero = is_dead
is_block (suc n) = is_block_in (is_paren n) (is_block n)

abbrev pub is_stmts : ℕ → Lang (List StmtTree)
is_stmts n = is_stmts_in (is_paren n) (is_block n)
