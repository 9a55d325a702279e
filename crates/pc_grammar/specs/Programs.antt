-- Programs, as a parser and as a language:
--   program = "entry" "(" [ names ] ")" "{" { "var" names ";" } { stmt } "}"    names = name { "," name }
use Rattle.std.specs.Prelude.{ℕ, List, [], ◌∷◌, ◌++◌, Option, Some, None}
use Rattle.pc_grammar.specs.declared.symbol.Symbol.{Symbol}
use Rattle.pc_language.specs.declared.terminal.Terminal.TheVariants as terminal
use Rattle.pc_grammar.specs.declared.tree.StmtTree.{StmtTree}
use Rattle.pc_grammar.specs.declared.tree.ProgramTree.{ProgramTree}
use Rattle.pc_grammar.specs.Combinators.{Parser, Lang, both, is_both, map_parser, is_map, maybe, is_maybe, many, is_many}
use Rattle.pc_grammar.specs.Terminals.{the, one, is_one}
use Rattle.pc_grammar.specs.Starts.{Start}
use Rattle.pc_grammar.specs.Statements.{separated, is_separated, enclosed, is_enclosed, stmts, is_stmts}

-- ---- the trees

abbrev pub given : Option (List Symbol) → List Symbol
given None = []
given (Some xs) = xs

abbrev pub var_names : Symbol × (List Symbol × Symbol) → List Symbol
var_names x = x.1.0

abbrev pub flat : List (List Symbol) → List Symbol
flat [] = []
flat (xs ∷ xss) = xs ++ flat xss

abbrev pub program_of : Symbol × (List Symbol × (Symbol × (List Symbol × (List StmtTree × Symbol)))) → ProgramTree
program_of x = record { place = x.0.place; params = x.1.0; locals = x.1.1.1.0; body = x.1.1.1.1.0 }

-- ---- the parsers

abbrev pub names : Parser (List Symbol)
names = separated terminal.Comma (one terminal.Name)

abbrev pub params : Parser (List Symbol)
params = enclosed (map_parser given (maybe (the terminal.Name) names))

abbrev pub var_line : Parser (List Symbol)
var_line = map_parser var_names (both (one terminal.Var) (both names (one terminal.Semicolon)))

abbrev pub locals : Parser (List Symbol)
locals = map_parser flat (many (the terminal.Var) var_line)

-- parameters, and then in braces locals and what is read behind them
abbrev pub source : {A : Type 0} → Parser A → Parser (Symbol × (List Symbol × (Symbol × (List Symbol × (A × Symbol)))))
source q = both (one terminal.Entry) (both params (both (one terminal.OpenBrace) (both locals (both q (one terminal.CloseBrace)))))

abbrev pub program : ℕ → Parser ProgramTree
program n = map_parser program_of (source (stmts n))

-- ---- the languages

abbrev pub is_names : Lang (List Symbol)
is_names = is_separated terminal.Comma (is_one terminal.Name)

abbrev pub is_params : Lang (List Symbol)
is_params = is_enclosed (is_map given (is_maybe is_names))

abbrev pub is_var_line : Lang (List Symbol)
is_var_line = is_map var_names (is_both (is_one terminal.Var) (is_both is_names (is_one terminal.Semicolon)))

abbrev pub is_locals : Lang (List Symbol)
is_locals = is_map flat (is_many is_var_line)

abbrev pub is_source : {A : Type 0} → Lang A → Lang (Symbol × (List Symbol × (Symbol × (List Symbol × (A × Symbol)))))
is_source L = is_both (is_one terminal.Entry) (is_both is_params (is_both (is_one terminal.OpenBrace) (is_both is_locals (is_both L (is_one terminal.CloseBrace)))))

abbrev pub is_program : ℕ → Lang ProgramTree
is_program n = is_map program_of (is_source (is_stmts n))

-- ---- as a start symbol

-- their blocks are those of statements, of which there may be any number
abbrev pub programs : Start
programs = record { Tree = ProgramTree; language = is_program; parser = program; most = None }
