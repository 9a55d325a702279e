-- Sources with several processes, as a parser and as a language:
--   parallel = "entry" "(" [ names ] ")" "{" { "var" names ";" } block block { block } "}"
-- The grammar takes any number of blocks from two on; that they are PROCESSES at most is a limit.
use Rattle.std.specs.Prelude.{ℕ, List, ◌∷◌, Some}
use Rattle.pc_grammar.specs.declared.symbol.Symbol.{Symbol}
use Rattle.pc_language.specs.declared.terminal.Terminal.TheVariants as terminal
use Rattle.pc_grammar.specs.declared.limits.TheConstants.{PROCESSES}
use Rattle.pc_grammar.specs.declared.tree.StmtTree.{StmtTree}
use Rattle.pc_grammar.specs.declared.tree.ParallelTree.{ParallelTree}
use Rattle.pc_grammar.specs.Combinators.{Parser, Lang, both, is_both, map_parser, is_map, many, is_many}
use Rattle.pc_grammar.specs.Terminals.{the}
use Rattle.pc_grammar.specs.Starts.{Start}
use Rattle.pc_grammar.specs.Statements.{block, is_block}
use Rattle.pc_grammar.specs.Programs.{source, is_source}

-- ---- the trees

abbrev pub processes_of : List StmtTree × (List StmtTree × List (List StmtTree)) → List (List StmtTree)
processes_of x = x.0 ∷ x.1.0 ∷ x.1.1

abbrev pub parallel_of : Symbol × (List Symbol × (Symbol × (List Symbol × (List (List StmtTree) × Symbol)))) → ParallelTree
parallel_of x = record { place = x.0.place; params = x.1.0; locals = x.1.1.1.0; bodies = x.1.1.1.1.0 }

-- ---- the parsers

abbrev pub processes : ℕ → Parser (List (List StmtTree))
processes n = map_parser processes_of (both (block n) (both (block n) (many (the terminal.OpenBrace) (block n))))

abbrev pub parallel : ℕ → Parser ParallelTree
parallel n = map_parser parallel_of (source (processes n))

-- ---- the languages

abbrev pub is_processes : ℕ → Lang (List (List StmtTree))
is_processes n = is_map processes_of (is_both (is_block n) (is_both (is_block n) (is_many (is_block n))))

abbrev pub is_parallel : ℕ → Lang ParallelTree
is_parallel n = is_map parallel_of (is_source (is_processes n))

-- ---- as a start symbol

abbrev pub parallels : Start
parallels = record { Tree = ParallelTree; language = is_parallel; parser = parallel; most = Some PROCESSES }
