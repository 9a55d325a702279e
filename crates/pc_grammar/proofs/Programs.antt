-- The laws of programs, and of sources with several processes.
use Rattle.std.proofs.Common.{◌≡◌, ℕ, suc, true, List, [], ◌∷◌, ◌++◌, refl, append_assoc}
use Rattle.pc_grammar.specs.declared.symbol.Symbol.{Symbol}
use Rattle.pc_language.specs.declared.terminal.Terminal.{Terminal}
use Rattle.pc_language.specs.declared.terminal.Terminal.TheVariants as terminal
use Rattle.pc_grammar.specs.declared.tree.StmtTree.{StmtTree}
use Rattle.pc_grammar.specs.Combinators.{Text, Parser, Lang, none, both, is_both}
use Rattle.pc_grammar.specs.Terminals.{among, the, one, is_one}
use Rattle.pc_grammar.specs.Statements.{begins_stmt, is_stmts, is_block}
use Rattle.pc_grammar.specs.Expressions.{is_paren}
use Rattle.pc_grammar.specs.Programs.{given, var_names, flat, program_of, names, params, var_line, locals, source, program, is_names, is_params, is_var_line, is_locals, is_source, is_program}
use Rattle.pc_grammar.specs.Parallels.{processes_of, parallel_of, processes, parallel, is_processes, is_parallel}
use Rattle.pc_grammar.proofs.Combinators.{map_laws, both_laws, maybe_laws}
use Rattle.pc_grammar.proofs.Outcomes.{Laws, Begins, Ends}
use Rattle.pc_grammar.proofs.Repetition.{many_laws}
use Rattle.pc_grammar.proofs.Sets.{apart, parted, parts, fewer, none_ends, one_begins, map_begins, both_begins, many_parts}
use Rattle.pc_grammar.proofs.Expressions.{only, then_laws, closed_laws, one_laws}
use Rattle.pc_grammar.proofs.Statements.{item_laws, separated_laws, enclosed_laws, after_stmts, block_laws, block_begins, stmts_at_laws, stmt_begins}

-- a name and then a comma may go on, and no other list of names may
name_laws : Laws (among []) (is_one terminal.Name) (is_one terminal.Name) (one terminal.Name) (one terminal.Name)
name_laws = closed_laws (among []) _ _ _ _ (one_laws terminal.Name refl)

pub comma_name_laws : Laws (among []) (is_both (is_one terminal.Comma) (is_one terminal.Name)) (is_both (is_one terminal.Comma) (is_one terminal.Name)) (both (one terminal.Comma) (one terminal.Name)) (both (one terminal.Comma) (one terminal.Name))
comma_name_laws = item_laws terminal.Comma refl [] _ _ _ _ name_laws refl

names_laws : Laws (the terminal.Comma) is_names is_names names names
names_laws = separated_laws terminal.Comma refl [] _ _ _ _ name_laws refl (only terminal.Comma) refl refl

names_begins : (a : List Symbol) (w : Text) → is_names a w → Begins (the terminal.Name) w
names_begins = map_begins _ _ _ (both_begins _ _ _ (one_begins (only terminal.Name)))

abbrev after_params : List Terminal
after_params = terminal.Name ∷ terminal.Comma ∷ []

params_laws : Laws none is_params is_params params params
params_laws = enclosed_laws after_params refl _ _ _ _ (map_laws given _ _ _ _ _
    (maybe_laws (the terminal.Name) (the terminal.Comma) (among after_params) _ _ _ _ names_laws names_begins (fewer (only terminal.Name) after_params refl) (fewer (only terminal.Comma) after_params refl)))

pub var_line_laws : Laws none is_var_line is_var_line var_line var_line
var_line_laws = map_laws var_names _ _ _ _ _ (then_laws none _ _ _ _ _ _ _ _ (one_laws terminal.Var refl)
    (both_laws (the terminal.Comma) none none _ _ _ _ _ _ _ _ names_laws (one_laws terminal.Semicolon refl)
    (λ b v r m e. parts (only terminal.Semicolon) (only terminal.Comma) refl v r (one_begins (only terminal.Semicolon) b v m)) (λ r e. e)))

pub var_line_begins : (a : List Symbol) (w : Text) → is_var_line a w → Begins (the terminal.Var) w
var_line_begins = map_begins _ _ _ (both_begins _ _ _ (one_begins (only terminal.Var)))

locals_laws : Laws (the terminal.Var) is_locals is_locals locals locals
locals_laws = map_laws flat _ _ _ _ _ (many_laws (the terminal.Var) none (the terminal.Var) _ _ _ _ var_line_laws var_line_begins (λ v b. none_ends v) (λ r e. e) (λ r e. none_ends r))

-- ---- what stands in the braces of a source

module _ {A : Type 0} (ks : List Terminal) (closes : apart (only terminal.CloseBrace) ks ≡ true) (L L' : Lang A) (q q' : Parser A) (laws : Laws (among ks) L L' q q')
    (opens : (a : A) (w r : Text) → L a w → Ends (the terminal.Var) r → Ends (the terminal.Var) (w ++ r)) where
  -- what follows the locals begins with no "var"
  body_apart : (x : A × Symbol) (v r : Text) → is_both L (is_one terminal.CloseBrace) x v → Ends (the terminal.Var) (v ++ r)
  body_apart x v r (u, w, e, l, m) =
      let brace : Ends (the terminal.Var) (w ++ r) = parts (only terminal.CloseBrace) (only terminal.Var) refl w r (one_begins (only terminal.CloseBrace) x.1 w m) in
      rw (e, append_assoc u w r) (opens x.0 u (w ++ r) l brace)

  pub source_laws : Laws none (is_source L) (is_source L') (source q) (source q')
  source_laws =
      then_laws none _ _ _ _ _ _ _ _ (one_laws terminal.Entry refl)
      (then_laws none _ _ _ _ _ _ _ _ params_laws
      (then_laws none _ _ _ _ _ _ _ _ (one_laws terminal.OpenBrace refl)
      (both_laws (the terminal.Var) none none _ _ _ _ _ _ _ _ locals_laws
      (both_laws (among ks) none none _ _ _ _ _ _ _ _ laws (one_laws terminal.CloseBrace refl)
      (λ b v r m e. parts (only terminal.CloseBrace) ks closes v r (one_begins (only terminal.CloseBrace) b v m)) (λ r e. e))
      (λ b v r m e. body_apart b v r m) (λ r e. e))))

pub program_laws : (n : ℕ) → Laws none (is_program n) (is_program (suc n)) (program n) (program (suc n))
program_laws n = map_laws program_of _ _ _ _ _ (source_laws after_stmts refl _ _ _ _ (stmts_at_laws n)
    (λ a w r l e. many_parts begins_stmt (the terminal.Var) (the terminal.Var) _ (stmt_begins (is_paren n) (is_block n)) (parted begins_stmt (only terminal.Var) refl) (λ q h. h) a w r l e))

-- ---- several processes

pub processes_begin : (n : ℕ) (a : List (List StmtTree)) (w : Text) → is_processes n a w → Begins (the terminal.OpenBrace) w
processes_begin n = map_begins _ _ _ (both_begins _ _ _ (block_begins n))

processes_laws : (n : ℕ) → Laws (the terminal.OpenBrace) (is_processes n) (is_processes (suc n)) (processes n) (processes (suc n))
processes_laws n = map_laws processes_of _ _ _ _ _ (then_laws (the terminal.OpenBrace) _ _ _ _ _ _ _ _ (block_laws n) (then_laws (the terminal.OpenBrace) _ _ _ _ _ _ _ _ (block_laws n)
    (many_laws (the terminal.OpenBrace) none (the terminal.OpenBrace) _ _ _ _ (block_laws n) (block_begins n) (λ v b. none_ends v) (λ r e. e) (λ r e. none_ends r))))

pub parallel_laws : (n : ℕ) → Laws none (is_parallel n) (is_parallel (suc n)) (parallel n) (parallel (suc n))
parallel_laws n = map_laws parallel_of _ _ _ _ _ (source_laws (only terminal.OpenBrace) refl _ _ _ _ (processes_laws n)
    (λ a w r l e. parts (only terminal.OpenBrace) (only terminal.Var) refl w r (processes_begin n a w l)))
